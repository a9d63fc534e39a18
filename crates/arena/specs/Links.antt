-- The queue of a price, as it is stored: its records are tied by their columns 3 (next) and 4 (previous),
-- and its level's row has the codes of the first and the last. Level rows are 3 numbers: price, head, tail; row k starts at place k * 3.
-- Node 0 of a queue is its row. Assumes nothing.
use Rattle.std.specs.Prelude.{suc, zero, ℕ, ◌*◌, ◌+◌, List, get_or, set}
use Rattle.records.specs.Rows.{field, put}

-- the three numbers of row k
abbrev pub price_of : List ℕ → ℕ → ℕ
price_of lv k = get_or lv (k * 3) 0

abbrev pub head_of : List ℕ → ℕ → ℕ
head_of lv k = get_or lv (k * 3 + 1) 0

abbrev pub tail_of : List ℕ → ℕ → ℕ
tail_of lv k = get_or lv (k * 3 + 2) 0

-- where node x leads by column f, if node 0 has h (its row's head or tail)
abbrev pub link : List ℕ → ℕ → ℕ → ℕ → ℕ
link rs f h zero = h
link rs f h (suc r) = field rs f (suc r)

-- node p tied to v by column f: what that makes of the records, and of the rows, where node 0's number stands at `at`
abbrev pub link_rs : List ℕ → ℕ → ℕ → ℕ → List ℕ
link_rs rs f zero v = rs
link_rs rs f (suc r) v = put rs f (suc r) v

abbrev pub link_lv : List ℕ → ℕ → ℕ → ℕ → List ℕ
link_lv lv at zero v = set lv at v
link_lv lv at (suc r) v = lv

-- p and n tied to each other, in row k's queue: what came between them is out
abbrev pub untied : List ℕ → ℕ → ℕ → List ℕ
untied rs p n = link_rs (link_rs rs 3 p n) 4 n p

abbrev pub untied_row : List ℕ → ℕ → ℕ → ℕ → List ℕ
untied_row lv k p n = link_lv (link_lv lv (k * 3 + 1) p n) (k * 3 + 2) n p

-- c behind t, the last of row k's queue
abbrev pub appended : List ℕ → ℕ → ℕ → List ℕ
appended rs t c = put (put (link_rs rs 3 t c) 3 c 0) 4 c t

abbrev pub appended_row : List ℕ → ℕ → ℕ → ℕ → List ℕ
appended_row lv k t c = set (link_lv lv (k * 3 + 1) t c) (k * 3 + 2) c
