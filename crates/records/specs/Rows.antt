-- How records are stored: rows of 5 numbers, whose columns are
--   0 id    1 quantity    2 price    3 next    4 previous
-- A record is named by its code, its row + 1, and 0 is none. So row r starts at place r * 5, and holds the record of code r + 1.
-- `next` and `previous` are codes: of the neighbours in a queue, or (next alone) of the free place behind. Assumes nothing.
use Rattle.std.specs.Prelude.{ℕ, ◌*◌, ◌+◌, ◌-◌, ◌/◌, ◌<◌, ◌≤◌, List, get_or, length, set}

-- how many records there are
abbrev pub record_count : List ℕ → ℕ
record_count rs = length rs / 5

-- the number in column f of the record of code c
abbrev pub field : List ℕ → ℕ → ℕ → ℕ
field rs f c = get_or rs ((c - 1) * 5 + f) 0

-- the records with v in column f of the record of code c
abbrev pub put : List ℕ → ℕ → ℕ → ℕ → List ℕ
put rs f c v = set rs ((c - 1) * 5 + f) v

-- c is the code of a record
pub record RecordAt (rs : List ℕ) (c : ℕ) : Type 0 where
  pub some : 1 ≤ c
  pub inside : (c - 1) * 5 + 4 < length rs
