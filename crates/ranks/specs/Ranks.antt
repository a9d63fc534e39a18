-- What the parts of the check of queues and sides answer: the queue of a price, the rows of a side, and sides that lie apart. Assumes nothing.
use Rattle.std.specs.Prelude.{suc, zero, ℕ, ◌+◌, ◌-◌, ◌<◌, ◌≤◌, Bool, cond, false, List, MatchOption, Option, ◌≡◌, eqb, leb, length}
use Rattle.records.specs.Rows.{RecordAt, field, record_count}
use Rattle.arena.specs.Free.{chain}
use Rattle.arena.specs.Links.{head_of, link, price_of, tail_of}
use Rattle.arena.specs.Ring.{Run}
use Rattle.arena.specs.Times.{times}
use Rattle.side.specs.Levels.{ups}
use Rattle.side.specs.Read.{levels_in}
use Rattle.table.specs.Entries.{found_among}
use Rattle.ranks.specs.declared.Tally.{Tally}

-- ## Queues

-- c is an order of this price
pub record Under (rs : List ℕ) (price c : ℕ) : Type 0 where
  pub row : RecordAt rs c
  pub some : 1 ≤ field rs 1 c
  pub own : field rs 2 c ≡ price

-- the queue of a price: from its head on, tied both ways to its tail, occupied, and each of it an order of that price
pub record QueueAt (rs : List ℕ) (price head tail : ℕ) : Type 0 where
  pub ring : Run (link rs 3 head) (link rs 4 tail) 0 (chain (record_count rs) rs head) 0
  pub busy : 1 ≤ length (chain (record_count rs) rs head)
  pub under : (c : ℕ) → 1 ≤ times c (chain (record_count rs) rs head) → Under rs price c

-- whether the record of code c can stand in a queue of this price behind p
unfoldable pub fit : List ℕ → ℕ → ℕ → ℕ → Bool
fit rs price p c = cond (leb c (record_count rs)) (cond (eqb (field rs 1 c) 0) false (cond (eqb (field rs 2 c) price) (eqb (field rs 4 c) p) false)) false

-- the length of a queue from c on, with p before it and n counted before; 0 where it is wrong or has more than k
unfoldable pub walked : List ℕ → ℕ → ℕ → ℕ → ℕ → ℕ → ℕ → ℕ
walked rs price tail zero p zero n = cond (eqb p tail) n 0
walked rs price tail zero p (suc r) n = 0
walked rs price tail (suc k) p zero n = cond (eqb p tail) n 0
walked rs price tail (suc k) p (suc r) n = cond (fit rs price p (suc r)) (walked rs price tail k (suc r) (field rs 3 (suc r)) (n + 1)) 0

-- t has the orders that a walk of at most `most` counts, at least one, and how many of them the search finds
pub record Counts (se rs : List ℕ) (price head tail most : ℕ) (t : Tally) : Type 0 where
  pub some : 1 ≤ t.orders
  pub within : t.orders ≤ most
  pub orders : t.orders ≡ walked rs price tail most 0 head 0
  pub found : t.found ≡ found_among se rs (chain most rs head)

-- what a walk of at most `most` counts; nothing where it counts none
abbrev pub Walks : List ℕ → List ℕ → ℕ → ℕ → ℕ → ℕ → Option Tally → Type 0
Walks se rs price head tail most r = MatchOption r (walked rs price tail most 0 head 0 ≡ 0) (Counts se rs price head tail most)

-- ## Sides

-- row i's price is above the one before
abbrev pub Rises : List ℕ → ℕ → Type 0
Rises lv i = 1 ≤ i → price_of lv (i - 1) < price_of lv i

-- the first n rows of a side are right
pub record SideRight (rs lv : List ℕ) (n : ℕ) : Type 0 where
  pub queue : (i : ℕ) → i < n → QueueAt rs (price_of lv i) (head_of lv i) (tail_of lv i)
  pub rises : (i : ℕ) → i < n → Rises lv i

-- they are right, t has the number of their orders, at most `most`, and how many of them the search finds
pub record SideCounts (se rs lv : List ℕ) (n most : ℕ) (t : Tally) : Type 0 where
  pub right : SideRight rs lv n
  pub within : t.orders ≤ most
  pub orders : length (ups (levels_in rs lv n)) ≡ t.orders
  pub found : found_among se rs (ups (levels_in rs lv n)) ≡ t.found

-- what there is to count; nothing where they are wrong or have more than `most`
abbrev pub Totals : List ℕ → List ℕ → List ℕ → ℕ → ℕ → Option Tally → Type 0
Totals se rs lv n most r = MatchOption r (SideRight rs lv n → length (ups (levels_in rs lv n)) ≤ most → ⊥) (SideCounts se rs lv n most)

-- the highest bid is below the lowest ask
abbrev pub Parted : List ℕ → List ℕ → ℕ → ℕ → Type 0
Parted bd ak nb na = 1 ≤ nb → 1 ≤ na → price_of bd (nb - 1) < price_of ak 0
