-- One side of a stored book, as a question sees it: its level rows with its records, and the orders of the rules that they stand for.
-- rs are the records, lv the level rows of the side, n of them used. Assumes nothing.
use Rattle.std.specs.Prelude.{ℕ, ◌+◌, ◌≤◌, Bool, false, List, [], reverse, ◌∷◌, ◌≡◌}
use Rattle.rules.specs.Rules.{Level, Side, any_above, ask, bid, levels, most}
use Rattle.records.specs.Rows.{RecordAt, field, record_count}
use Rattle.arena.specs.Free.{Chain, chain}
use Rattle.arena.specs.Times.{times}
use Rattle.side.specs.Levels.{Ladder, ups}
use Rattle.side.specs.Orders.{orders_in}
use Rattle.side.specs.Read.{levels_in}
use Rattle.ledger.specs.Desk.{Busy}

-- the rows store a side: prices strictly ascending, none without an order, and each order is a record
pub record Standing (rs lv : List ℕ) (n : ℕ) : Type 0 where
  pub ladder : Ladder rs lv n (levels_in rs lv n)
  pub busy : Busy (levels_in rs lv n)
  pub rows : (x : ℕ) → 1 ≤ times x (ups (levels_in rs lv n)) → RecordAt rs x

-- ## Its levels

-- the levels of side sd, which stand best first, ascending
abbrev pub ascending : Side → List Level → List Level
ascending bid l = reverse l
ascending ask l = l

-- no level's total exceeds 2^64 - 1, on whichever side these orders are
pub record Fitting (rs lv : List ℕ) (n : ℕ) : Type 0 where
  pub on : Side
  pub fnd : ℕ → Bool
  pub fits : any_above most (levels (orders_in on rs fnd lv n)) ≡ false

-- ## One queue

-- its codes, from h on
abbrev pub queue_in : List ℕ → ℕ → List ℕ
queue_in rs h = chain (record_count rs) rs h

-- it ends, and each of its orders is a record
pub record QueueIn (rs : List ℕ) (h : ℕ) : Type 0 where
  pub ends : Chain rs h (queue_in rs h)
  pub rows : (x : ℕ) → 1 ≤ times x (queue_in rs h) → RecordAt rs x

-- the quantities of the orders at these codes
abbrev pub quantities : List ℕ → List ℕ → ℕ
quantities rs [] = 0
quantities rs (c ∷ l) = field rs 1 c + quantities rs l
