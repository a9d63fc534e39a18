-- What an order makes of the book that is stored, its remainder aside. Assumes nothing.
use Rattle.std.specs.Prelude.{ℕ, ◌≤◌, List, ◌≡◌, drop, length}
use Rattle.rules.specs.Rules.{Book, Outcome, Side, book, last_price, last_quantity, opposite, outcome, own}
use Rattle.rules.specs.Whole.{Whole}
use Rattle.models.specs.Readings.{side_of}
use Rattle.rows.specs.Rows.{fill_row, places, written}
use Rattle.ledger.specs.Stock.{Stock}
use Rattle.ledger.specs.Desk.{Tidy, LeavesAs, read_book}
use Rattle.survey.specs.declared.Taker.{Taker}
use Rattle.survey.specs.Surveyed.{wholes}
use Rattle.survey.specs.Taker.{met_side, taker_of}
use Rattle.matching.specs.declared.Last.{Last}

-- the book without the n best orders of side sd
abbrev pub swept : Side → ℕ → Book (Unit {0}) → Book (Unit {0})
swept sd n k = book sd (drop n (own sd k)) (own (opposite sd) k)

-- what comes of the order u among the makers of the book k
abbrev pub comes : ℕ → Taker → Book (Unit {0}) → Outcome (Unit {0})
comes room u k = outcome (taker_of room u) (own (met_side u) k)

-- the book once it has traded: the makers that are left, and its own side as before
abbrev pub after_trade : ℕ → Taker → Book (Unit {0}) → Book (Unit {0})
after_trade room u k = book (met_side u) (comes room u k).left (own (side_of u.side) k)

-- the book of storage is whole, n makers are to be used up, and `out` has a place for each fill
pub record CanTrade (u : Taker) (n : ℕ) (k : Stock) (out : List ℕ) : Type 0 where
  pub tidy : Tidy k
  pub whole : Whole (read_book k)
  pub used : (room : ℕ) → n ≡ wholes (comes room u (read_book k)).fills
  pub room : (room : ℕ) → length (comes room u (read_book k)).fills ≤ places fill_row out

-- b is the book before; the fills stand from the start of the buffer, and what lay beyond stays
pub record Trades (u : Taker) (b : Book (Unit {0})) (out : List ℕ) (k : Stock) (out' : List ℕ) (last : Last) : Type 0 where
  pub book : (room : ℕ) → LeavesAs (after_trade room u b) k
  pub fills : (room : ℕ) → out' ≡ written fill_row out 0 (comes room u b).fills
  pub price : (room : ℕ) → last.price.0 ≡ last_price (comes room u b).fills
  pub quantity : (room : ℕ) → last.qty.0 ≡ last_quantity (comes room u b).fills
