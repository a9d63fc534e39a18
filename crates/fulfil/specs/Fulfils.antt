-- What an order that is carried out asks of the stored book, and what it comes to by the rules. Assumes nothing.
use Rattle.std.specs.Prelude.{ℕ, ◌<◌, ◌≤◌, ◌≡◌, Bool, false, not, ◌&&◌, List, leb, length, Option, Some, None}
use Rattle.std.proofs.Math.Option as maybe
use Rattle.rules.specs.Rules as rule
use Rattle.models.specs.declared.OrderEvent.{OrderEvent}
use Rattle.stats.specs.declared.Statistics.{Statistics}
use Rattle.models.specs.declared.Price.{Price}
use Rattle.models.specs.Readings.{event_of, side_of}
use Rattle.stats.specs.Statistics.{statistics_of, totals_of}
use Rattle.rows.specs.Rows.{fill_row, places, written}
use Rattle.records.specs.Rows.{record_count}
use Rattle.ledger.specs.declared.OrderBook.{OrderBook}
use Rattle.ledger.specs.Stock.{Stock}
use Rattle.ledger.specs.Desk.{LeavesAs, Tidy, read_book, stored_book}
use Rattle.ledger.specs.Doors.{RoomOn, rest_in}
use Rattle.survey.specs.declared.Taker.{Taker}
use Rattle.survey.specs.declared.Outlook.{Outlook}
use Rattle.survey.specs.Surveyed.{surveyed}
use Rattle.survey.specs.Taker.{taker_of}
use Rattle.matching.specs.declared.Last.{Last}
use Rattle.order.specs.Decided.{decided, remains, totals_by}
use Rattle.fulfil.specs.Stock.{Sound, read_desk}

-- ## What is found out before

-- s is what the order t would do, whatever the room and the search
abbrev pub Foretells : Taker → OrderBook → List ℕ → List ℕ → List ℕ → Outlook → Type 0
Foretells t b rs bd ak s = (room : ℕ) (se : List ℕ)
    → s ≡ surveyed (rule.outcome (taker_of room t) (rule.own (rule.opposite (side_of t.side)) (stored_book rs bd ak se b.bids b.asks)))

-- the price p is new to the orders l, whose side has no row left of n
abbrev pub no_row : ℕ → ℕ → List (rule.Order (Unit {0})) → Bool
no_row n p l = not (rule.occupied p l) && leb n (length (rule.levels l))

-- ## The remainder

-- the remainder can rest at the price `at`, if there is one
pub record CanSettle (at : Option Price) (t : Taker) (k : Stock) : Type 0 where
  pub tidy : Tidy k
  pub place : (p : Price) → at ≡ Some p → k.book.resting < record_count k.records
  pub row : (p : Price) → at ≡ Some p → RoomOn (side_of t.side) k p.0

-- b is the book before: the remainder rests, or nothing changes
pub record Settles (at : Option Price) (t : Taker) (left : ℕ) (b : rule.Book (Unit {0})) (k : Stock) : Type 0 where
  pub stands : (p : Price) → at ≡ Some p → LeavesAs (rest_in (side_of t.side) t.id.0 left p.0 b) k
  pub lapses : at ≡ None → LeavesAs b k

-- ## The statistics

-- the fills that the outlook s tells of are not too large for the statistics
pub record CanTrack (t : Taker) (s : Outlook) (st : Statistics) : Type 0 where
  pub left : s.left.0 ≤ t.qty.0
  pub fills : List (rule.Fill (Unit {0}))
  pub totals : totals_of fills ≡ totals_by t s
  pub small : rule.too_large fills (statistics_of st) ≡ false

-- st' is what such fills make of the statistics st
abbrev pub Tracks : Taker → Outlook → Last → Statistics → Statistics → Type 0
Tracks t s last st st' = (l : List (rule.Fill (Unit {0}))) → totals_of l ≡ totals_by t s → rule.too_large l (statistics_of st) ≡ false
    → rule.last_price l ≡ last.price.0 → rule.last_quantity l ≡ last.qty.0 → statistics_of st' ≡ rule.stats_after l (statistics_of st)

-- ## An order that is not refused

-- the book is sound at some size, s is what the order would do, a remainder would rest at the price `at` if there is one, and nothing speaks against it
pub record Accepted (t : Taker) (s : Outlook) (at : Option Price) (k : Stock) (st : Statistics) (out : List ℕ) : Type 0 where
  pub size : rule.Size
  pub crowded : Bool
  pub sound : Sound size k
  pub foretold : Foretells t k.book k.records k.bids k.asks s
  pub at_is : at ≡ remains t.limit s.left.0
  pub crowded_is : (p : Price) → at ≡ Some p → crowded ≡ no_row size.prices p.0 (rule.own (side_of t.side) (read_book k))
  pub fine : decided (places fill_row out) t s st at (leb size.orders k.book.resting) crowded ≡ maybe.none

-- it is carried out as the rules say: the event e with its fills, a tidy stock that reads with the statistics as the rules' desk then;
-- the fills stand in the buffer, and what lies beyond them keeps its value
pub record Fulfils (t : Taker) (k : Stock) (st : Statistics) (out : List ℕ) (e : OrderEvent) (k' : Stock) (st' : Statistics) (out' : List ℕ) : Type 0 where
  pub fills : List (rule.Fill (Unit {0}))
  pub answer : (rule.carried (read_desk k st) (taker_of (places fill_row out) t)).answer ≡ rule.done (event_of e) fills
  pub tidy : Tidy k'
  pub desk : read_desk k' st' ≡ (rule.carried (read_desk k st) (taker_of (places fill_row out) t)).desk
  pub rows : out' ≡ written fill_row out 0 fills
