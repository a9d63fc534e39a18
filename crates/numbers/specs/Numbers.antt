-- How the small values and the answers stand in numbers: the twelve numbers of a desk, and the four of an answer. Assumes nothing.
use Rattle.std.specs.Prelude.{ℕ, Bool, false, true, not, cond, List, [], ◌∷◌, eqb, get_or, Option, Some, None}
use Rattle.std.specs.Float.{binary64}
use Rattle.std.specs.Float.Ieee.{to_bits, of_bits}
use Rattle.models.specs.declared.BookDepth.{BookDepth}
use Rattle.models.specs.declared.OrderEvent.{OrderEvent}
use Rattle.models.specs.declared.OrderEvent.TheVariants.{Unfilled, Placed, Canceled, PartiallyFilled, Filled}
use Rattle.stats.specs.declared.Statistics.{Statistics}
use Rattle.stats.specs.declared.Trade.{Trade}
use Rattle.ledger.specs.declared.OrderBook.{OrderBook}
use Rattle.models.specs.declared.Price.{Price}
use Rattle.depth.specs.declared.Resting.{Resting}

-- ---- the twelve numbers of a desk: resting orders, first free code, bid rows, ask rows; tracking, volume, a last trade present,
-- ---- its total quantity, the bits of its average, its whole average, last price, last quantity. Of tracking and present, 0 is no and anything else yes.

abbrev pub book_in : List ℕ → OrderBook
book_in d = record { resting = get_or d 0 0; free = get_or d 1 0; bids = get_or d 2 0; asks = get_or d 3 0 }

abbrev pub trade_in : List ℕ → Trade
trade_in d =
    record {
      total_qty = record { 0 = get_or d 7 0 };
      avg_price = of_bits binary64 (get_or d 8 0);
      whole_avg_price = record { 0 = get_or d 9 0 };
      last_price = record { 0 = get_or d 10 0 };
      last_qty = record { 0 = get_or d 11 0 };
    }

abbrev pub last_in : List ℕ → Option Trade
last_in d = cond (eqb (get_or d 6 0) 0) None (Some (trade_in d))

abbrev pub statistics_in : List ℕ → Statistics
statistics_in d = record { tracking = not (eqb (get_or d 4 0) 0); volume = record { 0 = get_or d 5 0 }; last = last_in d }

abbrev pub yes : Bool → ℕ
yes true = 1
yes false = 0

abbrev pub last_numbers : Option Trade → List ℕ
last_numbers None = 0 ∷ 0 ∷ 0 ∷ 0 ∷ 0 ∷ 0 ∷ []
last_numbers (Some t) =
    1 ∷ t.total_qty.0 ∷ to_bits binary64 t.avg_price ∷ t.whole_avg_price.0 ∷ t.last_price.0 ∷ t.last_qty.0 ∷ []

abbrev pub numbers_of : OrderBook → Statistics → List ℕ
numbers_of b s = b.resting ∷ b.free ∷ b.bids ∷ b.asks ∷ yes s.tracking ∷ s.volume.0 ∷ last_numbers s.last

-- ---- the four numbers of an answer

-- the event (0 Unfilled, 1 Placed, 2 Canceled, 3 PartiallyFilled, 4 Filled), id, filled quantity, number of fills
abbrev pub event_as_numbers : OrderEvent → List ℕ
event_as_numbers (Unfilled id) = 0 ∷ id.0 ∷ 0 ∷ 0 ∷ []
event_as_numbers (Placed id) = 1 ∷ id.0 ∷ 0 ∷ 0 ∷ []
event_as_numbers (Canceled id) = 2 ∷ id.0 ∷ 0 ∷ 0 ∷ []
event_as_numbers (PartiallyFilled id qty fills) = 3 ∷ id.0 ∷ qty.0 ∷ fills ∷ []
event_as_numbers (Filled id qty fills) = 4 ∷ id.0 ∷ qty.0 ∷ fills ∷ []

-- present, price or spread
abbrev pub quote_as_numbers : Option Price → List ℕ
quote_as_numbers None = 0 ∷ 0 ∷ 0 ∷ 0 ∷ []
quote_as_numbers (Some price) = 1 ∷ price.0 ∷ 0 ∷ 0 ∷ []

-- levels, asks, bids
abbrev pub depth_as_numbers : BookDepth → List ℕ
depth_as_numbers d = d.levels ∷ d.asks ∷ d.bids ∷ 0 ∷ []

-- found, price, quantity, places looked at
abbrev pub look_as_numbers : Option Resting → ℕ → List ℕ
look_as_numbers None n = 0 ∷ 0 ∷ 0 ∷ n ∷ []
look_as_numbers (Some r) n = 1 ∷ r.price.0 ∷ r.qty.0 ∷ n ∷ []
