-- What each model means: the rule book's value of it, case by case. The contracts say what they say through these readings.
-- A fill or an order carries no tag (the unit type), as in all contracts. Assumes nothing.
use Rattle.std.specs.Prelude.{ℕ, ◌≡◌, ◌<◌, Result, Ok, Err}
use Rattle.rules.specs.Rules as rule
use Rattle.models.specs.declared.Side.{Side}
use Rattle.models.specs.declared.Side.TheVariants.{Bid, Ask}
use Rattle.models.specs.declared.OrderType.{OrderType}
use Rattle.models.specs.declared.OrderType.TheVariants.{Market, Limit, Cancel}
use Rattle.models.specs.declared.OrderEvent.{OrderEvent}
use Rattle.models.specs.declared.OrderEvent.TheVariants.{Unfilled, Placed, Canceled, PartiallyFilled, Filled}
use Rattle.models.specs.declared.FillMetadata.{FillMetadata}
use Rattle.models.specs.declared.BookLevel.{BookLevel}
use Rattle.models.specs.declared.Refusal.{Refusal}
use Rattle.models.specs.declared.Refusal.TheVariants as refusal

abbrev pub side_of : Side → rule.Side
side_of Bid = rule.bid
side_of Ask = rule.ask

-- where a side passes as a number, 0 is a bid and 1 an ask,
abbrev pub side_number : Side → ℕ
side_number Bid = 0
side_number Ask = 1

-- and no other number is a side's: refusal 10
abbrev pub IsSideOf : ℕ → Result Side Refusal → Type 0
IsSideOf n (Ok s) = n ≡ side_number s
IsSideOf n (Err e) = (e ≡ refusal.WrongSide) × (1 < n)

-- an order, with the number of places lent for its fills
abbrev pub call_of : ℕ → OrderType → rule.Call (Unit {0})
call_of room (Market id side qty) =
    rule.order (record { side = side_of side; kind = rule.market; id = id.0; quantity = qty.0; room = room; tag = tt })
call_of room (Limit id side qty price) =
    rule.order (record { side = side_of side; kind = rule.limit price.0; id = id.0; quantity = qty.0; room = room; tag = tt })
call_of room (Cancel id) = rule.cancel id.0

abbrev pub event_of : OrderEvent → rule.Event
event_of (Unfilled id) = rule.unfilled id.0
event_of (Placed id) = rule.placed id.0
event_of (Canceled id) = rule.canceled id.0
event_of (PartiallyFilled id qty fills) = rule.partially_filled id.0 qty.0 fills
event_of (Filled id qty fills) = rule.filled id.0 qty.0 fills

abbrev pub fill_of : FillMetadata → rule.Fill (Unit {0})
fill_of f =
    record {
      taker = f.order_1.0;
      maker = f.order_2.0;
      quantity = f.qty.0;
      price = f.price.0;
      side = side_of f.taker_side;
      whole = f.total_fill;
      tag = tt;
    }

abbrev pub level_of : BookLevel → rule.Level
level_of v = record { price = v.price.0; total = v.qty.0 }

-- document 01's number of a refusal
abbrev pub refusal_number : Refusal → ℕ
refusal_number refusal.NotWhole = 1
refusal_number refusal.FillsOutnumberPlaces = 2
refusal_number refusal.SumTooLarge = 3
refusal_number refusal.NoOrderLeft = 4
refusal_number refusal.NoPriceLeft = 5
refusal_number refusal.LevelsOutnumberPlaces = 6
refusal_number refusal.TotalTooLarge = 7
refusal_number refusal.UnknownTag = 8
refusal_number refusal.WrongLength = 9
refusal_number refusal.WrongSide = 10
refusal_number refusal.CutOff = 11
refusal_number refusal.ShortRoom = 19

-- what a call says: document 01's number of a refusal, or the call's values
pub data Reading (X : Type 0) : Type 0 where
  number : ℕ → Reading X
  value : X → Reading X

-- the same of a call's result, whose value v means f v
abbrev pub reading_of : {X Y : Type 0} → (X → Y) → Result X Refusal → Reading Y
reading_of f (Ok v) = value (f v)
reading_of f (Err e) = number (refusal_number e)
