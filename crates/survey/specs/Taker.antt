-- An order that comes in, as the rules read it. Assumes nothing.
use Rattle.std.specs.Prelude.{ℕ, Bool, Option, Some, None}
use Rattle.rules.specs.Rules as rule
use Rattle.models.specs.declared.Price.{Price}
use Rattle.models.specs.Readings.{side_of}
use Rattle.survey.specs.declared.Taker.{Taker}

-- an order that meets any price is a market order; another has its limit
abbrev pub kind_of : Option Price → rule.Kind
kind_of None = rule.market
kind_of (Some p) = rule.limit p.0

-- with the number of places lent for its fills
abbrev pub taker_of : ℕ → Taker → rule.Taker (Unit {0})
taker_of room t =
    record { side = side_of t.side; kind = kind_of t.limit; id = t.id.0; quantity = t.qty.0; room = room; tag = tt }

-- the side whose orders it meets
abbrev pub met_side : Taker → rule.Side
met_side t = rule.opposite (side_of t.side)

-- it meets the price p
abbrev pub meets : Taker → ℕ → Bool
meets t p = rule.within (side_of t.side) (kind_of t.limit) p
