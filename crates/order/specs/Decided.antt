-- What is decided of an order from its outlook: the lowest refusal that applies, and the event. Assumes nothing.
use Rattle.std.specs.Prelude.{ℕ, zero, suc, ◌-◌, Bool, ◌&&◌, [], ◌∷◌, ltb, Option, Some, None, is_some}
use Rattle.std.proofs.Math.Option as maybe
use Rattle.rules.specs.Rules as rule
use Rattle.models.specs.declared.Price.{Price}
use Rattle.stats.specs.declared.Statistics.{Statistics}
use Rattle.stats.specs.declared.Totals.{Totals}
use Rattle.stats.specs.Statistics.{over_of}
use Rattle.sums.specs.Sums.{capped}
use Rattle.survey.specs.declared.Taker.{Taker}
use Rattle.survey.specs.declared.Outlook.{Outlook}

-- how much of t is filled
abbrev pub filled : Taker → Outlook → ℕ
filled t s = t.qty.0 - s.left.0

-- the price at which a remainder would rest, if it would
abbrev pub remains : Option Price → ℕ → Option Price
remains limit zero = None
remains limit (suc r) = limit

-- the totals of its fills
abbrev pub totals_by : Taker → Outlook → Totals
totals_by t s = record { worth = s.worth; quantity = capped (filled t s) }

-- refusal 3
abbrev pub passes : Taker → Outlook → Statistics → Bool
passes t s st = over_of st s.fills (totals_by t s)

-- the tests in their order: there are so many places for fills; `at`: the price at which a remainder would rest, if it would; `full`: all places
-- for orders are taken; `crowded`: that price is new to its side, which has no row left
unfoldable pub decided : ℕ → Taker → Outlook → Statistics → Option Price → Bool → Bool → maybe.Option ℕ
decided places t s st at full crowded =
    rule.first_of ((2, ltb places s.fills) ∷ (3, passes t s st) ∷ (4, is_some at && full) ∷ (5, is_some at && crowded) ∷ [])

-- the event
abbrev pub nothing_filled : Option Price → ℕ → rule.Event
nothing_filled None i = rule.unfilled i
nothing_filled (Some p) i = rule.placed i

abbrev pub event_by : Taker → ℕ → ℕ → ℕ → rule.Event
event_by t zero left q = nothing_filled t.limit t.id.0
event_by t (suc n) zero q = rule.filled t.id.0 q (suc n)
event_by t (suc n) (suc r) q = rule.partially_filled t.id.0 q (suc n)
