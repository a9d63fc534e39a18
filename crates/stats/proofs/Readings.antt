-- The readings of trades and statistics lose nothing; so the statistics' contract leaves room for one outcome. Assumes nothing.
use Rattle.std.proofs.Common.{◌≡◌, List, Option, Some, None, Result, Ok, Err, sym, refl, ap, ◌∙◌}
use mathlib.Core.Option as maybe
use Rattle.rules.specs.Rules as rule
use Rattle.models.proofs.Readings.{same, refusal_same}
use Rattle.models.specs.declared.Refusal.{Refusal}
use Rattle.stats.specs.declared.Trade.{Trade}
use Rattle.stats.specs.declared.Statistics.{Statistics}
use Rattle.stats.specs.Statistics.{last_of, statistics_of, refusal_in, after, Follows}

trade_from : rule.Trade → Trade
trade_from t =
    record {
      total_qty = record { 0 = t.quantity };
      avg_price = t.average;
      whole_avg_price = record { 0 = t.whole_average };
      last_price = record { 0 = t.last_price };
      last_qty = record { 0 = t.last_quantity };
    }

last_from : maybe.Option rule.Trade → Option Trade
last_from maybe.none = None
last_from (maybe.some t) = Some (trade_from t)

last_back : (l : Option Trade) → last_from (last_of l) ≡ l
unfolding last_from trade_from
last_back None = refl
last_back (Some t) = refl

statistics_from : rule.Stats → Statistics
statistics_from s = record { tracking = s.tracking; volume = record { 0 = s.volume }; last = last_from s.last }

statistics_back : (s : Statistics) → statistics_from (statistics_of s) ≡ s
unfolding statistics_from
statistics_back s = ap (λ (l : Option Trade). record { tracking = s.tracking; volume = s.volume; last = l }) (last_back s.last)

pub statistics_same : (s t : Statistics) → statistics_of s ≡ statistics_of t → s ≡ t
statistics_same = same statistics_of statistics_from statistics_back

-- results that are refused alike, and have the same value where they aren't, are the same
pub refused_alike : {X : Type 0} (r s : Result X Refusal) → refusal_in r ≡ refusal_in s → ((x y : X) → r ≡ Ok x → s ≡ Ok y → x ≡ y) → r ≡ s
refused_alike (Ok x) (Ok y) e f = ap Ok (f x y refl refl)
refused_alike (Err a) (Err b) e f = ap Err (refusal_same a b cc)
refused_alike (Ok x) (Err b) e f = absurd cc
refused_alike (Err a) (Ok y) e f = absurd cc

-- the statistics and a list of fills leave room for one outcome alone, in whichever form each is given:
pub follows_same : {X Y : Type 0} (st : Statistics) (l : List (rule.Fill (Unit {0}))) (r : Result X Refusal) (s : Result Y Refusal) (a b : Statistics)
    → Follows st l r a → Follows st l s b → (refusal_in r ≡ refusal_in s) × (a ≡ b)
follows_same st l r s a b p q = (p.code ∙ sym q.code, statistics_same a b (p.statistics ∙ sym q.statistics))

-- by loan,
pub lent_same : (st : Statistics) (l : List (rule.Fill (Unit {0}))) (r s : Result (Unit {0}) Refusal) (a b : Statistics)
    → Follows st l r a → Follows st l s b → (r ≡ s) × (a ≡ b)
lent_same st l r s a b p q =
    (refused_alike r s (p.code ∙ sym q.code) (λ x y e f. refl), (follows_same st l r s a b p q).1)

-- and by value
pub recorded_same : (st : Statistics) (l : List (rule.Fill (Unit {0}))) (r s : Result Statistics Refusal) → Follows st l r (after st r) → Follows st l s (after st s) → r ≡ s
recorded_same st l r s p q =
    refused_alike r s (p.code ∙ sym q.code)
    (λ x y e f. ap (after st) (sym e) ∙ statistics_same (after st r) (after st s) (p.statistics ∙ sym q.statistics) ∙ ap (after st) f)
