-- The statistics in the rule book's terms, and what comes of them and a list of fills. Assumes nothing.
use Rattle.std.specs.Prelude.{◌≡◌, ℕ, ◌+◌, ◌*◌, ◌/◌, ◌<◌, ◌≤◌, min, Bool, true, ◌&&◌, ◌||◌, List, nat_lt, Option, Some, None, is_none, Result, Ok, Err}
use Rattle.std.proofs.Math.Option as maybe
use Rattle.rules.specs.Rules as rule
use Rattle.stats.specs.declared.Trade.{Trade}
use Rattle.stats.specs.declared.Statistics.{Statistics}
use Rattle.stats.specs.declared.Totals.{Totals}
use Rattle.models.specs.declared.Refusal.{Refusal}
use Rattle.models.specs.Readings.{refusal_number}
use Rattle.rows.specs.Rows.{fill_row, places, listed}
use Rattle.sums.specs.Sums.{capped, plus_of}

-- ---- what they mean

abbrev pub rule_trade : Trade → rule.Trade
rule_trade t =
    record {
      quantity = t.total_qty.0;
      average = t.avg_price;
      whole_average = t.whole_avg_price.0;
      last_price = t.last_price.0;
      last_quantity = t.last_qty.0;
    }

abbrev pub last_of : Option Trade → maybe.Option rule.Trade
last_of None = maybe.none
last_of (Some t) = maybe.some (rule_trade t)

abbrev pub statistics_of : Statistics → rule.Stats
statistics_of s = record { tracking = s.tracking; volume = s.volume.0; last = last_of s.last }

-- ---- S and the quantity of some fills

unfoldable pub totals_of : List (rule.Fill (Unit {0})) → Totals
totals_of l = record { worth = capped (rule.worth l); quantity = capped (rule.total l) }

-- one fill more
unfoldable pub with_fill : Totals → ℕ → ℕ → Totals
with_fill t price quantity = record { worth = plus_of t.worth (capped (price * quantity)); quantity = plus_of t.quantity (capped quantity) }

-- ---- an order's trade

-- the last trade after an order that filled q, S being s
abbrev pub trade_for : ℕ → ℕ → ℕ → ℕ → rule.Trade
trade_for q s price quantity = record { quantity = q; average = rule.average s q; whole_average = s / q; last_price = price; last_quantity = quantity }

-- refusal 3, from the number of fills and their totals
unfoldable pub over_of : Statistics → ℕ → Totals → Bool
over_of st n t = st.tracking && (nat_lt 0 n && (is_none t.worth || is_none (plus_of (capped st.volume.0) t.quantity)))

-- where tracking is on and there is something to add, the new volume fits
abbrev pub VolumeFits : Statistics → ℕ → Type 0
VolumeFits st q = st.tracking ≡ true → 0 < q → st.volume.0 + q ≤ rule.most

-- ---- any list of fills

-- the fills in a lent list, of which there are said to be n: no more count than there are places
abbrev pub fills_in : List ℕ → ℕ → List (rule.Fill (Unit {0}))
fills_in l n = listed fill_row l (min n (places fill_row l))

-- the number of the refusal that a result is, if it is one
abbrev pub refusal_in : {X : Type 0} → Result X Refusal → maybe.Option ℕ
refusal_in (Ok x) = maybe.none
refusal_in (Err e) = maybe.some (refusal_number e)

-- the same of what the rule book says, and the statistics that stand behind it
abbrev pub number_of : rule.Recorded → maybe.Option ℕ
number_of (rule.Recorded.refused n) = maybe.some n
number_of (rule.Recorded.recorded new) = maybe.none

abbrev pub resulting : rule.Stats → rule.Recorded → rule.Stats
resulting old (rule.Recorded.refused n) = old
resulting old (rule.Recorded.recorded new) = new

-- the statistics that stand behind a result by value: those from before, where it is a refusal
abbrev pub after : Statistics → Result Statistics Refusal → Statistics
after old (Ok new) = new
after old (Err e) = old

-- r, with the statistics `new` behind it, is what the rule book makes of the statistics st and the fills l: the new statistics, or the number
-- of the refusal with the old
pub record Follows {X : Type 0} (st : Statistics) (l : List (rule.Fill (Unit {0}))) (r : Result X Refusal) (new : Statistics) : Type 0 where
  pub code : refusal_in r ≡ number_of (rule.recording l (statistics_of st))
  pub statistics : statistics_of new ≡ resulting (statistics_of st) (rule.recording l (statistics_of st))
