-- What is decided from an order's outlook is what the rules say: the refusal, and the event. Assumes nothing.
use Prim.Native.Nat.{ℕ, zero, suc, ◌+◌, ◌≤◌}
use native.Mathlib.Omega.{arith}
use mathlib.Core.Path.{◌≡◌, refl, sym, ap, ◌∙◌}
use mathlib.Core.Bool.{Bool, not, ◌&&◌}
use mathlib.Core.List.{List, [], ◌∷◌}
use lib.Dec.{leb}
use lib.ListN.{length}
use Rattle.std.specs.Prelude.{Option, Some, None, is_some}
use Rattle.rules.specs.Rules as rule
use Rattle.models.specs.declared.Price.{Price}
use Rattle.rules.specs.Rules.{Order, Fill, Outcome, Book, Size, outcome, refusal, checks, too_large, total, full, crowded, occupied, levels, own, standing, event}
use Rattle.rules.proofs.Turns.{outcome_gains}
use Rattle.stats.specs.declared.Statistics.{Statistics}
use Rattle.models.specs.Readings.{side_of}
use Rattle.stats.specs.Statistics.{statistics_of, over_of, totals_of}
use Rattle.stats.proofs.Recording.{too_large_is}
use Rattle.survey.specs.declared.Taker.{Taker}
use Rattle.survey.specs.Taker.{taker_of, kind_of}
use Rattle.survey.specs.Surveyed.{surveyed}
use Rattle.order.specs.Decided.{filled, remains, totals_by, passes, decided, nothing_filled, event_by}

full_is : (z : Size) (b : Book (Unit {0})) (p : Option Price) (r : ℕ) → full z b (standing (kind_of p) r) ≡ is_some (remains p r) && leb z.orders (length b.bids + length b.asks)
full_is z b None zero = refl
full_is z b None (suc r) = refl
full_is z b (Some p) zero = refl
full_is z b (Some p) (suc r) = refl

-- whether the price p is new to the orders l, which have all the rows there are
abbrev pub crowds : Size → List (Order (Unit {0})) → Price → Bool
crowds z l p = not (occupied p.0 l) && leb z.prices (length (levels l))

crowded_is : (z : Size) (l : List (Order (Unit {0}))) (p : Option Price) (r : ℕ) (c : Bool) → ((q : Price) → remains p r ≡ Some q → c ≡ crowds z l q)
    → crowded z l (standing (kind_of p) r) ≡ is_some (remains p r) && c
crowded_is z l None zero c h = refl
crowded_is z l None (suc r) c h = refl
crowded_is z l (Some p) zero c h = refl
crowded_is z l (Some p) (suc r) c h = sym (h p refl)

module _ (room : ℕ) (t : Taker) (l : List (Order (Unit {0}))) where
  abbrev o : Outcome (Unit {0})
  o = outcome (taker_of room t) l

  -- what is filled is the sum of the fills, and what is left is no more than was wanted
  pub filled_total : filled t (surveyed o) ≡ total o.fills
  filled_total = omega (arith, outcome_gains (taker_of room t) l)

  pub left_within : (surveyed o).left.0 ≤ t.qty.0
  left_within = omega (arith, outcome_gains (taker_of room t) l)

  pub totals_are : totals_of o.fills ≡ totals_by t (surveyed o)
  unfolding totals_of
  totals_are = rw filled_total

  pub passes_is : (st : Statistics) → too_large o.fills (statistics_of st) ≡ passes t (surveyed o) st
  passes_is st = sym (too_large_is st o.fills) ∙ ap (over_of st (length o.fills)) totals_are

  pub event_is : event (kind_of t.limit) t.id.0 o.fills o.rest ≡ event_by t (length o.fills) o.rest (filled t (surveyed o))
  event_is = go o.fills o.rest filled_total
    where
      none_is : (p : Option Price) → rule.no_fill (kind_of p) t.id.0 ≡ nothing_filled p t.id.0
      none_is None = refl
      none_is (Some p) = refl

      go : (f : List (Fill (Unit {0}))) (r : ℕ) {q : ℕ} → q ≡ total f → event (kind_of t.limit) t.id.0 f r ≡ event_by t (length f) r q
      go [] r e = none_is t.limit
      go (x ∷ f) zero e = rw e
      go (x ∷ f) (suc r) e = rw e

-- the refusal by the rules is what is decided from the outlook, c saying of a price at which a remainder would rest whether it is new to a side that
-- has no row left
pub refusal_is : (z : Size) (room : ℕ) (t : Taker) (b : Book (Unit {0})) (st : Statistics) (c : Bool)
    → ((p : Price) → remains t.limit (outcome (taker_of room t) (own (rule.opposite (side_of t.side)) b)).rest ≡ Some p → c ≡ crowds z (own (side_of t.side) b) p)
    → refusal z (record { book = b; stats = statistics_of st }) (taker_of room t)
    ≡ decided room t (surveyed (outcome (taker_of room t) (own (rule.opposite (side_of t.side)) b))) st
    (remains t.limit (outcome (taker_of room t) (own (rule.opposite (side_of t.side)) b)).rest)
    (leb z.orders (length b.bids + length b.asks)) c
unfolding refusal checks decided
refusal_is z room t b st c h =
    let l = own (rule.opposite (side_of t.side)) b in
    let q = (outcome (taker_of room t) l).rest in
    rw (passes_is room t l st, full_is z b t.limit q, crowded_is z (own (side_of t.side) b) t.limit q c h)
