-- What is decided of an order, test by test. Assumes nothing.
use Prim.Native.Nat.{ℕ, ◌≤◌, ◌<◌}
use mathlib.Core.Path.{◌≡◌, sym, ap, ◌∙◌}
use mathlib.Core.Bool.{Bool, true, false}
use mathlib.Core.Option.{none, some}
use borrow.Author.Tests.{lt-ltb, le-ltb}
use Rattle.std.specs.Prelude.{Option, Some, None}
use Rattle.rules.specs.Rules.{first_of}
use Rattle.models.specs.declared.Price.{Price}
use Rattle.stats.specs.declared.Statistics.{Statistics}
use Rattle.stats.specs.declared.Totals.{Totals}
use Rattle.stats.specs.Statistics.{over_of}
use Rattle.survey.specs.declared.Taker.{Taker}
use Rattle.survey.specs.declared.Outlook.{Outlook}
use Rattle.order.specs.Decided.{totals_by, passes, decided}

module _ (t : Taker) (s : Outlook) (st : Statistics) (n : ℕ) (at : Option Price) (u c : Bool) where
  pub decided_room : n < s.fills → some 2 ≡ decided n t s st at u c
  unfolding decided first_of
  decided_room e = rw (lt-ltb n s.fills e)

  -- b is what the statistics say of its totals
  module _ (e : s.fills ≤ n) {x : Totals} {b : Bool} (f : x ≡ totals_by t s) (g : b ≡ over_of st s.fills x) where
    said : (v : Bool) → b ≡ v → passes t s st ≡ v
    said v h = sym (g ∙ ap (over_of st s.fills) f) ∙ h

    pub decided_sum : b ≡ true → some 3 ≡ decided n t s st at u c
    unfolding decided first_of
    decided_sum h = rw (le-ltb n s.fills e, said true h)

    module _ (h : b ≡ false) where
      pub decided_none : at ≡ None → none ≡ decided n t s st at u c
      unfolding decided first_of
      decided_none i = rw (le-ltb n s.fills e, said false h, i)

      module _ {p : Price} (i : at ≡ Some p) where
        pub decided_full : u ≡ true → some 4 ≡ decided n t s st at u c
        unfolding decided first_of
        decided_full j = rw (le-ltb n s.fills e, said false h, i, j)

        pub decided_crowded : u ≡ false → c ≡ true → some 5 ≡ decided n t s st at u c
        unfolding decided first_of
        decided_crowded j k = rw (le-ltb n s.fills e, said false h, i, j, k)

        pub decided_fine : u ≡ false → c ≡ false → none ≡ decided n t s st at u c
        unfolding decided first_of
        decided_fine j k = rw (le-ltb n s.fills e, said false h, i, j, k)
