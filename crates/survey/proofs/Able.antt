-- When a side can be matched: the stored book gives the structure, and the rules that each order has something. Assumes nothing.
use Prim.Native.Nat.{ℕ, ◌≤◌}
use mathlib.Core.Bool.{Bool}
use mathlib.Core.List.{List}
use mathlib.Core.Path.{◌≡◌}
use native.Mathlib.Omega.{arith}
use Rattle.rules.specs.Rules.{Side}
use Rattle.rules.specs.Whole.{Positive}
use Rattle.records.specs.Rows.{record_count}
use Rattle.side.specs.Levels.{Lvl}
use Rattle.side.specs.Orders.{codes, orders}
use Rattle.side.specs.Read.{levels_in}
use Rattle.side.specs.Stored.{Stored}
use Rattle.side.proofs.Orders.{codes_times}
use Rattle.side.proofs.Own.{own_one}
use Rattle.side.proofs.Stored.{at_most_one, row_of}
use Rattle.survey.specs.Makers.{CanMatch, Laid}
use Rattle.survey.proofs.Coming.{orders_each}

module _ {n : ℕ} {rs lv ov : List ℕ} {s t f r : ℕ} {ws vs : List Lvl} {fr : List ℕ} (w : Stored n rs lv ov s t f r ws vs fr) where
  pub places_are : record_count rs ≡ n
  places_are = omega (arith, w.rows)

  -- the levels are those that storage says
  pub levels_are : ws ≡ levels_in rs lv s
  levels_are = rw places_are (own_one w)

  pub laid_out : Laid rs lv s ws
  laid_out = record { ladder = w.mine; once = λ x. omega (arith, at_most_one w x); rows = λ x i. row_of w x (omega arith) }

  pub can_match : (sd : Side) (fnd : ℕ → Bool) → Positive (orders rs fnd (codes sd ws)) → CanMatch rs lv s
  can_match sd fnd p = record {
    laid = rw (← levels_are) laid_out;
    held = rw (← levels_are) (λ x i. orders_each rs fnd (λ o. 1 ≤ o.quantity) (codes sd ws) p x (omega (arith, codes_times sd x ws)));
  }
