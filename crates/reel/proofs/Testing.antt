-- Whether one more field is served, by the tests made. Assumes nothing.
use Prim.Native.Nat.{ℕ, ◌≤◌}
use mathlib.Core.Path.{◌≡◌, refl}
use mathlib.Core.Bool.{Bool, true, false}
use mathlib.Core.Logic.{◌⊎◌, inl, inr}
use native.Mathlib.Omega.{arith}
use lib.Dec.{leb}
use borrow.Author.Tests.{leb-true, leb-false}
use Rattle.tape.specs.Orders.{longest_field}
use Rattle.serve.specs.declared.State.{State}
use Rattle.serve.specs.declared.State.TheVariants.{Going, Stopped, Ended}
use Rattle.reel.specs.Reel.{Handed, yes, no, GoesOn, on, off}

pub handed : (last : Bool) (hand : ℕ) → last ≡ false → Handed last hand (leb longest_field hand)
handed last hand e = go (leb longest_field hand) refl
  where
    go : (b : Bool) → leb longest_field hand ≡ b → Handed last hand b
    go true h = yes (inr (leb-true longest_field hand h))
    go false h = no e (leb-false longest_field hand h)

pub allowed : {s : State} {last : Bool} {hand left room : ℕ} {r : Bool} → Handed last hand r → s ≡ Going → room ≤ left → GoesOn s last hand left room r
allowed (yes h) g l = on g h l
allowed (no e h) g l = off (λ k. inl (e, h))

pub ended : {s : State} → (s ≡ Stopped) ⊎ (s ≡ Ended) → s ≡ Going → ⊥
ended (inl e) g = let z : ◌≡◌ {A = ℕ} 0 1 = cc in omega arith
ended (inr e) g = let z : ◌≡◌ {A = ℕ} 0 1 = cc in omega arith
