-- Two numbers compared, as cases: what every proof about storage goes by. Assumes nothing.
use Prim.Native.Nat.{ℕ, ◌<◌, ◌≤◌}
use mathlib.Core.Bool.{Bool, false, true}
use mathlib.Core.Logic.{inl, inr, ◌⊎◌, ⊎_elim}
use mathlib.Core.Path.{refl, ◌≡◌}
use native.Mathlib.Omega.{arith}
use lib.Dec.{eqb, leb, ltb}
use borrow.Author.Tests.{eqb-false, eqb-true, leb-false, leb-true, ltb-false, ltb-true}

-- a test, with what it says
pub by : (b : Bool) → (b ≡ true) ⊎ (b ≡ false)
by true = inl refl
by false = inr refl

-- no test says both
pub tell : (b : Bool) → b ≡ true → b ≡ false → ⊥
tell b t f = let z : ◌≡◌ {A = ℕ} 0 1 = cc in omega arith

pub same? : (x y : ℕ) → (x ≡ y) ⊎ (x ≡ y → ⊥)
same? x y = ⊎_elim (λ e. inl (eqb-true x y e)) (λ e. inr (eqb-false x y e)) (by (eqb x y))

pub le? : (x y : ℕ) → (x ≤ y) ⊎ (y < x)
le? x y = ⊎_elim (λ e. inl (leb-true x y e)) (λ e. inr (leb-false x y e)) (by (leb x y))

pub lt? : (x y : ℕ) → (x < y) ⊎ (y ≤ x)
lt? x y = ⊎_elim (λ e. inl (ltb-true x y e)) (λ e. inr (ltb-false x y e)) (by (ltb x y))
