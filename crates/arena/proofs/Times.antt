-- The laws of `times`. Assumes nothing.
use Prim.Native.Nat.{suc, zero, ℕ, ◌*◌, ◌+◌, ◌≤◌}
use mathlib.Core.Bool.{Bool, false, true}
use mathlib.Core.List.{List, [], ◌++◌, ◌∷◌}
use mathlib.Core.Logic.{◌≢◌}
use mathlib.Core.Path.{ap, refl, ◌≡◌}
use native.Mathlib.Omega.{arith}
use lib.Dec.{eqb, ltb}
use lib.ListN.{length}
use borrow.Author.Tests.{eq-eqb, ltb-true, ne_eqb}
use Rattle.rules.specs.Whole.{one}
use Rattle.records.specs.Rows.{RecordAt}
use Rattle.arena.specs.Times.{is_code, times}

pub times_append : (x : ℕ) (a b : List ℕ) → times x (a ++ b) ≡ times x a + times x b
times_append x [] b = omega arith
times_append x (y ∷ a) b = omega (arith, times_append x a b)

pub one_self : (x : ℕ) → one (eqb x x) ≡ 1
one_self x = rw (eq-eqb x x refl)

pub one_other : (x y : ℕ) → x ≢ y → one (eqb x y) ≡ 0
one_other x y h = rw (ne_eqb x y h)

-- what stands in l is none of what does not
pub apart : {x y : ℕ} (l : List ℕ) → 1 ≤ times x l → times y l ≡ 0 → x ≢ y
apart l i z e = omega (arith, ap (λ (k : ℕ). times k l) e)

pub times_snoc : (x : ℕ) (l : List ℕ) (t : ℕ) → times x (l ++ t ∷ []) ≡ times x l + one (eqb x t)
times_snoc x l t = omega (arith, times_append x l (t ∷ []))

pub times_length : (x : ℕ) (l : List ℕ) → times x l ≤ length l
times_length x [] = omega arith
times_length x (y ∷ l) = go (eqb x y) (times_length x l)
  where
    go : (b : Bool) → times x l ≤ length l → one b + times x l ≤ suc (length l)
    go true h = omega arith
    go false h = omega arith

pub is_code_one : (n x : ℕ) → one (eqb x 0) + is_code n x ≤ 1
is_code_one n zero = omega (arith, one_self 0)
is_code_one n (suc i) = go (ltb i n)
  where
    go : (t : Bool) → one (eqb (suc i) 0) + one t ≤ 1
    go true = omega (arith, one_other (suc i) 0 (omega arith))
    go false = omega (arith, one_other (suc i) 0 (omega arith))

pub is_code_row : (n x : ℕ) (rs : List ℕ) → length rs ≡ n * 5 → 1 ≤ is_code n x → RecordAt rs x
is_code_row n zero rs e h = absurd (let z : ⊥ = omega arith in z)
is_code_row n (suc i) rs e h = go (ltb i n) refl
  where
    go : (t : Bool) → ltb i n ≡ t → RecordAt rs (suc i)
    go true f = record { some = omega arith; inside = omega (arith, ltb-true i n f, e) }
    go false f = absurd (let z : ⊥ = omega (arith, ap one f) in z)
