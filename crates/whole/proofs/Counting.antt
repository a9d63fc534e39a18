-- Counting codes: a list without repeats has each code of n records exactly where it has n of them. Assumes nothing.
use Prim.Native.Nat.{suc, zero, ℕ, ◌*◌, ◌+◌, ◌<◌, ◌≤◌}
use mathlib.Core.List.{List, [], ◌∷◌}
use mathlib.Core.Logic.{◌≢◌, ⊎_elim}
use mathlib.Core.Path.{ap, refl, ◌≡◌}
use native.Mathlib.Omega.{arith}
use lib.Dec.{eqb}
use lib.ListN.{length}
use borrow.Author.Tests.{le-ltb, lt-ltb}
use Rattle.rules.specs.Whole.{one}
use Rattle.records.specs.Rows.{RecordAt}
use Rattle.records.proofs.Cases.{lt?, same?}
use Rattle.arena.specs.Ring.{cut}
use Rattle.arena.specs.Times.{is_code, times}
use Rattle.arena.proofs.Once.{all_there}
use Rattle.arena.proofs.Ring.{cut_length, cut_times}
use Rattle.arena.proofs.Times.{is_code_one, one_other, one_self}

pub code_in : (n x : ℕ) → 1 ≤ x → x ≤ n → is_code n x ≡ 1
code_in n zero h k = absurd (let z : ⊥ = omega arith in z)
code_in n (suc i) h k = ap one (lt-ltb i n (omega arith))

pub code_out : (n x : ℕ) → n < x → is_code n x ≡ 0
code_out n zero h = refl
code_out n (suc i) h = ap one (le-ltb i n (omega arith))

pub code_row : (n x : ℕ) (rs : List ℕ) → length rs ≡ n * 5 → RecordAt rs x → is_code n x ≡ 1
code_row n x rs e r = code_in n x r.some (omega (arith, r.some, r.inside))

code_more : (n x : ℕ) → is_code (suc n) x ≡ is_code n x + one (eqb x (suc n))
code_more n zero = omega (arith, one_other 0 (suc n) (omega arith))
code_more n (suc i) =
    ⊎_elim
    (λ (a : suc i < suc n). omega (arith, code_in (suc n) (suc i) (omega arith) (omega arith), code_in n (suc i) (omega arith) (omega arith), one_other (suc i) (suc n) (omega arith)))
    (λ (a : suc n ≤ suc i). ⊎_elim
    (λ (e : suc i ≡ suc n). omega (arith, code_in (suc n) (suc i) (omega arith) (omega arith), code_out n (suc i) (omega arith), ap (λ (k : ℕ). one (eqb k (suc n))) e, one_self (suc n)))
    (λ (e : suc i ≢ suc n). omega (arith, code_out (suc n) (suc i) (omega arith), code_out n (suc i) (omega arith), one_other (suc i) (suc n) e))
    (same? (suc i) (suc n)))
    (lt? (suc i) (suc n))

-- each code once: n in all
pub all_long : (n : ℕ) (l : List ℕ) → ((x : ℕ) → times x l ≡ is_code n x) → length l ≡ n
all_long zero [] h = refl
all_long zero (d ∷ l) h = absurd (let z : ⊥ = omega (arith, h d, one_self d, none d) in z)
  where
    none : (x : ℕ) → is_code 0 x ≡ 0
    none zero = refl
    none (suc i) = ap one (le-ltb i 0 (omega arith))
all_long (suc n) l h =
    let i : 1 ≤ times (suc n) l = omega (arith, h (suc n), code_in (suc n) (suc n) (omega arith) (omega arith)) in
    omega (arith, cut_length (suc n) l i, all_long n (cut (suc n) l) (λ x. omega (arith, cut_times (suc n) x l i, h x, code_more n x)))

-- none twice, and n in all: each code once
pub all_once : (n : ℕ) (l : List ℕ) → ((x : ℕ) → times x l ≤ is_code n x) → length l ≡ n → (x : ℕ) → times x l ≡ is_code n x
all_once n l h e x =
    ⊎_elim
    (λ (a : is_code n x < 1). omega (arith, h x))
    (λ (a : 1 ≤ is_code n x). omega (arith, h x, is_code_one n x, all_there n x l h e (in_some x a) (in_most x a)))
    (lt? (is_code n x) 1)
  where
    in_some : (x : ℕ) → 1 ≤ is_code n x → 1 ≤ x
    in_some zero a = a
    in_some (suc i) a = omega arith

    in_most : (x : ℕ) → 1 ≤ is_code n x → x ≤ n
    in_most x a = ⊎_elim (λ (b : n < x). absurd (let z : ⊥ = omega (arith, code_out n x b) in z)) (λ (b : x ≤ n). b) (lt? n x)
