-- Without marks: a chain that ends has no repeats, and n different codes of n records are all of them. Assumes nothing.
use Prim.Native.Nat.{suc, zero, ℕ, ◌+◌, ◌<◌, ◌≤◌}
use mathlib.Core.Bool.{Bool, false, true}
use mathlib.Core.List.{List, [], ◌∷◌}
use mathlib.Core.Logic.{◌≢◌}
use mathlib.Core.Path.{ap, refl, sym, ◌∙◌, ◌≡◌}
use native.Mathlib.Omega.{arith}
use lib.Dec.{eqb, ltb}
use lib.ListN.{length}
use borrow.Author.Tests.{eqb-false, eqb-true, ltb-false, ltb-true}
use Rattle.rules.specs.Whole.{one}
use Rattle.arena.specs.Times.{is_code, times}
use Rattle.arena.proofs.Times.{is_code_one, one_other, one_self}

-- from c on by F, to the end 0
abbrev pub Ending : (ℕ → ℕ) → ℕ → List ℕ → Type 0
Ending F c [] = c ≡ 0
Ending F c (d ∷ l) = (c ≡ d) × (1 ≤ d) × Ending F (F d) l

same_end : (F : ℕ → ℕ) (c : ℕ) (l m : List ℕ) → Ending F c l → Ending F c m → length l ≡ length m
same_end F c [] [] p q = refl
same_end F c [] (d ∷ m) p q = absurd (let z : ⊥ = omega (arith, p, q.0, q.1) in z)
same_end F c (d ∷ l) [] p q = absurd (let z : ⊥ = omega (arith, q, p.0, p.1) in z)
same_end F c (d ∷ l) (e ∷ m) p q =
    let z : d ≡ e = sym p.0 ∙ q.0 in
    ap suc (same_end F (F d) l m p.2 (rw z q.2))

-- the rest of the chain from a code of it
pub record From (F : ℕ → ℕ) (x : ℕ) (n : ℕ) : Type 0 where
  pub rest : List ℕ
  pub ends : Ending F x rest
  pub short : length rest ≤ n

from : (F : ℕ → ℕ) (c x : ℕ) (l : List ℕ) → Ending F c l → 1 ≤ times x l → From F x (length l)
from F c x [] p h = absurd (let z : ⊥ = omega arith in z)
from F c x (d ∷ l) p h = go (eqb x d) refl (λ i. from F (F d) x l p.2 i)
  where
    go : (b : Bool) → eqb x d ≡ b → (1 ≤ times x l → From F x (length l)) → From F x (suc (length l))
    go true e k = record { rest = d ∷ l; ends = (eqb-true x d e, p.1, p.2); short = omega arith }
    go false e k = let r = k (omega (arith, ap one e)) in record { rest = r.rest; ends = r.ends; short = omega (arith, r.short) }

pub ending_once : (F : ℕ → ℕ) (c x : ℕ) (l : List ℕ) → Ending F c l → times x l ≤ 1
ending_once F c x [] p = omega arith
ending_once F c x (d ∷ l) p = go (eqb x d) refl (ltb 0 (times x l)) refl (ending_once F (F d) x l p.2)
  where
    go : (b : Bool) → eqb x d ≡ b → (t : Bool) → ltb 0 (times x l) ≡ t → times x l ≤ 1 → one b + times x l ≤ 1
    go true e true f k =
        let z : x ≡ d = eqb-true x d e in
        let r = from F (F d) x l p.2 (ltb-true 0 (times x l) f) in
        let s = same_end F x (d ∷ l) r.rest (z, p.1, p.2) r.ends in
        absurd (let y : ⊥ = omega (arith, s, r.short) in y)
    go true e false f k = omega (arith, ltb-false 0 (times x l) f)
    go false e t f k = omega arith

-- how many of the codes up to n stand in l
abbrev pub tally_to : ℕ → List ℕ → ℕ
tally_to zero l = 0
tally_to (suc n) l = times (suc n) l + tally_to n l

tally_none : (n : ℕ) → tally_to n [] ≡ 0
tally_none zero = refl
tally_none (suc n) = omega (arith, tally_none n)

tally_cons : (n d : ℕ) (l : List ℕ) → tally_to n (d ∷ l) ≡ is_code n d + tally_to n l
tally_cons zero zero l = refl
tally_cons zero (suc d) l = none (ltb d 0) refl
  where
    none : (b : Bool) → ltb d 0 ≡ b → 0 ≡ one b + 0
    none true e = absurd (let z : ⊥ = omega (arith, ltb-true d 0 e) in z)
    none false e = refl
tally_cons (suc n) zero l = omega (arith, tally_cons n zero l, one_other (suc n) 0 (omega arith))
tally_cons (suc n) (suc d) l = go (eqb (suc n) (suc d)) refl (ltb d n) refl (ltb d (suc n)) refl (tally_cons n (suc d) l)
  where
    go : (a : Bool) → eqb (suc n) (suc d) ≡ a → (b : Bool) → ltb d n ≡ b → (e : Bool) → ltb d (suc n) ≡ e → tally_to n (suc d ∷ l) ≡ one (ltb d n) + tally_to n l
        → one (eqb (suc n) (suc d)) + times (suc n) l + tally_to n (suc d ∷ l) ≡ one (ltb d (suc n)) + (times (suc n) l + tally_to n l)
    go true p true q e r k = absurd (let z : ⊥ = omega (arith, eqb-true (suc n) (suc d) p, ltb-true d n q) in z)
    go true p false q true r k = omega (arith, ap one p, ap one q, ap one r)
    go true p false q false r k = absurd (let z : ⊥ = omega (arith, eqb-true (suc n) (suc d) p, ltb-false d (suc n) r) in z)
    go false p true q true r k = omega (arith, ap one p, ap one q, ap one r)
    go false p true q false r k = absurd (let z : ⊥ = omega (arith, ltb-true d n q, ltb-false d (suc n) r) in z)
    go false p false q true r k = absurd (let y : suc n ≢ suc d = eqb-false (suc n) (suc d) p in let z : ⊥ = omega (arith, ltb-false d n q, ltb-true d (suc n) r) in z)
    go false p false q false r k = omega (arith, ap one p, ap one q, ap one r)

tally_length : (n : ℕ) (l : List ℕ) → ((x : ℕ) → times x l ≤ is_code n x) → tally_to n l ≡ length l
tally_length n l h = go l (λ x i. omega (arith, h x))
  where
    go : (m : List ℕ) → ((x : ℕ) → 1 ≤ times x m → 1 ≤ is_code n x) → tally_to n m ≡ length m
    go [] k = tally_none n
    go (d ∷ m) k = omega (arith, tally_cons n d m, go m (λ x i. k x (omega arith)), k d (omega (arith, one_self d)), at_most n d)
      where
        at_most : (n d : ℕ) → is_code n d ≤ 1
        at_most n d = omega (arith, is_code_one n d)

tally_short : (n : ℕ) (l : List ℕ) → ((x : ℕ) → times x l ≤ 1) → tally_to n l ≤ n
tally_short zero l h = omega arith
tally_short (suc n) l h = omega (arith, h (suc n), tally_short n l h)

tally_miss : (n x : ℕ) (l : List ℕ) → ((y : ℕ) → times y l ≤ 1) → 1 ≤ x → x ≤ n → times x l ≡ 0 → tally_to n l < n
tally_miss zero x l h p q z = absurd (let y : ⊥ = omega arith in y)
tally_miss (suc n) x l h p q z = go (eqb x (suc n)) refl (tally_miss n x l h p)
  where
    go : (b : Bool) → eqb x (suc n) ≡ b → (x ≤ n → times x l ≡ 0 → tally_to n l < n) → times (suc n) l + tally_to n l < suc n
    go true e k = omega (arith, ap (λ (y : ℕ). times y l) (eqb-true x (suc n) e), tally_short n l h)
    go false e k = let d : x ≢ suc n = eqb-false x (suc n) e in omega (arith, k (omega arith) z, h (suc n))

-- n different codes of n records are all of them
pub all_there : (n x : ℕ) (l : List ℕ) → ((y : ℕ) → times y l ≤ is_code n y) → length l ≡ n → 1 ≤ x → x ≤ n → 1 ≤ times x l
all_there n x l h e p q = go (ltb 0 (times x l)) refl
  where
    lv : (y : ℕ) → times y l ≤ 1
    lv y = omega (arith, h y, is_code_one n y)

    go : (b : Bool) → ltb 0 (times x l) ≡ b → 1 ≤ times x l
    go true f = ltb-true 0 (times x l) f
    go false f = absurd (let z : ⊥ = omega (arith, tally_length n l h, tally_miss n x l lv p q (omega (arith, ltb-false 0 (times x l) f))) in z)
