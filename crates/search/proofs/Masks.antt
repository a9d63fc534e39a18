-- Masks for the homes: a power of two less one. Assumes nothing.
use Prim.Native.Nat.{zero, suc, ℕ, ◌+◌, ◌-◌, ◌/◌, ◌%◌, ◌^◌, ◌≤◌}
use mathlib.Core.Path.{refl, subst, ◌≡◌}
use native.Mathlib.Omega.{arith}
use lib.Bits.{and_mask}
use lib.Count.{ones, ones_step}
use Rattle.std.proofs.Common.{Some}
use Rattle.std.proofs.lemmas.Nat.{ones_le_self, zero_from_ones}
use Rattle.search.specs.Seek.{Masks}

record Power (w : ℕ) : Type 0 where
  exponent : ℕ
  is : w ≡ 2 ^ exponent

power_one : Power 1
power_one = record { exponent = 0; is = refl }

power_twice : (w : ℕ) → Power w → Power (w + w)
power_twice w p = record { exponent = suc p.exponent; is = rw p.is (omega arith) }

-- a number with one bit is a power of two
power_within : (n m : ℕ) → m ≤ n → ones m ≡ 1 → Power m
power_within zero m h e = absurd (omega (arith, ones_le_self m))
power_within (suc n) m h e = go (m % 2) refl (λ k a b. power_within n k a b)
  where
    go : (r : ℕ) → m % 2 ≡ r → ((k : ℕ) → k ≤ n → ones k ≡ 1 → Power k) → Power m
    go zero p less =
        let q : Power (m / 2) = less (m / 2) (omega (arith, ones_le_self m)) (omega (arith, ones_step m)) in
        subst Power (let x : m / 2 + m / 2 ≡ m = omega (arith, p) in x) (power_twice (m / 2) q)
    go (suc r) p less =
        let z = zero_from_ones (m / 2) (omega (arith, ones_step m)) in
        subst Power (let x : 1 ≡ m = omega (arith, z, p) in x) power_one

pub masks_known : (m : ℕ) → ones m ≡ 1 → Masks m (Some (m - 1))
masks_known m e =
    let p = power_within m m (omega arith) e in
    record { home = λ k i id. let q : m - 1 ≡ k = cc in rw (← q) (rw p.is (and_mask id p.exponent)) }
