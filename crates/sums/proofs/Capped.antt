-- Sums that may have passed 2^64 - 1, and when a product passes it. Assumes nothing.
use Rattle.std.proofs.Common.{◌≡◌, ℕ, ◌+◌, ◌*◌, ◌≤◌, ◌<◌, ◌^◌, Option, Some, None, SomeIff, sym, ◌∙◌, arith}
use native.Mathlib.Decide.{dec_le}
use native.Mathlib.Nat.{mul-le-mul_right}
use borrow.Author.Tests.{le-leb, lt-leb}
use Rattle.rules.specs.Rules.{most}
use Rattle.sums.specs.Sums.{capped, plus_of}

pub capped_small : (n : ℕ) → n ≤ most → capped n ≡ Some n
unfolding capped
capped_small n h = rw (le-leb n most h)

pub capped_large : (n : ℕ) → most < n → capped n ≡ None
unfolding capped
capped_large n h = rw (lt-leb n most h)

-- a value that it has is n
pub capped_value : (n v : ℕ) → capped n ≡ Some v → v ≡ n
capped_value n v e = go (dec_le n most)
  where
    go : Dec (n ≤ most) → v ≡ n
    go (yes p) = let f : Some v ≡ Some n = sym e ∙ capped_small n p in cc
    go (no p) = absurd (let f : Some v ≡ None = sym e ∙ capped_large n (omega arith) in cc)

pub capped_has : (n : ℕ) → n ≤ most → capped n ≡ None → ⊥
capped_has n h e = let f : Some n ≡ None = sym (capped_small n h) ∙ e in cc

-- what has a value up to 2^64 - 1 alone
pub checked_is : (n : ℕ) (r : Option ℕ) → SomeIff r (n < 2 ^ 64) n → r ≡ capped n
checked_is n None h = rw (capped_large n (omega (arith, h)))
checked_is n (Some x) h = rw (h.1, capped_small n (omega (arith, h.0)))

-- the running sum is exact
pub plus_capped : (a b : ℕ) → plus_of (capped a) (capped b) ≡ capped (a + b)
unfolding plus_of
plus_capped a b = go (dec_le a most) (dec_le b most)
  where
    go : Dec (a ≤ most) → Dec (b ≤ most) → plus_of (capped a) (capped b) ≡ capped (a + b)
    go (yes p) (yes q) = rw (capped_small a p, capped_small b q)
    go (yes p) (no q) = rw (capped_small a p, capped_large b (omega arith), capped_large (a + b) (omega arith))
    go (no p) q = rw (capped_large a (omega arith), capped_large (a + b) (omega arith))

pub product_small : (p q : ℕ) → p < 4294967296 → q < 4294967296 → p * q ≤ most
product_small p q h k = let l : p ≤ 4294967295 = omega arith in omega (arith, mul-le-mul_right q l)
