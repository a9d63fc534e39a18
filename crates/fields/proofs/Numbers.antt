-- Numbers as bytes: what is written reads back, and bytes that read as a number are what is written for it. Assumes nothing.
use Prim.Native.Nat.{ℕ, zero, suc, ◌+◌, ◌-◌, ◌*◌, ◌/◌, ◌%◌, ◌^◌, ◌≤◌, ◌<◌}
use mathlib.Core.Path.{◌≡◌, refl, sym, subst}
use mathlib.Core.List.{List, [], ◌∷◌, ◌++◌, append_assoc}
use native.Mathlib.Omega.{arith}
use native.Mathlib.Nat.{pow-suc, pow-le-pow_right, div-lt_iff_lt-mul}
use lib.ListN.{length, get_or, set, take, drop, length-append, get_or-append}
use native.Mathlib.Numerals.{add-one}
use lib.Seq.{take-suc, get_or-drop, get_or_at}
use Rattle.fields.specs.Bytes.{Bytes, number, bytes}
use Rattle.overlay.specs.Over.{over}
use Rattle.overlay.proofs.Over.{over_last}

pub bytes_length : (k n : ℕ) → length (bytes k n) ≡ k
unfolding bytes
bytes_length zero n = refl
bytes_length (suc k) n = omega (arith, length-append (bytes k (n / 256)) (n % 256 ∷ []), bytes_length k (n / 256))

-- one byte more
pub below_more : (k n b : ℕ) → n < 256 ^ k → b < 256 → n * 256 + b < 256 ^ suc k
below_more k n b h m = rw pow-suc (omega arith)

pub number_below : (k : ℕ) (l : List ℕ) → Bytes l → number k l < 256 ^ k
unfolding number
number_below zero l h = omega arith
number_below (suc k) l h = below_more k (number k l) (get_or l k 0) (number_below k l h) (h k)

-- numbers of up to eight bytes fit
pub power_fits : (k : ℕ) → k ≤ 8 → 256 ^ k ≤ 18446744073709551616
power_fits k h = pow-le-pow_right (omega arith) h

-- what is written reads back
pub number_bytes : (k n : ℕ) (l : List ℕ) → n < 256 ^ k → number k (bytes k n ++ l) ≡ n
unfolding number bytes
number_bytes zero n l h = omega arith
number_bytes (suc k) n l h =
    let e : (bytes k (n / 256) ++ (n % 256 ∷ [])) ++ l ≡ bytes k (n / 256) ++ (n % 256 ∷ l) = append_assoc (bytes k (n / 256)) (n % 256 ∷ []) l in
    let b : n / 256 < 256 ^ k = (div-lt_iff_lt-mul {k = 256} (omega arith)).1 (rw pow-suc at h) in
    let p : number k (bytes k (n / 256) ++ (n % 256 ∷ l)) ≡ n / 256 = number_bytes k (n / 256) (n % 256 ∷ l) b in
    let g : get_or (bytes k (n / 256) ++ (n % 256 ∷ l)) k 0 ≡ n % 256 = get_or_at (bytes k (n / 256)) (n % 256) l 0 k (bytes_length k (n / 256)) in
    rw (e, p, g) (omega arith)

-- bytes are what is written for their number
pub bytes_number : (k : ℕ) (l : List ℕ) → Bytes l → k ≤ length l → bytes k (number k l) ≡ take k l
unfolding number bytes
bytes_number zero l h m = refl
bytes_number (suc k) l h m =
    let b : get_or l k 0 < 256 = h k in
    let d : (number k l * 256 + get_or l k 0) / 256 ≡ number k l = omega arith in
    let r : (number k l * 256 + get_or l k 0) % 256 ≡ get_or l k 0 = omega arith in
    rw (d, r, bytes_number k l h (omega arith)) (sym (take-suc l k 0 (omega arith)))

-- the bytes from a place on are bytes
pub bytes_drop : (a : ℕ) (l : List ℕ) → Bytes l → Bytes (drop a l)
bytes_drop a l h i = rw get_or-drop (h (a + i))

-- ---- a turn of the loops

pub number_step : (i : ℕ) (l : List ℕ) → number (i + 1) l ≡ number i l * 256 + get_or l i 0
unfolding number
number_step i l = rw add-one

-- the last byte stands, and those in front of it are still to come
pub bytes_step : (l : List ℕ) (a i n : ℕ) → 0 < i → a + i ≤ length l → over (set l (a + (i - 1)) (n % 256)) a (bytes (i - 1) (n / 256)) ≡ over l a (bytes i n)
unfolding bytes
bytes_step l a zero n p h = absurd (let x : ⊥ = omega arith in x)
bytes_step l a (suc k) n p h =
    let j : suc k - 1 ≡ k = omega arith in
    let m : length (bytes k (n / 256)) ≡ k = bytes_length k (n / 256) in
    rw j (subst (λ (x : ℕ). over (set l (a + x) (n % 256)) a (bytes k (n / 256)) ≡ over l a (bytes k (n / 256) ++ (n % 256 ∷ []))) m (over_last l a (bytes k (n / 256)) (n % 256) (omega arith)))

-- what lies behind the bytes is no part of the number
pub number_front : (k : ℕ) (l m : List ℕ) → k ≤ length l → number k (l ++ m) ≡ number k l
unfolding number
number_front zero l m h = refl
number_front (suc k) l m h = rw (number_front k l m (omega arith), get_or-append l m 0 k (omega arith))
