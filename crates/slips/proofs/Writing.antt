-- What writing by a slip answers and leaves, by the checks in their order. Assumes nothing.
use Prim.Native.Nat.{ℕ, zero, suc, ◌+◌}
use mathlib.Core.Path.{◌≡◌, refl, sym, ap, ◌∙◌}
use mathlib.Core.Bool.{Bool, true, false, ◌||◌, cond}
use mathlib.Core.List.{List}
use mathlib.Core.Option.{none, some}
use native.Mathlib.Omega.{arith}
use lib.Dec.{ltb}
use lib.ListN.{length, set}
use borrow.Author.Tests.{lt-ltb}
use Rattle.std.specs.Prelude.{Result, Ok, Err}
use Rattle.rules.specs.Rules.{first_of}
use Rattle.models.specs.declared.Side.{Side}
use Rattle.models.specs.declared.Side.TheVariants.{Bid, Ask}
use Rattle.models.specs.declared.Refusal.{Refusal}
use Rattle.models.specs.declared.Refusal.TheVariants as refused
use Rattle.models.specs.Readings.{side_number, refusal_number}
use Rattle.tape.specs.Orders.{length_of, side_by, field_of, fits, written_at, written_to}
use Rattle.tape.proofs.Tags.{length_market, length_limit, length_cancel}
use Rattle.slips.specs.Slips.{kind_of, order_of, no_kind, no_side, refusal, outcome_of, answered, written_by, changed, bytes_by}

-- ---- the order of a slip, and what speaks against it

or_true : (b : Bool) → (b || true) ≡ true
or_true true = refl
or_true false = refl

odd_kind : (k : ℕ) → length_of k ≡ 0 → (ltb k 1 || ltb 3 k) ≡ true
odd_kind zero h = refl
odd_kind (suc zero) h = absurd (let x : ⊥ = omega (arith, length_market) in x)
odd_kind (suc (suc zero)) h = absurd (let x : ⊥ = omega (arith, length_limit) in x)
odd_kind (suc (suc (suc zero))) h = absurd (let x : ⊥ = omega (arith, length_cancel) in x)
odd_kind (suc (suc (suc (suc k)))) h = rw (lt-ltb 3 (suc (suc (suc (suc k)))) (omega arith)) (or_true (ltb (suc (suc (suc (suc k)))) 1))

pub kindless : (s : List ℕ) → length_of (kind_of s) ≡ 0 → (l : List ℕ) (at : ℕ) → refusal l at s ≡ some 8
unfolding refusal first_of
kindless s h l at = rw (odd_kind (kind_of s) h)

pub sideless : (s : List ℕ) → no_kind s ≡ false → no_side s ≡ true → (l : List ℕ) (at : ℕ) → refusal l at s ≡ some 10
unfolding refusal first_of
sideless s a b l at = simp (a, b)

-- a number that is a side's says it
pub side_is : (n : ℕ) (s : Side) → n ≡ side_number s → (side_by n ≡ s) × (ltb 1 n ≡ false)
side_is n Bid e = rw e (refl, refl)
side_is n Ask e = rw e (refl, refl)

-- ---- what is written

-- the answer and the bytes are those of the definitions
abbrev pub Right : List ℕ → ℕ → List ℕ → Result (List ℕ) Refusal → List ℕ → Type 0
Right l at s r l' = (outcome_of s r ≡ written_by l at s) × (l' ≡ bytes_by l at s)

module _ (l : List ℕ) (at : ℕ) (s : List ℕ) where
  pub refused_by : (e : Refusal) → refusal l at s ≡ some (refusal_number e) → Right l at s (Err e) l
  refused_by e h = (sym (ap (answered at s) h), sym (ap (changed l at s) h))

  module _ (a : no_kind s ≡ false) (b : no_side s ≡ false) where
    by_room : (t : Bool) → fits l at (order_of s) ≡ t → refusal l at s ≡ cond t none (some 19)
    unfolding refusal first_of
    by_room true e = simp (a, b, e)
    by_room false e = simp (a, b, e)

    -- as the writer answers
    pub short : (e : Refusal) (l' : List ℕ) → Err e ≡ written_at l at (order_of s) → l' ≡ written_to l at (order_of s) → Right l at s (Err e) l'
    short e l' w p = go (fits l at (order_of s)) refl w
      where
        go : (t : Bool) → fits l at (order_of s) ≡ t → Err e ≡ cond t (Ok (at + length (field_of (order_of s)))) (Err refused.ShortRoom) → Right l at s (Err e) l'
        go true f w = absurd (let z : ◌≡◌ {A = ℕ} 0 1 = cc in let x : ⊥ = omega arith in x)
        go false f w =
            let m : e ≡ refused.ShortRoom = cc in
            let q : l' ≡ l = p ∙ rw f in
            rw (q, m) (refused_by refused.ShortRoom (by_room false f))

    pub done : (n : ℕ) (l' : List ℕ) → Ok n ≡ written_at l at (order_of s) → l' ≡ written_to l at (order_of s) → Right l at s (Ok (set s 5 n)) l'
    done n l' w p = go (fits l at (order_of s)) refl w
      where
        go : (t : Bool) → fits l at (order_of s) ≡ t → Ok n ≡ cond t (Ok (at + length (field_of (order_of s)))) (Err refused.ShortRoom) → Right l at s (Ok (set s 5 n)) l'
        go true f w =
            let m : n ≡ at + length (field_of (order_of s)) = cc in
            let r : refusal l at s ≡ none = by_room true f in
            (ap (λ (x : ℕ). outcome_of s (Ok (set s 5 x))) m ∙ sym (ap (answered at s) r), p ∙ sym (ap (changed l at s) r))
        go false f w = absurd (let z : ◌≡◌ {A = ℕ} 0 1 = cc in let x : ⊥ = omega arith in x)
