-- What was read at a place, as a step of the desk. Assumes nothing.
use Prim.Native.Nat.{ℕ, ◌+◌}
use mathlib.Core.Path.{◌≡◌, refl, sym, subst}
use mathlib.Core.List.{List, []}
use native.Mathlib.Omega.{arith}
use lib.ListN.{drop}
use Rattle.rules.specs.Rules as rule
use Rattle.models.specs.declared.OrderType.{OrderType}
use Rattle.tape.specs.Orders.{Item, order, refused, nothing, item, entry, fault, no_more, found, read_at}
use Rattle.text.specs.Text.{stopped_line}
use Rattle.serve.specs.declared.State.TheVariants.{Going, Stopped, Ended}
use Rattle.serve.specs.Serve.{Keeping, Follows, Stepped, ended, stopped, went}

pub refused_place : (w : List ℕ) (at n p : ℕ) → read_at w at ≡ fault n p → p ≡ at
refused_place w at n p e = go (item (drop at w)) e
  where
    go : (i : Item) → found at i ≡ fault n p → p ≡ at
    go (order o k) e = absurd (let z : ◌≡◌ {A = ℕ} 0 1 = cc in let x : ⊥ = omega arith in x)
    go (refused m) e = cc
    go nothing e = absurd (let z : ◌≡◌ {A = ℕ} 0 1 = cc in let x : ⊥ = omega arith in x)

module _ (z : rule.Size) (w : List ℕ) (base at : ℕ) (x : Keeping) where
  pub end_stepped : read_at w at ≡ no_more → Stepped z w base at x [] Ended at x
  end_stepped e = go (item (drop at w)) refl e
    where
      go : (i : Item) → item (drop at w) ≡ i → found at i ≡ no_more → Stepped z w base at x [] Ended at x
      go (order o k) p e = absurd (let z : ◌≡◌ {A = ℕ} 0 1 = cc in let x : ⊥ = omega arith in x)
      go (refused m) p e = absurd (let z : ◌≡◌ {A = ℕ} 0 1 = cc in let x : ⊥ = omega arith in x)
      go nothing p e = ended p

  pub refused_stepped : (n p : ℕ) → read_at w at ≡ fault n p → Stepped z w base at x (stopped_line n (base + p)) Stopped at x
  refused_stepped n p e = go (item (drop at w)) refl e
    where
      go : (i : Item) → item (drop at w) ≡ i → found at i ≡ fault n p → Stepped z w base at x (stopped_line n (base + p)) Stopped at x
      go (order o k) q e = absurd (let z : ◌≡◌ {A = ℕ} 0 1 = cc in let x : ⊥ = omega arith in x)
      go (refused m) q e =
          let a : m ≡ n = cc in
          let b : at ≡ p = cc in
          subst (λ (i : ℕ). Stepped z w base at x (stopped_line n (base + i)) Stopped at x) b
          (subst (λ (i : ℕ). Stepped z w base at x (stopped_line i (base + at)) Stopped at x) a (stopped q))
      go nothing q e = absurd (let z : ◌≡◌ {A = ℕ} 0 1 = cc in let x : ⊥ = omega arith in x)

  pub order_stepped : (o : OrderType) (next : ℕ) {said : List ℕ} {x' : Keeping} → read_at w at ≡ entry o next → Follows z x o said x'
      → Stepped z w base at x said Going next x'
  order_stepped o next {said} {x'} e f = go (item (drop at w)) refl e
    where
      go : (i : Item) → item (drop at w) ≡ i → found at i ≡ entry o next → Stepped z w base at x said Going next x'
      go (order u k) p e =
          let a : u ≡ o = cc in
          let b : at + k ≡ next = cc in
          subst (λ (i : ℕ). Stepped z w base at x said Going i x') b (went u p (subst (λ (v : OrderType). Follows z x v said x') (sym a) f))
      go (refused m) p e = absurd (let z : ◌≡◌ {A = ℕ} 0 1 = cc in let x : ⊥ = omega arith in x)
      go nothing p e = absurd (let z : ◌≡◌ {A = ℕ} 0 1 = cc in let x : ⊥ = omega arith in x)
