-- Matching and placing: what is left of the makers, and when nothing happens. Assumes nothing.
use Prim.Native.Nat.{ℕ, zero, suc, ◌-◌, ◌≤◌, ◌<◌, min}
use native.Mathlib.Nat.{min-zero, sub-zero}
use native.Mathlib.Omega.{arith}
use mathlib.Core.Path.{◌≡◌, refl, sym, ap, subst}
use mathlib.Core.Bool.{Bool, true, false, cond}
use mathlib.Core.Logic.{◌⊎◌, inl, inr}
use mathlib.Core.List.{List, [], ◌∷◌, map}
use mathlib.Core.Option.{some}
use Rattle.rules.specs.Rules.{Side, as_good, Kind, market, limit, within, standing, Order, Taker, given, with_left, keeping, matching, place, hide, outcome}
use Rattle.rules.specs.Whole.{All, empty, ◌&◌, Sorted, sorted[], sorted∷, Positive}
use Rattle.rules.proofs.Basics.{good_trans, good_total, all_map, all_map_list}

-- only the remainder of a limit order rests, at its limit
pub standing_limit : (k : Kind) (r p : ℕ) → standing k r ≡ some p → (k ≡ limit p) × (1 ≤ r)
standing_limit market r p e = absurd (let n : ◌≡◌ {A = ℕ} 0 1 = cc in let x : ⊥ = omega arith in x)
standing_limit (limit q) zero p e = absurd (let n : ◌≡◌ {A = ℕ} 0 1 = cc in let x : ⊥ = omega arith in x)
standing_limit (limit q) (suc r) p e = ((let f : q ≡ p = cc in ap limit f), omega arith)

module _ {A : Type 0} where
  -- ---- one maker

  -- with all of its quantity left a maker stays as it is
  pub keeping_all : (m : Order A) (q : ℕ) (l : List (Order A)) → m.quantity ≡ q → 1 ≤ q → keeping m q l ≡ m ∷ l
  keeping_all m zero l e h = absurd (let f : ⊥ = omega arith in f)
  keeping_all m (suc q) l e h =
      ap {B = List (Order A)} (λ (n : ℕ). with_left m n ∷ l) (sym e)

  pub given_none : (t : Taker A) (m : Order A) → given t 0 m ≡ 0
  given_none t m = rw min-zero (go (within t.side t.kind m.price))
    where
      go : (b : Bool) → ◌≡◌ {A = ℕ} (cond b 0 0) 0
      go true = refl
      go false = refl

  pub given_beyond : (t : Taker A) (w : ℕ) (m : Order A) → within t.side t.kind m.price ≡ false → given t w m ≡ 0
  given_beyond t w m e = rw e

  pub given_within : (t : Taker A) (w : ℕ) (m : Order A) → within t.side t.kind m.price ≡ true → given t w m ≡ min m.quantity w
  given_within t w m e = rw e

  pub given_le : (t : Taker A) (w : ℕ) (m : Order A) → (given t w m ≤ m.quantity) × (given t w m ≤ w)
  given_le t w m = go (within t.side t.kind m.price)
    where
      go : (b : Bool) → (cond b (min m.quantity w) 0 ≤ m.quantity) × (cond b (min m.quantity w) 0 ≤ w)
      go true = omega arith
      go false = omega arith

  -- a maker that keeps something has given all that was wanted, or lies beyond the limit
  pub given_less : (t : Taker A) (w : ℕ) (m : Order A) → given t w m < m.quantity → (w - given t w m ≡ 0) ⊎ (within t.side t.kind m.price ≡ false)
  given_less t w m h = go (within t.side t.kind m.price) refl
    where
      go : (b : Bool) → within t.side t.kind m.price ≡ b → (w - given t w m ≡ 0) ⊎ (within t.side t.kind m.price ≡ false)
      go true e = inl (let f : given t w m ≡ min m.quantity w = given_within t w m e in omega arith)
      go false e = inr e

  -- ---- nothing happens

  idle_step : (t : Taker A) (w : ℕ) (m : Order A) (l : List (Order A)) → given t w m ≡ 0 → 1 ≤ m.quantity
      → matching t w l ≡ record { fills = []; left = l; rest = w } → matching t w (m ∷ l) ≡ record { fills = []; left = m ∷ l; rest = w }
  unfolding matching
  idle_step t w m l e h r =
      rw (e, sub-zero w, sub-zero m.quantity, r, keeping_all m m.quantity l refl h)

  pub idle_done : (t : Taker A) (l : List (Order A)) → Positive l → matching t 0 l ≡ record { fills = []; left = l; rest = 0 }
  unfolding matching
  idle_done t [] a = refl
  idle_done t (m ∷ l) (p & a) = idle_step t 0 m l (given_none t m) p (idle_done t l a)

  pub idle_beyond : (t : Taker A) (w : ℕ) (l : List (Order A)) → Positive l → All (λ m. within t.side t.kind m.price ≡ false) l
      → matching t w l ≡ record { fills = []; left = l; rest = w }
  unfolding matching
  idle_beyond t w [] a b = refl
  idle_beyond t w (m ∷ l) (p & a) (e & b) = idle_step t w m l (given_beyond t w m e) p (idle_beyond t w l a b)

  -- ---- what is left

  -- a fact that does not speak of quantities goes over to what is left
  pub left_all : {P : Order A → Type 0} {l : List (Order A)} (t : Taker A) (w : ℕ)
      → ((m : Order A) (q : ℕ) → P m → P (with_left m (suc q)))
      → All P l → All P (matching t w l).left
  unfolding matching
  left_all t w f empty = empty
  left_all {P} t w f (◌&◌ {x = m} {l = l} p a) = go (m.quantity - given t w m) (left_all t (w - given t w m) f a)
    where
      go : (q : ℕ) {k : List (Order A)} → All P k → All P (keeping m q k)
      go zero b = b
      go (suc q) b = f m q p & b

  pub left_positive : (t : Taker A) (w : ℕ) (l : List (Order A)) → Positive (matching t w l).left
  unfolding matching
  left_positive t w [] = empty
  left_positive t w (m ∷ l) = go (m.quantity - given t w m) (left_positive t (w - given t w m) l)
    where
      go : (q : ℕ) {k : List (Order A)} → Positive k → Positive (keeping m q k)
      go zero b = b
      go (suc q) b = (let h : 1 ≤ suc q = omega arith in h) & b

  pub left_sorted : {s : Side} {l : List (Order A)} (t : Taker A) (w : ℕ) → Sorted s l → Sorted s (matching t w l).left
  unfolding matching
  left_sorted t w sorted[] = sorted[]
  left_sorted {s} t w (sorted∷ {m = m} {l = l} a b) =
      go (m.quantity - given t w m) (left_all t (w - given t w m) (λ n q h. h) a) (left_sorted t (w - given t w m) b)
    where
      go : (q : ℕ) {k : List (Order A)} → All (λ n. as_good s m.price n.price ≡ true) k → Sorted s k → Sorted s (keeping m q k)
      go zero c d = d
      go (suc q) c d = sorted∷ c d

  pub rest_le : (t : Taker A) (w : ℕ) (l : List (Order A)) → (matching t w l).rest ≤ w
  unfolding matching
  rest_le t w [] = omega arith
  rest_le t w (m ∷ l) = let h = rest_le t (w - given t w m) l in omega arith

  -- while something is still wanted, every maker left lies beyond the limit
  pub left_beyond : (t : Taker A) (w : ℕ) (l : List (Order A)) → 1 ≤ (matching t w l).rest
      → All (λ m. within t.side t.kind m.price ≡ false) (matching t w l).left
  unfolding matching
  left_beyond t w [] h = empty
  left_beyond t w (m ∷ l) h = go (m.quantity - given t w m) refl (left_beyond t (w - given t w m) l h)
    where
      go : (q : ℕ) → m.quantity - given t w m ≡ q → {k : List (Order A)} → All (λ n. within t.side t.kind n.price ≡ false) k
          → All (λ n. within t.side t.kind n.price ≡ false) (keeping m q k)
      go zero e b = b
      go (suc q) e b = pick (given_less t w m (omega arith)) & b
        where
          pick : (w - given t w m ≡ 0) ⊎ (within t.side t.kind m.price ≡ false) → within t.side t.kind m.price ≡ false
          pick (inl c) = absurd (let r = rest_le t (w - given t w m) l in let f : ⊥ = omega arith in f)
          pick (inr c) = c

  -- ---- placing

  pub place_all : {P : Order A → Type 0} {l : List (Order A)} (s : Side) (o : Order A) → P o → All P l → All P (place s o l)
  unfolding place
  place_all s o p empty = p & empty
  place_all {P} s o p (◌&◌ {x = m} {l = l} q a) = go (as_good s m.price o.price) (place_all s o p a)
    where
      go : (b : Bool) → All P (place s o l) → All P (cond b (m ∷ place s o l) (o ∷ m ∷ l))
      go true r = q & r
      go false r = p & q & a

  pub place_sorted : {s : Side} {l : List (Order A)} (o : Order A) → Sorted s l → Sorted s (place s o l)
  unfolding place
  place_sorted o sorted[] = sorted∷ empty sorted[]
  place_sorted {s} o (sorted∷ {m = m} {l = l} a b) = go (as_good s m.price o.price) refl (place_sorted o b)
    where
      go : (c : Bool) → as_good s m.price o.price ≡ c → Sorted s (place s o l) → Sorted s (cond c (m ∷ place s o l) (o ∷ m ∷ l))
      go true e r = sorted∷ (place_all s o e a) r
      go false e r =
          let f : as_good s o.price m.price ≡ true = good_total s m.price o.price e in
          sorted∷ (f & all_map (λ n h. good_trans s o.price m.price n.price f h) a) (sorted∷ a b)

  -- in front of worse prices
  pub place_front : (s : Side) (o : Order A) (l : List (Order A)) → All (λ m. as_good s m.price o.price ≡ false) l → place s o l ≡ o ∷ l
  unfolding place
  place_front s o [] a = refl
  place_front s o (m ∷ l) (p & a) = rw p

  pub hide_sorted : {s : Side} {l : List (Order A)} (i : ℕ) → Sorted s l → Sorted s (map (hide i) l)
  hide_sorted i sorted[] = sorted[]
  hide_sorted i (sorted∷ a b) = sorted∷ (all_map_list (hide i) (λ n h. h) a) (hide_sorted i b)

  -- ---- the outcome: all that the later proofs ask of it

  pub outcome_all : {P : Order A → Type 0} {l : List (Order A)} (t : Taker A) → ((m : Order A) (q : ℕ) → P m → P (with_left m (suc q))) → All P l → All P (outcome t l).left
  unfolding outcome
  outcome_all t f a = left_all t t.quantity f a

  pub outcome_sorted : {s : Side} {l : List (Order A)} (t : Taker A) → Sorted s l → Sorted s (outcome t l).left
  unfolding outcome
  outcome_sorted t a = left_sorted t t.quantity a

  pub outcome_positive : (t : Taker A) (l : List (Order A)) → Positive (outcome t l).left
  unfolding outcome
  outcome_positive t l = left_positive t t.quantity l

  -- where a remainder rests, every maker left lies beyond its price
  pub outcome_beyond : (t : Taker A) (l : List (Order A)) (p : ℕ) → standing t.kind (outcome t l).rest ≡ some p
      → All (λ m. within t.side (limit p) m.price ≡ false) (outcome t l).left
  unfolding outcome
  outcome_beyond t l p e =
      let h = standing_limit t.kind _ p e in
      subst (λ (k : Kind). All (λ m. within t.side k m.price ≡ false) (matching t t.quantity l).left) h.0 (left_beyond t t.quantity l h.1)

  pub outcome_idle : (t : Taker A) (l : List (Order A)) → Positive l → All (λ m. within t.side t.kind m.price ≡ false) l
      → outcome t l ≡ record { fills = []; left = l; rest = t.quantity }
  unfolding outcome
  outcome_idle t l p a = idle_beyond t t.quantity l p a
