-- What a program's loops use: matching, placing, removing and levels, over a list in two parts. Assumes nothing.
use Prim.Native.Nat.{ℕ, zero, suc, ◌+◌, ◌-◌}
use native.Mathlib.Omega.{arith}
use native.Mathlib.Nat.{add-zero}
use mathlib.Core.Path.{◌≡◌, refl}
use mathlib.Core.Bool.{Bool, true, false, cond}
use mathlib.Core.List.{List, [], ◌∷◌, ◌++◌}
use lib.Dec.{eqb}
use borrow.Author.Tests.{eq-eqb, ne_eqb}
use Rattle.rules.specs.Rules.{Side, as_good, Order, Taker, Fill, Level, also, keep, given, filling, keeping, matching, place, joined, levels, total, worth}
use Rattle.rules.specs.Whole.{All, empty, ◌&◌}
use Rattle.rules.specs.Turns.{supply}
use Rattle.rules.proofs.Basics.{keep_all}
use Rattle.rules.proofs.Match.{place_front}

pub keep_append : {X : Type 0} (f : X → Bool) (l k : List X) → keep f (l ++ k) ≡ keep f l ++ keep f k
unfolding keep
keep_append f [] k = refl
keep_append f (x ∷ l) k = rw (keep_append f l k) (go (f x))
  where
    go : (b : Bool) → also b x (keep f l ++ keep f k) ≡ also b x (keep f l) ++ keep f k
    go true = refl
    go false = refl

-- one is taken out, and all others stay
pub keep_out : {X : Type 0} (f : X → Bool) (l : List X) (x : X) (k : List X) → All (λ y. f y ≡ true) l → f x ≡ false → All (λ y. f y ≡ true) k → keep f (l ++ x ∷ k) ≡ l ++ k
unfolding keep
keep_out f l x k a e b = rw (keep_append f l (x ∷ k), e, keep_all f l a, keep_all f k b)

-- a level of a new price comes before those there
pub joined_new : (p q n r : ℕ) (l : List Level) → (p ≡ n → ⊥) → joined p q (joined n r l) ≡ record { price = p; total = q } ∷ joined n r l
joined_new p q n r [] h = rw (ne_eqb p n h)
joined_new p q n r (v ∷ l) h = go (eqb n v.price)
  where
    go : (b : Bool) → joined p q (cond b (record { price = n; total = r + v.total } ∷ l) (record { price = n; total = r } ∷ v ∷ l))
        ≡ record { price = p; total = q } ∷ cond b (record { price = n; total = r + v.total } ∷ l) (record { price = n; total = r } ∷ v ∷ l)
    go true = rw (ne_eqb p n h)
    go false = rw (ne_eqb p n h)

module _ {A : Type 0} where
  filling_append : (t : Taker A) (m : Order A) (g : ℕ) (l k : List (Fill A)) → filling t m g (l ++ k) ≡ filling t m g l ++ k
  filling_append t m zero l k = refl
  filling_append t m (suc g) l k = refl

  keeping_append : (m : Order A) (q : ℕ) (l k : List (Order A)) → keeping m q (l ++ k) ≡ keeping m q l ++ k
  keeping_append m zero l k = refl
  keeping_append m (suc q) l k = refl

  -- first the makers of l, then those of k with what is still wanted
  pub matching_append : (t : Taker A) (w : ℕ) (l k : List (Order A))
      → matching t w (l ++ k)
      ≡ record {
        fills = (matching t w l).fills ++ (matching t (matching t w l).rest k).fills;
        left = (matching t w l).left ++ (matching t (matching t w l).rest k).left;
        rest = (matching t (matching t w l).rest k).rest;
      }
  unfolding matching
  matching_append t w [] k = refl
  matching_append t w (m ∷ l) k =
      let v = w - given t w m in
      let o = matching t v l in
      rw (
        matching_append t v l k,
        filling_append t m (given t w m) o.fills (matching t o.rest k).fills,
        keeping_append m (m.quantity - given t w m) o.left (matching t o.rest k).left,
      )

  pub place_at : (s : Side) (o : Order A) {l : List (Order A)} (k : List (Order A)) → All (λ m. as_good s m.price o.price ≡ true) l
      → All (λ m. as_good s m.price o.price ≡ false) k → place s o (l ++ k) ≡ l ++ o ∷ k
  unfolding place
  place_at s o k empty b = place_front s o k b
  place_at s o k (p & a) b = rw (p, place_at s o k a b)

  -- a queue at one price is one level
  pub levels_queue : (p : ℕ) (m : Order A) {l : List (Order A)} (k : List (Order A)) → m.price ≡ p → All (λ n. n.price ≡ p) l → All (λ n. p ≡ n.price → ⊥) k
      → levels (m ∷ l ++ k) ≡ record { price = p; total = m.quantity + supply l } ∷ levels k
  unfolding levels supply
  levels_queue p m [] e empty empty = rw (e, add-zero m.quantity)
  levels_queue p m (n ∷ k) e empty (x & b) = rw (e, add-zero m.quantity) (joined_new p m.quantity n.price n.quantity (levels k) x)
  levels_queue p m k e (◌&◌ {x = n} {l = l} q a) b = rw (levels_queue p n k q a b, e, eq-eqb p p refl)

  -- ---- sums over fills in two parts: a sum that is too large over the first is too large over both

  pub total_append : (l k : List (Fill A)) → total (l ++ k) ≡ total l + total k
  unfolding total
  total_append [] k = omega arith
  total_append (f ∷ l) k = omega (arith, total_append l k)

  pub worth_append : (l k : List (Fill A)) → worth (l ++ k) ≡ worth l + worth k
  unfolding worth
  worth_append [] k = omega arith
  worth_append (f ∷ l) k = omega (arith, worth_append l k)
