-- Facts on prices, on lists that are kept in part, and on the sides of a book. Assumes nothing.
use Prim.Native.Nat.{ℕ}
use native.Mathlib.Omega.{arith}
use mathlib.Core.Path.{◌≡◌, refl, sym, subst}
use mathlib.Core.Bool.{Bool, true, false}
use mathlib.Core.Logic.{◌⊎◌, inl, inr}
use mathlib.Core.List.{List, [], ◌∷◌, map, Memᴰ}
use borrow.Author.Tests.{leb-true, leb-false, le-leb, lt-leb}
use Rattle.rules.specs.Rules.{Side, bid, ask, opposite, as_good, Kind, market, limit, within, Order, own, book, also, keep}
use Rattle.rules.specs.Whole.{All, empty, ◌&◌}

pub not_both : (b : Bool) → b ≡ true → b ≡ false → ⊥
not_both b p q = let z : ◌≡◌ {A = ℕ} 0 1 = cc in omega arith

-- ---- prices

pub good_trans : (s : Side) (p q r : ℕ) → as_good s p q ≡ true → as_good s q r ≡ true → as_good s p r ≡ true
good_trans bid p q r h k = omega (arith, leb-true, le-leb)
good_trans ask p q r h k = omega (arith, leb-true, le-leb)

pub good_total : (s : Side) (p q : ℕ) → as_good s p q ≡ false → as_good s q p ≡ true
good_total bid p q h = omega (arith, leb-false, le-leb)
good_total ask p q h = omega (arith, leb-false, le-leb)

pub good_refl : (s : Side) (p : ℕ) → as_good s p p ≡ true
good_refl bid p = le-leb p p (omega arith)
good_refl ask p = le-leb p p (omega arith)

pub good_antisym : (s : Side) (p q : ℕ) → as_good s p q ≡ true → as_good s q p ≡ true → p ≡ q
good_antisym bid p q h k = omega (arith, leb-true)
good_antisym ask p q h k = omega (arith, leb-true)

-- q is no better than p, and p is not as good as r
pub good_worse : (s : Side) (p q r : ℕ) → as_good s p q ≡ true → as_good s p r ≡ false → as_good s q r ≡ false
good_worse bid p q r h k = omega (arith, leb-true, leb-false, lt-leb)
good_worse ask p q r h k = omega (arith, leb-true, leb-false, lt-leb)

-- a taker whom price p does not meet meets no worse price
pub within_worse : (s : Side) (k : Kind) (p q : ℕ) → as_good (opposite s) p q ≡ true → within s k p ≡ false → within s k q ≡ false
within_worse s market p q h e = e
within_worse s (limit r) p q h e = good_worse (opposite s) p q r h e

-- a limit that is no better reaches no further
pub limit_worse : (s : Side) (p q n : ℕ) → as_good s p q ≡ true → within s (limit p) n ≡ false → within s (limit q) n ≡ false
limit_worse bid p q n h k = omega (arith, leb-true, leb-false, lt-leb)
limit_worse ask p q n h k = omega (arith, leb-true, leb-false, lt-leb)

pub apart_swap : (s : Side) (p q : ℕ) → within s (limit p) q ≡ false → within (opposite s) (limit q) p ≡ false
apart_swap bid p q h = h
apart_swap ask p q h = h

-- ---- sides

pub opposite_twice : (s : Side) → opposite (opposite s) ≡ s
opposite_twice bid = refl
opposite_twice ask = refl

pub both_sides : (P : Side → Type 0) (s : Side) → P s → P (opposite s) → (r : Side) → P r
both_sides P bid a b bid = a
both_sides P bid a b ask = b
both_sides P ask a b bid = b
both_sides P ask a b ask = a

pub one_side : (s r : Side) → (s ≡ r) ⊎ (s ≡ opposite r)
one_side bid bid = inl refl
one_side bid ask = inr refl
one_side ask bid = inr refl
one_side ask ask = inl refl

module _ {A : Type 0} where
  pub own_book : (s : Side) (l m : List (Order A)) → own s (book s l m) ≡ l
  own_book bid l m = refl
  own_book ask l m = refl

  pub other_book : (s : Side) (l m : List (Order A)) → own (opposite s) (book s l m) ≡ m
  other_book bid l m = refl
  other_book ask l m = refl

-- ---- all

module _ {X : Type 0} where
  pub all_map : {P Q : X → Type 0} {l : List X} → ((x : X) → P x → Q x) → All P l → All Q l
  all_map f empty = empty
  all_map f (◌&◌ {x = x} p a) = f x p & all_map f a

  pub all_head : {P : X → Type 0} {x : X} {l : List X} → All P (x ∷ l) → P x
  all_head (p & a) = p

  pub all_tail : {P : X → Type 0} {x : X} {l : List X} → All P (x ∷ l) → All P l
  all_tail (p & a) = a

  pub all_mem : (P : X → Type 0) {x : X} {l : List X} → All P l → Memᴰ x l → P x
  all_mem P a (Memᴰ.head e) = subst P (sym e) (all_head a)
  all_mem P a (Memᴰ.tail n) = all_mem P (all_tail a) n

  pub all_keep : {P : X → Type 0} {l : List X} (f : X → Bool) → All P l → All P (keep f l)
  unfolding keep
  all_keep f empty = empty
  all_keep {P} f (◌&◌ {x = x} {l = l} p a) = go (f x) (all_keep f a)
    where
      go : (b : Bool) → All P (keep f l) → All P (also b x (keep f l))
      go true r = p & r
      go false r = r

  -- ---- keeping a part

  pub keep_all : (f : X → Bool) (l : List X) → All (λ x. f x ≡ true) l → keep f l ≡ l
  unfolding keep
  keep_all f [] a = refl
  keep_all f (x ∷ l) (p & a) = rw (p, keep_all f l a)

  pub keep_yes : (f : X → Bool) (x : X) (l : List X) → f x ≡ true → keep f (x ∷ l) ≡ x ∷ keep f l
  unfolding keep
  keep_yes f x l e = rw e

  pub keep_no : (f : X → Bool) (x : X) (l : List X) → f x ≡ false → keep f (x ∷ l) ≡ keep f l
  unfolding keep
  keep_no f x l e = rw e

  pub keep_keep : (f g : X → Bool) (l : List X) → keep f (keep g l) ≡ keep g (keep f l)
  unfolding keep
  keep_keep f g [] = refl
  keep_keep f g (x ∷ l) = go (f x) (g x) refl refl (keep_keep f g l)
    where
      go : (b c : Bool) → f x ≡ b → g x ≡ c → keep f (keep g l) ≡ keep g (keep f l) → keep f (also c x (keep g l)) ≡ keep g (also b x (keep f l))
      go true true p q r = rw (p, q, r)
      go true false p q r = rw (q, r)
      go false true p q r = rw (p, r)
      go false false p q r = r

  pub keep_map : {f : X → Bool} (g : X → X) → ((x : X) → f (g x) ≡ f x) → (l : List X) → keep f (map g l) ≡ map g (keep f l)
  unfolding keep
  keep_map g h [] = refl
  keep_map {f} g h (x ∷ l) = rw (h x) (go (f x) (keep_map g h l))
    where
      go : (b : Bool) → keep f (map g l) ≡ map g (keep f l) → also b (g x) (keep f (map g l)) ≡ map g (also b x (keep f l))
      go true r = rw r
      go false r = r

  pub all_map_list : {P Q : X → Type 0} {l : List X} (g : X → X) → ((x : X) → P x → Q (g x)) → All P l → All Q (map g l)
  all_map_list g h empty = empty
  all_map_list g h (◌&◌ {x = x} p a) = h x p & all_map_list g h a

pub all_swap : {X Y : Type 0} (R : X → Y → Type 0) {l : List X} (k : List Y) → All (λ x. All (λ y. R x y) k) l → All (λ y. All (λ x. R x y) l) k
all_swap R [] a = empty
all_swap R (y ∷ k) a = all_map (λ x b. all_head b) a & all_swap R k (all_map (λ x b. all_tail b) a)
