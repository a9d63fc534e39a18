-- At most one order is found under an id; counts stay within the book's size. Assumes nothing.
use Prim.Native.Nat.{ℕ, zero, suc, ◌+◌, ◌-◌, ◌≤◌}
use native.Mathlib.Omega.{arith}
use mathlib.Core.Path.{◌≡◌, refl, sym, ap, ◌∙◌, subst}
use mathlib.Core.Bool.{Bool, true, false, not, ◌&&◌, ◌||◌, cond}
use mathlib.Core.List.{List, [], ◌∷◌, map}
use mathlib.Core.Option.{Option, none, some}
use lib.Dec.{leb, eqb}
use lib.ListN.{length}
use borrow.Author.Tests.{eqb-true, eq-eqb, ne_eqb, leb-false}
use Rattle.rules.specs.Rules.{Side, bid, ask, opposite, as_good, standing, Order, Book, Taker, also, keep, own, book, at_rest, given, keeping, matching, place, hide, joining, hiding, stays, only}
use Rattle.rules.specs.Rules.{Desk, Call, order, cancel, tracking, Size, unless, first_of, outcome, makers, checks, refusal, full, crowded, carried, verdict, perform, after, end}
use Rattle.rules.specs.Rules.{Level, joined, levels, occupied}
use Rattle.rules.specs.Whole.{All, empty, ◌&◌, Sorted, sorted[], sorted∷, Whole, one, seen, Once, Fits, WholeBook}
use Rattle.rules.proofs.Basics.{not_both, good_refl, good_antisym, good_worse, all_map, all_head, all_tail, both_sides, own_book, other_book}
use Rattle.rules.proofs.Match.{hide_sorted}
use Rattle.rules.proofs.Reached.{whole_after, whole_end}
use mathlib.Core.Logic.{◌⊎◌, inl, inr}

one_le : (b : Bool) → one b ≤ 1
one_le true = omega arith
one_le false = omega arith

module _ {A : Type 0} where
  seen_keeping : (i : ℕ) (m : Order A) (q : ℕ) (l : List (Order A)) → seen i (keeping m q l) ≤ one (m.found && eqb m.id i) + seen i l
  unfolding seen
  seen_keeping i m zero l = omega arith
  seen_keeping i m (suc q) l = omega arith

  seen_left : (i : ℕ) (t : Taker A) (w : ℕ) (l : List (Order A)) → seen i (matching t w l).left ≤ seen i l
  unfolding matching seen
  seen_left i t w [] = omega arith
  seen_left i t w (m ∷ l) =
      let v = w - given t w m in
      omega (arith, seen_keeping i m (m.quantity - given t w m) (matching t v l).left, seen_left i t v l)

  outcome_seen : (i : ℕ) (t : Taker A) (l : List (Order A)) → seen i (outcome t l).left ≤ seen i l
  unfolding outcome
  outcome_seen i t l = seen_left i t t.quantity l

  seen_keep : (i : ℕ) (f : Order A → Bool) (l : List (Order A)) → seen i (keep f l) ≤ seen i l
  unfolding seen keep
  seen_keep i f [] = omega arith
  seen_keep i f (m ∷ l) = go (f m) (seen_keep i f l)
    where
      go : (b : Bool) → seen i (keep f l) ≤ seen i l → seen i (also b m (keep f l)) ≤ one (m.found && eqb m.id i) + seen i l
      go true h = omega arith
      go false h = omega arith

  seen_place : (i : ℕ) (s : Side) (o : Order A) (l : List (Order A)) → seen i (place s o l) ≡ one (o.found && eqb o.id i) + seen i l
  unfolding seen place
  seen_place i s o [] = refl
  seen_place i s o (m ∷ l) = go (as_good s m.price o.price) (seen_place i s o l)
    where
      go : (b : Bool) → seen i (place s o l) ≡ one (o.found && eqb o.id i) + seen i l
          → seen i (cond b (m ∷ place s o l) (o ∷ m ∷ l)) ≡ one (o.found && eqb o.id i) + (one (m.found && eqb m.id i) + seen i l)
      go true h = omega arith
      go false h = omega arith

  -- what a new order of id j hides
  seen_hide : (i j : ℕ) (l : List (Order A)) → seen i (map (hide j) l) ≤ seen i l
  unfolding seen
  seen_hide i j [] = omega arith
  seen_hide i j (m ∷ l) = go m.found (eqb m.id j) (eqb m.id i) (seen_hide i j l)
    where
      go : (a b c : Bool) {x y : ℕ} → x ≤ y → one (a && not b && c) + x ≤ one (a && c) + y
      go true true c h = omega (arith, one_le c)
      go true false c h = omega arith
      go false b c h = omega arith

  seen_hidden : (i : ℕ) (l : List (Order A)) → seen i (map (hide i) l) ≡ 0
  unfolding seen
  seen_hidden i [] = refl
  seen_hidden i (m ∷ l) = go m.found (eqb m.id i) (seen_hidden i l)
    where
      go : (a b : Bool) {x : ℕ} → x ≡ 0 → one (a && not b && b) + x ≡ 0
      go true true h = omega arith
      go true false h = omega arith
      go false true h = omega arith
      go false false h = omega arith

  -- from either side
  seen_sides : (s : Side) (i : ℕ) (l k : List (Order A)) → seen i l + seen i k ≤ 1 → seen i (book s l k).bids + seen i (book s l k).asks ≤ 1
  seen_sides bid i l k h = h
  seen_sides ask i l k h = omega arith

  seen_own : (s : Side) (i : ℕ) (b : Book A) → seen i b.bids + seen i b.asks ≤ 1 → seen i (own s b) + seen i (own (opposite s) b) ≤ 1
  seen_own bid i b h = h
  seen_own ask i b h = omega arith

  once_settle : (t : Taker A) (r : ℕ) (o : Option ℕ) (i : ℕ) (l k : List (Order A)) → seen i l + seen i k ≤ 1 → seen i (joining t o r l) + seen i (hiding t o k) ≤ 1
  once_settle t r none i l k h = h
  once_settle t r (some p) i l k h = go (eqb t.id i) refl
    where
      x : Order A
      x = at_rest t p r

      go : (b : Bool) → eqb t.id i ≡ b → seen i (place t.side x (map (hide t.id) l)) + seen i (map (hide t.id) k) ≤ 1
      go true e =
          rw (seen_place i t.side x (map (hide t.id) l), e, eqb-true t.id i e)
          (omega (arith, seen_hidden i l, seen_hidden i k))
      go false e =
          rw (seen_place i t.side x (map (hide t.id) l), e) (omega (arith, seen_hide i t.id l, seen_hide i t.id k))

  once_carried : (d : Desk A) (t : Taker A) → Once d.book → Once (carried d t).desk.book
  unfolding carried
  once_carried d t h i =
      let o = outcome t (makers t d) in
      seen_sides t.side i _ _ (
      once_settle t o.rest (standing t.kind o.rest) i (own t.side d.book) o.left
      (omega (arith, seen_own t.side i d.book (h i), outcome_seen i t (makers t d))))

  once_after : (z : Size) (d : Desk A) (c : Call A) → Once d.book → Once (after z d c).book
  unfolding perform only
  once_after z d (order t) h = go (refusal z d t)
    where
      go : (o : Option ℕ) → Once (verdict o d (carried d t)).desk.book
      go none = once_carried d t h
      go (some n) = h
  once_after z d (cancel j) h = λ i. omega (arith, h i, seen_keep i (stays j) d.book.bids, seen_keep i (stays j) d.book.asks)
  once_after z d (tracking b) h = h

  pub once_end : (z : Size) (h : List (Call A)) → Once (end z h).book
  unfolding end seen
  once_end z [] = λ i. omega arith
  once_end z (c ∷ h) = once_after z (end z h) c (once_end z h)

-- ---- counting prices: how often the price changes along a list that begins after price p

abbrev differ : ℕ → ℕ → ℕ
differ p q = one (not (eqb p q))

differ_same : (p q : ℕ) → p ≡ q → differ p q ≡ 0
differ_same p q e = rw (eq-eqb p q e)

differ_other : (p q : ℕ) → (p ≡ q → ⊥) → differ p q ≡ 1
differ_other p q h = rw (ne_eqb p q h)

differ_via : (p n m : ℕ) → differ p m ≤ differ p n + differ n m
differ_via p n m = go (eqb p n) (eqb n m) refl refl
  where
    go : (a b : Bool) → eqb p n ≡ a → eqb n m ≡ b → differ p m ≤ one (not a) + one (not b)
    go true true e f = omega (arith, differ_same p m (eqb-true p n e ∙ eqb-true n m f))
    go true false e f = omega (arith, one_le (not (eqb p m)))
    go false true e f = omega (arith, one_le (not (eqb p m)))
    go false false e f = omega (arith, one_le (not (eqb p m)))

-- no refusal: every test fails
all_false : (l : List (ℕ × Bool)) → first_of l ≡ none → All (λ c. c.1 ≡ false) l
unfolding first_of
all_false [] e = empty
all_false (c ∷ l) e = go c.1 refl e (all_false l)
  where
    go : (b : Bool) → c.1 ≡ b → unless b c.0 (first_of l) ≡ none → (first_of l ≡ none → All (λ x. x.1 ≡ false) l) → All (λ x. x.1 ≡ false) (c ∷ l)
    go true f h r = absurd (let m : ◌≡◌ {A = ℕ} 0 1 = cc in let x : ⊥ = omega arith in x)
    go false f h r = f & r h

-- the first level has the price that came in
pub joined_head : (n r : ℕ) (l : List Level) → (v : Level) × (k : List Level) × (joined n r l ≡ v ∷ k) × (v.price ≡ n)
joined_head n r [] = (record { price = n; total = r }, [], refl, refl)
joined_head n r (v ∷ l) = go (eqb n v.price)
  where
    go : (b : Bool) → (w : Level) × (k : List Level) × (cond b (record { price = n; total = r + v.total } ∷ l) (record { price = n; total = r } ∷ v ∷ l) ≡ w ∷ k) × (w.price ≡ n)
    go true = (record { price = n; total = r + v.total }, l, refl, refl)
    go false = (record { price = n; total = r }, v ∷ l, refl, refl)

joined_first : (p q : ℕ) (v : Level) (l : List Level) → length (joined p q (v ∷ l)) ≡ differ p v.price + length (v ∷ l)
joined_first p q v l = go (eqb p v.price)
  where
    go : (b : Bool) → length {A = Level} (cond b (record { price = p; total = q + v.total } ∷ l) (record { price = p; total = q } ∷ v ∷ l)) ≡ one (not b) + suc (length l)
    go true = omega arith
    go false = omega arith

joined_length : (p q n r : ℕ) (l : List Level) → length (joined p q (joined n r l)) ≡ differ p n + length (joined n r l)
joined_length p q n r l =
    let h = joined_head n r l in
    rw h.2 (joined_first p q h.0 h.1 ∙ ap (λ (x : ℕ). differ p x + length (h.0 ∷ h.1)) h.3)

module _ {A : Type 0} where
  changes : ℕ → List (Order A) → ℕ
  changes p [] = 0
  changes p (m ∷ l) = differ p m.price + changes m.price l

  levels_length : (m : Order A) (l : List (Order A)) → length (levels (m ∷ l)) ≡ suc (changes m.price l)
  unfolding levels changes
  levels_length m [] = refl
  levels_length m (n ∷ l) = joined_length m.price m.quantity n.price n.quantity (levels l) ∙ (let h = levels_length n l in omega arith)

  changes_via : (p n : ℕ) (l : List (Order A)) → changes p l ≤ differ p n + changes n l
  unfolding changes
  changes_via p n [] = omega arith
  changes_via p n (m ∷ l) = omega (arith, differ_via p n m.price)

  -- l with some orders taken out and quantities changed
  data Thin : List (Order A) → List (Order A) → Type 0 where
    thin[] : Thin [] []
    same : {m n : Order A} {k l : List (Order A)} → m.price ≡ n.price → Thin k l → Thin (m ∷ k) (n ∷ l)
    drop : {n : Order A} {k l : List (Order A)} → Thin k l → Thin k (n ∷ l)

  thin_length : {k l : List (Order A)} → Thin k l → length k ≤ length l
  thin_length thin[] = omega arith
  thin_length (same e h) = let r = thin_length h in omega arith
  thin_length (drop h) = let r = thin_length h in omega arith

  thin_changes : {k l : List (Order A)} (p : ℕ) → Thin k l → changes p k ≤ changes p l
  unfolding changes
  thin_changes p thin[] = omega arith
  thin_changes p (same {m = m} {n = n} {k = k} {l = l} e h) = rw e (let r = thin_changes n.price h in omega arith)
  thin_changes p (drop {n = n} {l = l} h) = let r = thin_changes p h in omega (arith, changes_via p n.price l)

  levels_more : (n : Order A) (l : List (Order A)) → length (levels l) ≤ length (levels (n ∷ l))
  unfolding changes
  levels_more n [] = rw (levels_length n []) (let f : length (levels {A = A} []) ≡ 0 = unfold levels in refl in omega arith)
  levels_more n (m ∷ l) = rw (levels_length n (m ∷ l), levels_length m l) (omega arith)

  thin_levels : {k l : List (Order A)} → Thin k l → length (levels k) ≤ length (levels l)
  thin_levels thin[] = omega arith
  thin_levels (same {m = m} {n = n} {k = k} {l = l} e h) = rw (levels_length m k, levels_length n l, e) (let r = thin_changes n.price h in omega arith)
  thin_levels (drop {n = n} {l = l} h) = let r = thin_levels h in omega (arith, levels_more n l)

  thin_refl : (l : List (Order A)) → Thin l l
  thin_refl [] = thin[]
  thin_refl (m ∷ l) = same refl (thin_refl l)

  thin_hide : {k l : List (Order A)} (i : ℕ) → Thin k l → Thin (map (hide i) k) l
  thin_hide i thin[] = thin[]
  thin_hide i (same e h) = same e (thin_hide i h)
  thin_hide i (drop h) = drop (thin_hide i h)

  thin_keep : (f : Order A → Bool) (l : List (Order A)) → Thin (keep f l) l
  unfolding keep
  thin_keep f [] = thin[]
  thin_keep f (m ∷ l) = go (f m) (thin_keep f l)
    where
      go : (b : Bool) → Thin (keep f l) l → Thin (also b m (keep f l)) (m ∷ l)
      go true h = same refl h
      go false h = drop h

  thin_left : (t : Taker A) (w : ℕ) (l : List (Order A)) → Thin (matching t w l).left l
  unfolding matching
  thin_left t w [] = thin[]
  thin_left t w (m ∷ l) = go (m.quantity - given t w m) (thin_left t (w - given t w m) l)
    where
      go : (q : ℕ) {k : List (Order A)} → Thin k l → Thin (keeping m q k) (m ∷ l)
      go zero h = drop h
      go (suc q) h = same refl h

  outcome_thin : (t : Taker A) (l : List (Order A)) → Thin (outcome t l).left l
  unfolding outcome
  outcome_thin t l = thin_left t t.quantity l

  -- no more makers are left than there were
  pub outcome_fewer : (t : Taker A) (l : List (Order A)) → length (outcome t l).left ≤ length l
  outcome_fewer t l = thin_length (outcome_thin t l)

  -- ---- a new order

  place_length : (s : Side) (o : Order A) (l : List (Order A)) → length (place s o l) ≡ suc (length l)
  unfolding place
  place_length s o [] = refl
  place_length s o (m ∷ l) = go (as_good s m.price o.price) (place_length s o l)
    where
      go : (b : Bool) → length (place s o l) ≡ suc (length l) → length (cond b (m ∷ place s o l) (o ∷ m ∷ l)) ≡ suc (suc (length l))
      go true h = ap suc h
      go false h = refl

  -- behind a price as good as its own it adds one price at most
  changes_place : (s : Side) (p : ℕ) (o : Order A) (l : List (Order A)) → as_good s p o.price ≡ true → changes p (place s o l) ≤ suc (changes p l)
  unfolding changes place
  changes_place s p o [] h = omega (arith, one_le (not (eqb p o.price)))
  changes_place s p o (m ∷ l) h = go (as_good s m.price o.price) refl (changes_place s m.price o l)
    where
      go : (b : Bool) → as_good s m.price o.price ≡ b → (as_good s m.price o.price ≡ true → changes m.price (place s o l) ≤ suc (changes m.price l))
          → changes p (cond b (m ∷ place s o l) (o ∷ m ∷ l)) ≤ suc (differ p m.price + changes m.price l)
      go true e r = let q = r e in omega arith
      go false e r =
          omega (
            arith,
            one_le (not (eqb p o.price)),
            one_le (not (eqb o.price m.price)),
            differ_other p m.price (λ q. not_both (as_good s m.price o.price) (subst (λ (x : ℕ). as_good s x o.price ≡ true) q h) e),
          )

  levels_place : (s : Side) (o : Order A) (l : List (Order A)) → length (levels (place s o l)) ≤ suc (length (levels l))
  unfolding changes place
  levels_place s o [] = rw (levels_length o []) (omega arith)
  levels_place s o (m ∷ l) = rw (levels_length m l) (go (as_good s m.price o.price) refl)
    where
      go : (b : Bool) → as_good s m.price o.price ≡ b → length (levels (cond b (m ∷ place s o l) (o ∷ m ∷ l))) ≤ suc (suc (changes m.price l))
      go true e = rw (levels_length m (place s o l)) (let r = changes_place s m.price o l e in omega arith)
      go false e = rw (levels_length o (m ∷ l)) (omega (arith, one_le (not (eqb o.price m.price))))

  occupied_worse : (s : Side) (o : ℕ) {l : List (Order A)} → All (λ n. as_good s n.price o ≡ false) l → as_good s o o ≡ true → occupied o l ≡ false
  unfolding occupied
  occupied_worse s o empty r = refl
  occupied_worse s o (◌&◌ {x = n} h a) r =
      rw (ne_eqb o n.price (λ e. not_both (as_good s n.price o) (subst (λ (x : ℕ). as_good s x o ≡ true) e r) h)) (occupied_worse s o a r)

  -- where the price is taken already, nothing is added
  next : (s : Side) (m : Order A) (o : ℕ) (l : List (Order A)) → occupied o (m ∷ l) ≡ true → (m.price ≡ o) ⊎ (occupied o l ≡ true)
  unfolding occupied
  next s m o l = go (eqb o m.price) refl
    where
      go : (b : Bool) → eqb o m.price ≡ b → (b || occupied o l) ≡ true → (m.price ≡ o) ⊎ (occupied o l ≡ true)
      go true e h = inl (sym (eqb-true o m.price e))
      go false e h = inr h

  changes_taken : (s : Side) (p : ℕ) (o : Order A) {l : List (Order A)} → All (λ n. as_good s p n.price ≡ true) l → Sorted s l
      → (p ≡ o.price) ⊎ (occupied o.price l ≡ true) → changes p (place s o l) ≤ changes p l
  unfolding changes place
  changes_taken s p o a sorted[] (inl e) = omega (arith, differ_same p o.price e)
  changes_taken s p o a sorted[] (inr e) = absurd (not_both true refl (unfold occupied in sym e))
  changes_taken s p o (g & a) (sorted∷ {m = m} {l = l} c d) h = go (as_good s m.price o.price) refl h (changes_taken s m.price o c d)
    where
      go : (b : Bool) → as_good s m.price o.price ≡ b → (p ≡ o.price) ⊎ (occupied o.price (m ∷ l) ≡ true)
          → ((m.price ≡ o.price) ⊎ (occupied o.price l ≡ true) → changes m.price (place s o l) ≤ changes m.price l)
          → changes p (cond b (m ∷ place s o l) (o ∷ m ∷ l)) ≤ differ p m.price + changes m.price l
      go true e (inl q) r = let k = r (inl (good_antisym s m.price o.price e (subst (λ (x : ℕ). as_good s x m.price ≡ true) q g))) in omega arith
      go true e (inr q) r = let k = r (next s m o.price l q) in omega arith
      go false e (inl q) r = rw q (omega (arith, differ_same o.price o.price refl))
      go false e (inr q) r =
          absurd (not_both (occupied o.price (m ∷ l)) q
          (occupied_worse s o.price (e & all_map (λ n f. good_worse s m.price n.price o.price f e) c) (good_refl s o.price)))

  levels_taken : (s : Side) (o : Order A) {l : List (Order A)} → Sorted s l → occupied o.price l ≡ true → length (levels (place s o l)) ≤ length (levels l)
  unfolding place
  levels_taken s o sorted[] h = absurd (not_both true refl (unfold occupied in sym h))
  levels_taken s o (sorted∷ {m = m} {l = l} a b) h = rw (levels_length m l) (go (as_good s m.price o.price) refl)
    where
      go : (c : Bool) → as_good s m.price o.price ≡ c → length (levels (cond c (m ∷ place s o l) (o ∷ m ∷ l))) ≤ suc (changes m.price l)
      go true e = rw (levels_length m (place s o l)) (let r = changes_taken s m.price o a b (next s m o.price l h) in omega arith)
      go false e =
          absurd (not_both (occupied o.price (m ∷ l)) h
          (occupied_worse s o.price (e & all_map (λ n f. good_worse s m.price n.price o.price f e) a) (good_refl s o.price)))

  occupied_hide : (p i : ℕ) (l : List (Order A)) → occupied p (map (hide i) l) ≡ occupied p l
  unfolding occupied
  occupied_hide p i [] = refl
  occupied_hide p i (m ∷ l) = rw (occupied_hide p i l)

  length_hide : (i : ℕ) (l : List (Order A)) → length (map (hide i) l) ≡ length l
  length_hide i [] = refl
  length_hide i (m ∷ l) = ap suc (length_hide i l)

  -- ---- within the size

  fits_book : (z : Size) (s : Side) (l k : List (Order A)) → length l + length k ≤ z.orders → length (levels l) ≤ z.prices → length (levels k) ≤ z.prices → Fits z (book s l k)
  fits_book z s l k h p q =
      record {
        orders = count s;
        prices = both_sides (λ r. length (levels (own r (book s l k))) ≤ z.prices) s (rw (own_book s l k) p) (rw (other_book s l k) q);
      }
    where
      count : (r : Side) → length (book r l k).bids + length (book r l k).asks ≤ z.orders
      count bid = h
      count ask = omega arith

  fits_settle : (z : Size) (t : Taker A) (r : ℕ) (o : Option ℕ) {l k n : List (Order A)} → Sorted t.side l → Thin k n
      → length l + length n ≤ z.orders → length (levels l) ≤ z.prices → length (levels n) ≤ z.prices
      → (leb z.orders (length l + length n) ≡ false) ⊎ (o ≡ none) → crowded z l o ≡ false → Fits z (book t.side (joining t o r l) (hiding t o k))
  fits_settle z t r none {l} {k} a b c p q f g =
      fits_book z t.side l k (let x = thin_length b in omega arith) p (let x = thin_levels b in omega arith)
  fits_settle z t r (some v) a b c p q (inr f) g = absurd (let n : ◌≡◌ {A = ℕ} 0 1 = cc in let x : ⊥ = omega arith in x)
  fits_settle z t r (some v) {l} {k} {n} a b c p q (inl f) g =
      fits_book z t.side _ _
      (rw (place_length t.side x (map (hide t.id) l), length_hide t.id l, length_hide t.id k)
      (let y = thin_length b in omega (arith, leb-false z.orders (length l + length n) f)))
      (go (occupied v l) (leb z.prices (length (levels l))) refl refl g)
      (let y = thin_levels (thin_hide t.id b) in omega arith)
    where
      x : Order A
      x = at_rest t v r

      go : (c d : Bool) → occupied v l ≡ c → leb z.prices (length (levels l)) ≡ d → (not c && d) ≡ false → length (levels (place t.side x (map (hide t.id) l))) ≤ z.prices
      go true d e h i =
          let y = levels_taken t.side x (hide_sorted t.id a) (occupied_hide v t.id l ∙ e) in
          omega (arith, y, thin_levels (thin_hide t.id (thin_refl l)))
      go false true e h i = absurd (not_both true refl i)
      go false false e h i =
          omega (arith, levels_place t.side x (map (hide t.id) l), thin_levels (thin_hide t.id (thin_refl l)), leb-false z.prices (length (levels l)) h)

  count_sides : (s : Side) (b : Book A) → length b.bids + length b.asks ≡ length (own s b) + length (own (opposite s) b)
  count_sides bid b = refl
  count_sides ask b = omega arith

  has_room : (z : Size) (s : Side) (b : Book A) (o : Option ℕ) → full z b o ≡ false → (leb z.orders (length (own s b) + length (own (opposite s) b)) ≡ false) ⊎ (o ≡ none)
  has_room z s b none e = inr refl
  has_room z s b (some p) e = inl (subst (λ (n : ℕ). leb z.orders n ≡ false) (count_sides s b) e)

  fits_carried : (z : Size) (d : Desk A) (t : Taker A) → refusal z d t ≡ none → Whole d.book → Fits z d.book → Fits z (carried d t).desk.book
  unfolding refusal checks carried
  fits_carried z d t e w f =
      let o = outcome t (makers t d) in
      let four = all_tail (all_tail (all_false (checks z d t) e)) in
      fits_settle z t o.rest (standing t.kind o.rest) (w.sorted t.side) (outcome_thin t (makers t d))
      (omega (arith, count_sides t.side d.book, f.orders)) (f.prices t.side) (f.prices (opposite t.side))
      (has_room z t.side d.book (standing t.kind o.rest) (all_head four)) (all_head (all_tail four))

  fits_only : (z : Size) (g : Order A → Bool) (b : Book A) → Fits z b → Fits z (only g b)
  unfolding only
  fits_only z g b f =
      fits_book z bid (keep g b.bids) (keep g b.asks)
      (omega (arith, thin_length (thin_keep g b.bids), thin_length (thin_keep g b.asks), f.orders))
      (omega (arith, thin_levels (thin_keep g b.bids), f.prices bid)) (omega (arith, thin_levels (thin_keep g b.asks), f.prices ask))

  fits_after : (z : Size) (d : Desk A) (c : Call A) → Whole d.book → Fits z d.book → Fits z (after z d c).book
  unfolding perform only
  fits_after z d (order t) w f = go (refusal z d t) refl
    where
      go : (o : Option ℕ) → refusal z d t ≡ o → Fits z (verdict o d (carried d t)).desk.book
      go none e = fits_carried z d t e w f
      go (some n) e = f
  fits_after z d (cancel i) w f = fits_only z (stays i) d.book f
  fits_after z d (tracking b) w f = f

  pub fits_end : (z : Size) (h : List (Call A)) → Fits z (end z h).book
  unfolding end levels
  fits_end z [] = fits_book z bid [] [] (omega arith) (omega arith) (omega arith)
  fits_end z (c ∷ h) = fits_after z (end z h) c (whole_end z h) (fits_end z h)

  -- every call keeps a whole book, and so does every history
  pub whole_book_after : (z : Size) (d : Desk A) (c : Call A) → WholeBook z d.book → WholeBook z (after z d c).book
  whole_book_after z d c w =
      record { orderly = whole_after z d c w.orderly; once = once_after z d c w.once; fits = fits_after z d c w.orderly w.fits }

  pub whole_book_end : (z : Size) (h : List (Call A)) → WholeBook z (end z h).book
  whole_book_end z h = record { orderly = whole_end z h; once = once_end z h; fits = fits_end z h }
