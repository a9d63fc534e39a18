-- Every book that a history reaches is whole. Assumes nothing.
use Prim.Native.Nat.{ℕ, ◌≤◌}
use mathlib.Core.Path.{◌≡◌, refl, sym, subst}
use mathlib.Core.Bool.{Bool, true, false}
use mathlib.Core.List.{List, [], ◌∷◌}
use mathlib.Core.Option.{Option, none, some}
use Rattle.rules.specs.Rules.{Side, opposite, as_good, limit, within, standing, Order, Book, Taker, own, book, keep, hide, joining, hiding, stays, only}
use Rattle.rules.specs.Rules.{Desk, Call, order, cancel, tracking, Size, outcome, makers, refusal, carried, verdict, perform, after, end}
use Rattle.rules.specs.Whole.{All, empty, Sorted, sorted[], sorted∷, Positive, Apart, Whole}
use Rattle.rules.proofs.Basics.{apart_swap, opposite_twice, both_sides, own_book, other_book, all_map, all_keep, all_swap, all_map_list}
use Rattle.rules.proofs.Match.{standing_limit, outcome_all, outcome_positive, outcome_sorted, outcome_beyond, place_all, place_sorted, hide_sorted}

module _ {A : Type 0} where
  keep_sorted : {s : Side} {l : List (Order A)} (f : Order A → Bool) → Sorted s l → Sorted s (keep f l)
  unfolding keep
  keep_sorted f sorted[] = sorted[]
  keep_sorted {s} f (sorted∷ {m = m} {l = l} a b) = go (f m) (all_keep f a) (keep_sorted f b)
    where
      go : (c : Bool) → All (λ n. as_good s m.price n.price ≡ true) (keep f l) → Sorted s (keep f l)
          → Sorted s (Rattle.rules.specs.Rules.also c m (keep f l))
      go true x y = sorted∷ x y
      go false x y = y

  swap : (s : Side) (l k : List (Order A)) → Apart s l k → Apart (opposite s) k l
  swap s l k a =
      all_map (λ n h. all_map (λ m g. apart_swap s m.price n.price g) h)
      (all_swap (λ m n. within s (limit m.price) n.price ≡ false) k a)

  -- it is enough to look from one side
  from_side : (s : Side) (b : Book A) → Sorted s (own s b) → Sorted (opposite s) (own (opposite s) b) → Positive (own s b)
      → Positive (own (opposite s) b) → Apart s (own s b) (own (opposite s) b) → Whole b
  from_side s b x y p q a =
      record {
        sorted = both_sides (λ r. Sorted r (own r b)) s x y;
        positive = both_sides (λ r. Positive (own r b)) s p q;
        apart = both_sides (λ r. Apart r (own r b) (own (opposite r) b)) s a
            (subst (λ (r : Side). Apart (opposite s) (own (opposite s) b) (own r b)) (sym (opposite_twice s)) (swap s (own s b) (own (opposite s) b) a));
      }

  from_lists : (s : Side) (l k : List (Order A)) → Sorted s l → Sorted (opposite s) k → Positive l → Positive k → Apart s l k → Whole (book s l k)
  from_lists s l k x y p q a =
      from_side s (book s l k) (rw (own_book s l k) x) (rw (other_book s l k) y) (rw (own_book s l k) p) (rw (other_book s l k) q)
      (rw (own_book s l k, other_book s l k) a)

  -- the two sides after a remainder r has come to rest, or not
  settle : (t : Taker A) (r : ℕ) (l k : List (Order A)) → Sorted t.side l → Sorted (opposite t.side) k → Positive l → Positive k
      → Apart t.side l k → ((p : ℕ) → standing t.kind r ≡ some p → All (λ m. within t.side (limit p) m.price ≡ false) k)
      → Whole (book t.side (joining t (standing t.kind r) r l) (hiding t (standing t.kind r) k))
  settle t r l k x y p q a f = go (standing t.kind r) refl
    where
      go : (o : Option ℕ) → standing t.kind r ≡ o → Whole (book t.side (joining t o r l) (hiding t o k))
      go none e = from_lists t.side l k x y p q a
      go (some c) e =
          let one : 1 ≤ r = (standing_limit t.kind r c e).1 in
          from_lists t.side _ _ (place_sorted _ (hide_sorted t.id x)) (hide_sorted t.id y)
          (place_all t.side _ one (all_map_list (hide t.id) (λ m h. h) p))
          (all_map_list (hide t.id) (λ m h. h) q)
          (place_all t.side _ (all_map_list (hide t.id) (λ m h. h) (f c e))
          (all_map_list (hide t.id) (λ m h. all_map_list (hide t.id) (λ n g. g) h) a))

  pub whole_carried : (d : Desk A) (t : Taker A) → Whole d.book → Whole (carried d t).desk.book
  unfolding carried
  whole_carried d t h =
      let o = outcome t (makers t d) in
      settle t o.rest (own t.side d.book) o.left
      (h.sorted t.side) (outcome_sorted t (h.sorted (opposite t.side))) (h.positive t.side) (outcome_positive t (makers t d))
      (all_map (λ m a. outcome_all t (λ n q e. e) a) (h.apart t.side))
      (outcome_beyond t (makers t d))

  pub whole_only : (f : Order A → Bool) (b : Book A) → Whole b → Whole (only f b)
  unfolding only
  whole_only f b h =
      from_side Side.bid _ (keep_sorted f (h.sorted Side.bid)) (keep_sorted f (h.sorted Side.ask)) (all_keep f (h.positive Side.bid)) (all_keep f (h.positive Side.ask))
      (all_keep f (all_map (λ m a. all_keep f a) (h.apart Side.bid)))

  pub whole_after : (z : Size) (d : Desk A) (c : Call A) → Whole d.book → Whole (after z d c).book
  unfolding perform
  whole_after z d (order t) h = go (refusal z d t)
    where
      go : (o : Option ℕ) → Whole (verdict o d (carried d t)).desk.book
      go none = whole_carried d t h
      go (some n) = h
  whole_after z d (cancel i) h = whole_only (stays i) d.book h
  whole_after z d (tracking b) h = h

  pub whole_end : (z : Size) (h : List (Call A)) → Whole (end z h).book
  unfolding end
  whole_end z [] = from_side Side.bid _ sorted[] sorted[] empty empty empty
  whole_end z (c ∷ h) = whole_after z (end z h) c (whole_end z h)
