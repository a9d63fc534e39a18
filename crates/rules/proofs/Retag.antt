-- No rule looks at a tag: a history with other tags ends alike and answers alike. Assumes nothing.
use Prim.Native.Nat.{ℕ, zero, suc, ◌-◌}
use mathlib.Core.Path.{◌≡◌, refl, ap}
use mathlib.Core.Bool.{Bool, true, false, cond}
use mathlib.Core.List.{List, [], ◌∷◌, map}
use mathlib.Core.Option.{Option, none, some}
use lib.ListN.{length}
use Rattle.rules.specs.Rules.{Side, bid, ask, opposite, as_good, Kind, standing, Order, Book, Taker, Fill, also, keep, own, book, given, filling, keeping, matching, place, hide, joining, hiding, stays, only, levels, occupied, total, worth, last_price, last_quantity}
use Rattle.rules.specs.Rules.{Stats, some?, Desk, Call, order, cancel, tracking, Result, Size, stats_after, too_large, full, crowded, outcome, makers, checks, refusal, event, carried, verdict, perform, end}
use Rattle.rules.specs.Retag.{re_order, re_taker, re_fill, re_outcome, re_book, re_desk, re_call, re_result}

module _ {A B : Type 0} (f : A → B) where
  pub own_re : (s : Side) (b : Book A) → own s (re_book f b) ≡ map (re_order f) (own s b)
  own_re bid b = refl
  own_re ask b = refl

  book_re : (s : Side) (l k : List (Order A)) → book s (map (re_order f) l) (map (re_order f) k) ≡ re_book f (book s l k)
  book_re bid l k = refl
  book_re ask l k = refl

  filling_re : (t : Taker A) (m : Order A) (g : ℕ) (l : List (Fill A)) → filling (re_taker f t) (re_order f m) g (map (re_fill f) l) ≡ map (re_fill f) (filling t m g l)
  filling_re t m zero l = refl
  filling_re t m (suc g) l = refl

  keeping_re : (m : Order A) (q : ℕ) (l : List (Order A)) → keeping (re_order f m) q (map (re_order f) l) ≡ map (re_order f) (keeping m q l)
  keeping_re m zero l = refl
  keeping_re m (suc q) l = refl

  matching_re : (t : Taker A) (w : ℕ) (l : List (Order A)) → matching (re_taker f t) w (map (re_order f) l) ≡ re_outcome f (matching t w l)
  unfolding matching
  matching_re t w [] = refl
  matching_re t w (m ∷ l) =
      rw (
        matching_re t (w - given t w m) l,
        filling_re t m (given t w m) (matching t (w - given t w m) l).fills,
        keeping_re m (m.quantity - given t w m) (matching t (w - given t w m) l).left,
      )

  place_re : (s : Side) (o : Order A) (l : List (Order A)) → place s (re_order f o) (map (re_order f) l) ≡ map (re_order f) (place s o l)
  unfolding place
  place_re s o [] = refl
  place_re s o (m ∷ l) = rw (place_re s o l) (go (as_good s m.price o.price))
    where
      go : (b : Bool) → cond b (re_order f m ∷ map (re_order f) (place s o l)) (re_order f o ∷ re_order f m ∷ map (re_order f) l) ≡ map (re_order f) (cond b (m ∷ place s o l) (o ∷ m ∷ l))
      go true = refl
      go false = refl

  hide_re : (i : ℕ) (l : List (Order A)) → map (hide i) (map (re_order f) l) ≡ map (re_order f) (map (hide i) l)
  hide_re i [] = refl
  hide_re i (m ∷ l) = rw (hide_re i l)

  keep_re : (g : Order A → Bool) (h : Order B → Bool) → ((m : Order A) → h (re_order f m) ≡ g m) → (l : List (Order A)) → keep h (map (re_order f) l) ≡ map (re_order f) (keep g l)
  unfolding keep
  keep_re g h e [] = refl
  keep_re g h e (m ∷ l) = rw (keep_re g h e l, e m) (go (g m))
    where
      go : (b : Bool) → also b (re_order f m) (map (re_order f) (keep g l)) ≡ map (re_order f) (also b m (keep g l))
      go true = refl
      go false = refl

  levels_re : (l : List (Order A)) → levels (map (re_order f) l) ≡ levels l
  unfolding levels
  levels_re [] = refl
  levels_re (m ∷ l) = rw (levels_re l)

  occupied_re : (p : ℕ) (l : List (Order A)) → occupied p (map (re_order f) l) ≡ occupied p l
  unfolding occupied
  occupied_re p [] = refl
  occupied_re p (m ∷ l) = rw (occupied_re p l)

  length_re : {X Y : Type 0} (g : X → Y) (l : List X) → length (map g l) ≡ length l
  length_re g [] = refl
  length_re g (x ∷ l) = ap suc (length_re g l)

  total_re : (l : List (Fill A)) → total (map (re_fill f) l) ≡ total l
  unfolding total
  total_re [] = refl
  total_re (g ∷ l) = rw (total_re l)

  worth_re : (l : List (Fill A)) → worth (map (re_fill f) l) ≡ worth l
  unfolding worth
  worth_re [] = refl
  worth_re (g ∷ l) = rw (worth_re l)

  price_re : (l : List (Fill A)) → last_price (map (re_fill f) l) ≡ last_price l
  unfolding last_price
  price_re [] = refl
  price_re (g ∷ []) = refl
  price_re (g ∷ h ∷ l) = price_re (h ∷ l)

  quantity_re : (l : List (Fill A)) → last_quantity (map (re_fill f) l) ≡ last_quantity l
  unfolding last_quantity
  quantity_re [] = refl
  quantity_re (g ∷ []) = refl
  quantity_re (g ∷ h ∷ l) = quantity_re (h ∷ l)

  some_re : (l : List (Fill A)) → some? (map (re_fill f) l) ≡ some? l
  some_re [] = refl
  some_re (g ∷ l) = refl

  stats_re : (l : List (Fill A)) (st : Stats) → stats_after (map (re_fill f) l) st ≡ stats_after l st
  unfolding stats_after
  stats_re l st = rw (total_re l, worth_re l, price_re l, quantity_re l)

  large_re : (l : List (Fill A)) (st : Stats) → too_large (map (re_fill f) l) st ≡ too_large l st
  unfolding too_large
  large_re l st = rw (some_re l, total_re l, worth_re l)

  full_re : (z : Size) (b : Book A) (r : Option ℕ) → full z (re_book f b) r ≡ full z b r
  full_re z b none = refl
  full_re z b (some p) = rw (length_re (re_order f) b.bids, length_re (re_order f) b.asks)

  crowded_re : (z : Size) (l : List (Order A)) (r : Option ℕ) → crowded z (map (re_order f) l) r ≡ crowded z l r
  crowded_re z l none = refl
  crowded_re z l (some p) = rw (occupied_re p l, levels_re l)

  event_re : (k : Kind) (i : ℕ) (l : List (Fill A)) (r : ℕ) → event k i (map (re_fill f) l) r ≡ event k i l r
  event_re k i [] r = refl
  event_re k i (g ∷ l) zero = rw (total_re (g ∷ l), length_re (re_fill f) l)
  event_re k i (g ∷ l) (suc r) = rw (total_re (g ∷ l), length_re (re_fill f) l)

  outcome_re : (t : Taker A) (d : Desk A) → outcome (re_taker f t) (makers (re_taker f t) (re_desk f d)) ≡ re_outcome f (outcome t (makers t d))
  unfolding outcome
  outcome_re t d = rw (own_re (opposite t.side) d.book) (matching_re t t.quantity (makers t d))

  refusal_re : (z : Size) (d : Desk A) (t : Taker A) → refusal z (re_desk f d) (re_taker f t) ≡ refusal z d t
  unfolding refusal checks
  refusal_re z d t =
      let o = outcome t (makers t d) in
      rw (
        outcome_re t d,
        own_re t.side d.book,
        length_re (re_fill f) o.fills,
        large_re o.fills d.stats,
        full_re z d.book (standing t.kind o.rest),
        crowded_re z (own t.side d.book) (standing t.kind o.rest),
      )

  joining_re : (t : Taker A) (o : Option ℕ) (r : ℕ) (l : List (Order A)) → joining (re_taker f t) o r (map (re_order f) l) ≡ map (re_order f) (joining t o r l)
  joining_re t none r l = refl
  joining_re t (some p) r l = rw (hide_re t.id l) (place_re t.side _ (map (hide t.id) l))

  hiding_re : (t : Taker A) (o : Option ℕ) (l : List (Order A)) → hiding (re_taker f t) o (map (re_order f) l) ≡ map (re_order f) (hiding t o l)
  hiding_re t none l = refl
  hiding_re t (some p) l = hide_re t.id l

  carried_re : (d : Desk A) (t : Taker A) → carried (re_desk f d) (re_taker f t) ≡ re_result f (carried d t)
  unfolding carried
  carried_re d t =
      let o = outcome t (makers t d) in
      let r = standing t.kind o.rest in
      rw (
        outcome_re t d,
        own_re t.side d.book,
        joining_re t r o.rest (own t.side d.book),
        hiding_re t r o.left,
        book_re t.side (joining t r o.rest (own t.side d.book)) (hiding t r o.left),
        stats_re o.fills d.stats,
        event_re t.kind t.id o.fills o.rest,
      )

  pub perform_re : (z : Size) (d : Desk A) (c : Call A) → perform z (re_desk f d) (re_call f c) ≡ re_result f (perform z d c)
  unfolding perform only
  perform_re z d (order t) = rw (refusal_re z d t, carried_re d t) (go (refusal z d t))
    where
      go : (o : Option ℕ) → verdict o (re_desk f d) (re_result f (carried d t)) ≡ re_result f (verdict o d (carried d t))
      go none = refl
      go (some n) = refl
  perform_re z d (cancel i) = rw (keep_re (stays i) (stays i) (λ m. refl) d.book.bids, keep_re (stays i) (stays i) (λ m. refl) d.book.asks)
  perform_re z d (tracking b) = refl

  pub end_re : (z : Size) (h : List (Call A)) → end z (map (re_call f) h) ≡ re_desk f (end z h)
  unfolding end
  end_re z [] = refl
  end_re z (c ∷ h) = rw (end_re z h) (ap (λ (r : Result B). r.desk) (perform_re z (end z h) c))
