-- X's side in the two histories: the first is what is left of the second when the orders of unknown ids are taken out,
-- and no such order stands ahead of X. Assumes nothing.
use Prim.Native.Nat.{ℕ, zero, suc, ◌-◌, ◌≤◌}
use native.Mathlib.Omega.{arith}
use mathlib.Core.Path.{◌≡◌, refl, sym, ap, ◌∙◌, subst}
use mathlib.Core.Bool.{Bool, true, false, cond, and-true}
use mathlib.Core.Logic.{◌⊎◌, inl, inr}
use mathlib.Core.List.{List, [], ◌∷◌, map, Memᴰ}
use borrow.Author.Tests.{ne_eqb}
use Rattle.rules.specs.Rules.{Side, opposite, as_good, within, Order, Taker, Fill, Outcome, also, keep, given, filling, keeping, meet, matching, place, hide, outcome}
use Rattle.rules.specs.Whole.{All, empty, ◌&◌, Sorted, sorted[], sorted∷, Positive}
use Rattle.rules.specs.Late.{among, up_to, up_to_x, turn_of_x}
use Rattle.rules.proofs.Basics.{not_both, good_trans, good_worse, within_worse, all_map, all_mem, all_keep, keep_yes, keep_map, all_map_list}
use Rattle.rules.proofs.Match.{given_less, idle_done, idle_beyond, left_all, place_all, place_front}

abbrev pub Unmarked : Order Bool → Type 0
Unmarked m = m.tag ≡ false

pub among_none : {l : List (Order Bool)} → All Unmarked l → among l ≡ false
unfolding among
among_none empty = refl
among_none (p & a) = rw p (among_none a)

pub keep_passes : {X : Type 0} (f : X → Bool) (l : List X) → All (λ x. f x ≡ true) (keep f l)
unfolding keep
keep_passes f [] = empty
keep_passes f (x ∷ l) = go (f x) refl (keep_passes f l)
  where
    go : (b : Bool) → f x ≡ b → All (λ y. f y ≡ true) (keep f l) → All (λ y. f y ≡ true) (also b x (keep f l))
    go true e r = e & r
    go false e r = r

up_to_filling : (t : Taker Bool) (m : Order Bool) (g : ℕ) (k l : List (Fill Bool)) → up_to_x k ≡ up_to_x l → up_to_x (filling t m g k) ≡ up_to_x (filling t m g l)
unfolding up_to
up_to_filling t m zero k l e = e
up_to_filling t m (suc g) k l e = rw e

up_to_x_lem : (t : Taker Bool) (m : Order Bool) (g : ℕ) (k l : List (Fill Bool)) → m.tag ≡ true → 1 ≤ g → up_to_x (filling t m g k) ≡ up_to_x (filling t m g l)
unfolding up_to
up_to_x_lem t m zero k l e h = absurd (let f : ⊥ = omega arith in f)
up_to_x_lem t m (suc g) k l e h = rw e

module _ (N : ℕ → Bool) where
  abbrev pub known : Order Bool → Bool
  known m = N m.id

  abbrev pub Known : Order Bool → Type 0
  Known m = N m.id ≡ true

  -- X stands in the list, and all ahead of it are known
  pub data Front : List (Order Bool) → Type 0 where
    here : {x : Order Bool} {l : List (Order Bool)} → x.tag ≡ true → Known x → All Unmarked l → Front (x ∷ l)
    ahead : {m : Order Bool} {l : List (Order Bool)} → Unmarked m → Known m → Front l → Front (m ∷ l)

  pub front_among : {l : List (Order Bool)} → Front l → among l ≡ true
  unfolding among
  front_among (here x n a) = rw x
  front_among (ahead u n f) = rw u (front_among f)

  pub front_hide : {l : List (Order Bool)} (i : ℕ) → Front l → Front (map (hide i) l)
  front_hide i (here x n a) = here x n (all_map_list (hide i) (λ m h. h) a)
  front_hide i (ahead u n f) = ahead u n (front_hide i f)

  -- a known order without the mark comes to rest
  pub front_place : {l : List (Order Bool)} (s : Side) (o : Order Bool) → Unmarked o → Known o → Front l → Front (place s o l)
  unfolding place
  front_place s o v k (here {x = m} {l = l} x n a) = go (as_good s m.price o.price)
    where
      go : (b : Bool) → Front (cond b (m ∷ place s o l) (o ∷ m ∷ l))
      go true = here x n (place_all s o v a)
      go false = ahead v k (here x n a)
  front_place s o v k (ahead {m = m} {l = l} u n f) = go (as_good s m.price o.price) (front_place s o v k f)
    where
      go : (b : Bool) → Front (place s o l) → Front (cond b (m ∷ place s o l) (o ∷ m ∷ l))
      go true r = ahead u n r
      go false r = ahead v k (ahead u n f)

  -- X itself comes to rest among known orders
  pub front_enter : {l : List (Order Bool)} (s : Side) (o : Order Bool) → o.tag ≡ true → Known o → All Unmarked l → All Known l → Front (place s o l)
  unfolding place
  front_enter s o v k empty empty = here v k empty
  front_enter s o v k (◌&◌ {x = m} {l = l} u a) (n & b) = go (as_good s m.price o.price) (front_enter s o v k a b)
    where
      go : (c : Bool) → Front (place s o l) → Front (cond c (m ∷ place s o l) (o ∷ m ∷ l))
      go true r = ahead u n r
      go false r = here v k (u & a)

  -- an order no better than X comes to rest behind X, whatever its id
  pub front_extra : {l : List (Order Bool)} {x : Order Bool} (s : Side) (o : Order Bool) → Unmarked o → x.tag ≡ true → as_good s x.price o.price ≡ true
      → Sorted s l → Memᴰ x l → Front l → Front (place s o l)
  unfolding place
  front_extra {x = y} s o v c g w i (here {x = m} {l = l} x n a) = go i
    where
      step : as_good s m.price o.price ≡ true → Front (cond (as_good s m.price o.price) (m ∷ place s o l) (o ∷ m ∷ l))
      step e = rw e (here x n (place_all s o v a))

      go : Memᴰ y (m ∷ l) → Front (cond (as_good s m.price o.price) (m ∷ place s o l) (o ∷ m ∷ l))
      go (Memᴰ.head e) = step (subst (λ (q : Order Bool). as_good s q.price o.price ≡ true) e g)
      go (Memᴰ.tail j) = absurd (not_both y.tag c (all_mem Unmarked a j))
  front_extra {x = y} s o v c g (sorted∷ d w) i (ahead {m = m} {l = l} u n f) = go i (λ j. front_extra s o v c g w j f)
    where
      step : as_good s m.price o.price ≡ true → Front (place s o l) → Front (cond (as_good s m.price o.price) (m ∷ place s o l) (o ∷ m ∷ l))
      step e r = rw e (ahead u n r)

      go : Memᴰ y (m ∷ l) → (Memᴰ y l → Front (place s o l)) → Front (cond (as_good s m.price o.price) (m ∷ place s o l) (o ∷ m ∷ l))
      go (Memᴰ.head e) r = absurd (not_both m.tag (subst (λ (q : Order Bool). q.tag ≡ true) e c) u)
      go (Memᴰ.tail j) r =
          step (good_trans s m.price y.price o.price (all_mem (λ q. as_good s m.price q.price ≡ true) d j) g) (r j)

  -- X stays, or leaves, when some are taken out
  pub front_keep : {l : List (Order Bool)} (f : Order Bool → Bool) → Front l → Front (keep f l) ⊎ All Unmarked (keep f l)
  unfolding keep
  front_keep f (here {x = m} {l = l} x n a) = go (f m)
    where
      go : (b : Bool) → Front (also b m (keep f l)) ⊎ All Unmarked (also b m (keep f l))
      go true = inl (here x n (all_keep f a))
      go false = inr (all_keep f a)
  front_keep f (ahead {m = m} {l = l} u n r) = go (f m) (front_keep f r)
    where
      go : (b : Bool) → Front (keep f l) ⊎ All Unmarked (keep f l) → Front (also b m (keep f l)) ⊎ All Unmarked (also b m (keep f l))
      go true (inl q) = inl (ahead u n q)
      go true (inr q) = inr (u & q)
      go false q = q

  -- ---- taking the unknown out

  pub front_known : {l : List (Order Bool)} → Front l → Front (keep known l)
  front_known (here {x = m} {l = l} x n a) = rw (keep_yes known m l n) (here x n (all_keep known a))
  front_known (ahead {m = m} {l = l} u n f) = rw (keep_yes known m l n) (ahead u n (front_known f))

  -- the same orders stand up to X
  pub front_turn : {l : List (Order Bool)} → Front l → turn_of_x (keep known l) ≡ turn_of_x l
  unfolding up_to keep
  front_turn (here x n a) = rw (n, x)
  front_turn (ahead u n f) = rw (n, u, front_turn f)

  pub known_place : (s : Side) (o : Order Bool) {l : List (Order Bool)} → Known o → Sorted s l → keep known (place s o l) ≡ place s o (keep known l)
  unfolding place keep
  known_place s o k sorted[] = rw k
  known_place s o k (sorted∷ {m = m} {l = l} a b) = go (as_good s m.price o.price) (N m.id) refl refl (known_place s o k b)
    where
      go : (c n : Bool) → as_good s m.price o.price ≡ c → N m.id ≡ n → keep known (place s o l) ≡ place s o (keep known l)
          → keep known (cond c (m ∷ place s o l) (o ∷ m ∷ l)) ≡ place s o (also n m (keep known l))
      go true true e h r = rw (h, e, r)
      go true false e h r = rw h r
      go false true e h r = rw (k, h, e)
      go false false e h r =
          rw (k, h) (sym (place_front s o (keep known l) (all_keep known (all_map (λ n g. good_worse s m.price n.price o.price g e) a))))

  pub known_extra : (s : Side) (o : Order Bool) (l : List (Order Bool)) → N o.id ≡ false → keep known (place s o l) ≡ keep known l
  unfolding place keep
  known_extra s o [] k = rw k
  known_extra s o (m ∷ l) k = go (as_good s m.price o.price) (known_extra s o l k)
    where
      go : (c : Bool) → keep known (place s o l) ≡ keep known l → keep known (cond c (m ∷ place s o l) (o ∷ m ∷ l)) ≡ also (N m.id) m (keep known l)
      go true r = rw r
      go false r = rw k

  pub known_hide : (i : ℕ) (l : List (Order Bool)) → keep known (map (hide i) l) ≡ map (hide i) (keep known l)
  known_hide i l = keep_map (hide i) (λ m. refl) l

  -- a new order of an unknown id hides no known one
  pub hide_known : {l : List (Order Bool)} (i : ℕ) → N i ≡ false → All Known l → map (hide i) l ≡ l
  hide_known i e empty = refl
  hide_known i e (◌&◌ {x = m} {l = l} n a) = rw (ne_eqb m.id i (λ q. not_both (N i) (subst (λ (j : ℕ). N j ≡ true) q n) e), and-true m.found, hide_known i e a)

  -- ---- matching

  pub data Met (o p : Outcome Bool) : Type 0 where
    stay : o.fills ≡ p.fills → o.rest ≡ p.rest → o.left ≡ keep known p.left → Front p.left → Met o p
    leave : up_to_x o.fills ≡ up_to_x p.fills → All Unmarked o.left → All Unmarked p.left → Met o p

  known_keeping : (m : Order Bool) (q : ℕ) (l : List (Order Bool)) → Known m → keeping m q (keep known l) ≡ keep known (keeping m q l)
  unfolding keep
  known_keeping m zero l n = refl
  known_keeping m (suc q) l n = rw n

  front_keeping : (m : Order Bool) (q : ℕ) (l : List (Order Bool)) → Unmarked m → Known m → Front l → Front (keeping m q l)
  front_keeping m zero l u n f = f
  front_keeping m (suc q) l u n f = ahead u n f

  unmarked_keeping : (m : Order Bool) (q : ℕ) (l : List (Order Bool)) → Unmarked m → All Unmarked l → All Unmarked (keeping m q l)
  unmarked_keeping m zero l u a = a
  unmarked_keeping m (suc q) l u a = u & a

  met_ahead : (t : Taker Bool) (m : Order Bool) (g : ℕ) {o p : Outcome Bool} → Unmarked m → Known m → Met o p → Met (meet t m g o) (meet t m g p)
  met_ahead t m g {o} {p} u n (stay e r k f) =
      stay (ap (filling t m g) e) r (ap (keeping m (m.quantity - g)) k ∙ known_keeping m (m.quantity - g) p.left n)
      (front_keeping m (m.quantity - g) p.left u n f)
  met_ahead t m g {o} {p} u n (leave e a b) =
      leave (up_to_filling t m g o.fills p.fills e) (unmarked_keeping m (m.quantity - g) o.left u a) (unmarked_keeping m (m.quantity - g) p.left u b)

  met_here : (t : Taker Bool) (w : ℕ) (x : Order Bool) (l : List (Order Bool)) → x.tag ≡ true → Known x → All Unmarked l
      → All (λ n. as_good (opposite t.side) x.price n.price ≡ true) l → 1 ≤ x.quantity → Positive l
      → Met (meet t x (given t w x) (matching t (w - given t w x) (keep known l))) (meet t x (given t w x) (matching t (w - given t w x) l))
  met_here t w x l c n u a one p = go (x.quantity - given t w x) refl
    where
      g : ℕ
      g = given t w x

      idle : (w - g ≡ 0) ⊎ (within t.side t.kind x.price ≡ false) → (k : List (Order Bool))
          → All (λ m. as_good (opposite t.side) x.price m.price ≡ true) k → Positive k
          → matching t (w - g) k ≡ record { fills = []; left = k; rest = w - g }
      idle (inl e) k b h = rw e (idle_done t k h)
      idle (inr e) k b h = idle_beyond t (w - g) k h (all_map (λ m q. within_worse t.side t.kind x.price m.price q e) b)

      go : (q : ℕ) → x.quantity - g ≡ q → Met (meet t x g (matching t (w - g) (keep known l))) (meet t x g (matching t (w - g) l))
      go zero e =
          leave
          (up_to_x_lem t x g (matching t (w - g) (keep known l)).fills (matching t (w - g) l).fills c (omega arith))
          (rw e (left_all t (w - g) (λ m q h. h) (all_keep known u)))
          (rw e (left_all t (w - g) (λ m q h. h) u))
      go (suc q) e =
          let why = given_less t w x (omega arith) in
          rw (idle why (keep known l) (all_keep known a) (all_keep known p), idle why l a p)
          (stay refl refl (known_keeping x (x.quantity - g) l n) (rw e (here c n u)))

  pub met : {l : List (Order Bool)} (t : Taker Bool) (w : ℕ) → Front l → Sorted (opposite t.side) l → Positive l
      → Met (matching t w (keep known l)) (matching t w l)
  unfolding matching
  met t w (here {x = m} {l = l} x n a) (sorted∷ b c) (p & q) = rw (keep_yes known m l n) (met_here t w m l x n a b p q)
  met t w (ahead {m = m} {l = l} u n f) (sorted∷ b c) (p & q) = rw (keep_yes known m l n) (met_ahead t m (given t w m) u n (met t (w - given t w m) f c q))

  pub outcome_met : {l : List (Order Bool)} (t : Taker Bool) → Front l → Sorted (opposite t.side) l → Positive l → Met (outcome t (keep known l)) (outcome t l)
  unfolding outcome
  outcome_met t f a p = met t t.quantity f a p
