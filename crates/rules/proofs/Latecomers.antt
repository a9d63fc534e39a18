-- Demand 3: latecomers can't touch those ahead. Assumes nothing.
use Prim.Native.Nat.{ℕ, zero, suc}
use mathlib.Core.Path.{◌≡◌, refl, sym, ap, ◌∙◌}
use mathlib.Core.Bool.{Bool, true, false}
use mathlib.Core.Logic.{◌⊎◌, inl, inr}
use mathlib.Core.List.Memᴰ
use mathlib.Core.List.{List, [], ◌∷◌, map, Memᴰ}
use mathlib.Core.Option.{Option, none, some}
use Rattle.rules.specs.Rules.{Side, bid, ask, opposite, as_good, Kind, limit, within, standing, Order, Book, Taker, Outcome, own, book, with_left, at_rest, keep, hide, joining, hiding, stays, only}
use Rattle.rules.specs.Rules.{Stats, Desk, Call, order, cancel, tracking, Answer, Result, Size, traded, stats_after, total, outcome, makers, refusal, carried, verdict, perform, after, end}
use Rattle.rules.specs.Whole.{All, empty, Sorted, Whole}
use Rattle.rules.specs.Late.{marked, plain, Names, refuses, fills_of, among, rests, up_to_x, turn_of_x, Histories, start, shared, enters_x, extra, Unmoved, Demand3}
use Rattle.rules.proofs.Basics.{not_both, limit_worse, both_sides, own_book, other_book, all_map, all_mem, all_keep, keep_all, keep_keep, all_map_list}
use Rattle.rules.proofs.Match.{outcome_idle, outcome_all, place_all, hide_sorted}
use Rattle.rules.proofs.Reached.{whole_end}
use Rattle.rules.proofs.Queue.{Unmarked, among_none, keep_passes, known, Known, Front, front_among, front_hide, front_place, front_enter, front_extra, front_keep, front_known, front_turn, known_place, known_extra, known_hide, hide_known, Met, stay, leave, outcome_met}

-- ---- a fact that no call takes away

-- P says nothing of quantity and visibility, and holds of what a call may bring
module _ {A : Type 0} (P : Order A → Type 0)
    (quantity : (m : Order A) (q : ℕ) → P m → P (with_left m (suc q)))
    (hidden : (i : ℕ) (m : Order A) → P m → P (hide i m)) where
  abbrev pub Brings : Call A → Type 0
  Brings (order t) = (p r : ℕ) → P (at_rest t p r)
  Brings (cancel i) = Unit {0}
  Brings (tracking b) = Unit {0}

  pub joining_all : (t : Taker A) (o : Option ℕ) (r : ℕ) {l : List (Order A)} → Brings (order t) → All P l → All P (joining t o r l)
  joining_all t none r f a = a
  joining_all t (some p) r f a = place_all t.side _ (f p r) (all_map_list (hide t.id) (hidden t.id) a)

  pub hiding_all : (t : Taker A) (o : Option ℕ) {l : List (Order A)} → All P l → All P (hiding t o l)
  hiding_all t none a = a
  hiding_all t (some p) a = all_map_list (hide t.id) (hidden t.id) a

  book_all : (s : Side) {l k : List (Order A)} → All P l → All P k → (r : Side) → All P (own r (book s l k))
  book_all s {l} {k} a b = both_sides (λ r. All P (own r (book s l k))) s (rw (own_book s l k) a) (rw (other_book s l k) b)

  pub carried_all : (d : Desk A) (t : Taker A) → Brings (order t) → ((s : Side) → All P (own s d.book)) → (s : Side) → All P (own s (carried d t).desk.book)
  unfolding carried
  carried_all d t f a =
      let n = (outcome t (makers t d)).rest in
      book_all t.side (joining_all t (standing t.kind n) n f (a t.side))
      (hiding_all t (standing t.kind n) (outcome_all t quantity (a (opposite t.side))))

  pub after_all : (z : Size) (d : Desk A) (c : Call A) → Brings c → ((s : Side) → All P (own s d.book)) → (s : Side) → All P (own s (after z d c).book)
  unfolding perform only
  after_all z d (order t) f a = go (refusal z d t)
    where
      go : (o : Option ℕ) (s : Side) → All P (own s (verdict o d (carried d t)).desk.book)
      go none = carried_all d t f a
      go (some n) = a
  after_all z d (cancel i) f a = both_sides (λ r. All P (own r (only (stays i) d.book))) bid (all_keep (stays i) (a bid)) (all_keep (stays i) (a ask))
  after_all z d (tracking b) f a = a

-- ---- no fills, no statistics

stats_same : (st : Stats) → stats_after {A = Bool} [] st ≡ st
unfolding stats_after total
stats_same st = go st.tracking
  where
    go : (b : Bool) → traded b 0 (Rattle.rules.specs.Rules.worth {A = Bool} []) (Rattle.rules.specs.Rules.last_price {A = Bool} []) (Rattle.rules.specs.Rules.last_quantity {A = Bool} []) st ≡ st
    go true = refl
    go false = refl

-- ---- refused in both or in neither

data Decided (z : Size) (d e : Desk Bool) (t : Taker Bool) : Type 0 where
  both_refused : (m n : ℕ) → perform z d (order t) ≡ record { desk = d; answer = Answer.refused m } → perform z e (order t) ≡ record { desk = e; answer = Answer.refused n } → Decided z d e t
  both_carried : perform z d (order t) ≡ carried d t → perform z e (order t) ≡ carried e t → Decided z d e t

decided : (z : Size) (d e : Desk Bool) (t : Taker Bool) → refuses (perform z d (order t)).answer ≡ refuses (perform z e (order t)).answer → Decided z d e t
unfolding perform carried
decided z d e t h = go (refusal z d t) (refusal z e t) refl refl
  where
    go : (a b : Option ℕ) → refusal z d t ≡ a → refusal z e t ≡ b → Decided z d e t
    go none none p q = both_carried (rw p) (rw q)
    go (some m) (some n) p q = both_refused m n (rw p) (rw q)
    go none (some n) p q = absurd (not_both true refl (sym (rw (p, q) at h)))
    go (some m) none p q = absurd (not_both true refl (rw (p, q) at h))

module _ (N : ℕ → Bool) where
  -- X's side and the other, in the first history (x, y) and in the second (u, v)
  record Pair (x y u v : List (Order Bool)) : Type 0 where
    mine : x ≡ keep (known N) u
    other : y ≡ v
    front : Front N u
    names : All (Known N) v
    unmarked : All Unmarked v

  data Near (b c : Book Bool) : Type 0 where
    on_bid : Pair b.bids b.asks c.bids c.asks → Near b c
    on_ask : Pair b.asks b.bids c.asks c.bids → Near b c

  Clear : Book Bool → Type 0
  Clear b = (s : Side) → All Unmarked (own s b)

  data State (d e : Desk Bool) : Type 0 where
    near : d.stats ≡ e.stats → Near d.book e.book → State d e
    gone : ((s : Side) → All Unmarked (own s d.book)) → ((s : Side) → All Unmarked (own s e.book)) → State d e

  near_own : (s : Side) {x y u v : List (Order Bool)} → Pair x y u v → Near (book s x y) (book s u v)
  near_own bid p = on_bid p
  near_own ask p = on_ask p

  near_other : (s : Side) {x y u v : List (Order Bool)} → Pair x y u v → Near (book s y x) (book s v u)
  near_other bid p = on_ask p
  near_other ask p = on_bid p

  near_second : (s : Side) (b : Book Bool) {u v : List (Order Bool)} → Pair (own s b) (own (opposite s) b) u v → Near b (book s u v)
  near_second bid b p = on_bid p
  near_second ask b p = on_ask p

  by_side : (s : Side) (b c : Book Bool) → Near b c → Pair (own s b) (own (opposite s) b) (own s c) (own (opposite s) c) ⊎ Pair (own (opposite s) b) (own s b) (own (opposite s) c) (own s c)
  by_side bid b c (on_bid p) = inl p
  by_side bid b c (on_ask p) = inr p
  by_side ask b c (on_bid p) = inr p
  by_side ask b c (on_ask p) = inl p

  pair_x : {x y u v : List (Order Bool)} → Pair x y u v → among x ≡ true
  pair_x p = rw p.mine (front_among N (front_known N p.front))

  pair_y : {x y u v : List (Order Bool)} → Pair x y u v → among y ≡ false
  pair_y p = rw p.other (among_none p.unmarked)

  state_rests : (d e : Desk Bool) → State d e → rests d ≡ rests e
  state_rests d e (gone a b) = rw (among_none (a bid), among_none (a ask), among_none (b bid), among_none (b ask))
  state_rests d e (near s (on_bid p)) = rw (pair_x p, front_among N p.front)
  state_rests d e (near s (on_ask p)) = rw (pair_y p, pair_x p, among_none p.unmarked, front_among N p.front)

  clear_rests : (d : Desk Bool) → ((s : Side) → All Unmarked (own s d.book)) → rests d ≡ false
  clear_rests d a = rw (among_none (a bid), among_none (a ask))

  pair_turn : {x y u v : List (Order Bool)} → Pair x y u v → turn_of_x x ≡ turn_of_x u
  pair_turn p = rw p.mine (front_turn N p.front)

  state_unmoved : (d e : Desk Bool) → State d e → rests d ≡ true → Unmoved d e
  state_unmoved d e (gone a b) r = absurd (not_both (rests d) r (clear_rests d a))
  state_unmoved d e (near s (on_bid p)) r =
      record { statistics = s; turn = both_sides (λ t. turn_of_x (own t d.book) ≡ turn_of_x (own t e.book)) bid (pair_turn p) (ap turn_of_x p.other) }
  state_unmoved d e (near s (on_ask p)) r =
      record { statistics = s; turn = both_sides (λ t. turn_of_x (own t d.book) ≡ turn_of_x (own t e.book)) ask (pair_turn p) (ap turn_of_x p.other) }

  -- ---- what a shared call does

  -- r and q come of d and of its partner
  record Step (d : Desk Bool) (r q : Result Bool) : Type 0 where
    state : State r.desk q.desk
    answer : rests d ≡ true → rests r.desk ≡ true → refuses r.answer ≡ false → r.answer ≡ q.answer
    front : rests d ≡ true → up_to_x (fills_of r.answer) ≡ up_to_x (fills_of q.answer)

  module _ (t : Taker Bool) (tag : t.tag ≡ false) (name : N t.id ≡ true) where
    known_joining : (o : Option ℕ) (r : ℕ) {l : List (Order Bool)} → Sorted t.side l → joining t o r (keep (known N) l) ≡ keep (known N) (joining t o r l)
    known_joining none r a = refl
    known_joining (some p) r {l} a = rw (← known_hide N t.id l) (sym (known_place N t.side _ name (hide_sorted t.id a)))

    front_joining : (o : Option ℕ) (r : ℕ) {l : List (Order Bool)} → Front N l → Front N (joining t o r l)
    front_joining none r f = f
    front_joining (some p) r f = front_place N t.side _ tag name (front_hide N t.id f)

    known_hiding : (o : Option ℕ) (l : List (Order Bool)) → hiding t o (keep (known N) l) ≡ keep (known N) (hiding t o l)
    known_hiding none l = refl
    known_hiding (some p) l = sym (known_hide N t.id l)

    front_hiding : (o : Option ℕ) {l : List (Order Bool)} → Front N l → Front N (hiding t o l)
    front_hiding none f = f
    front_hiding (some p) f = front_hide N t.id f

    -- X stands on the taker's side
    own_pair : {x u : List (Order Bool)} (o p : Outcome Bool) → o ≡ p → x ≡ keep (known N) u → Front N u → Sorted t.side u → All (Known N) p.left → All Unmarked p.left
        → Pair (joining t (standing t.kind o.rest) o.rest x) (hiding t (standing t.kind o.rest) o.left)
        (joining t (standing t.kind p.rest) p.rest u) (hiding t (standing t.kind p.rest) p.left)
    own_pair {x} {u} o p e m f a n c =
        rw (e, m) (
        record {
          mine = known_joining (standing t.kind p.rest) p.rest a;
          other = refl;
          front = front_joining (standing t.kind p.rest) p.rest f;
          names = hiding_all (Known N) (λ q i h. h) (λ i q h. h) t (standing t.kind p.rest) n;
          unmarked = hiding_all Unmarked (λ q i h. h) (λ i q h. h) t (standing t.kind p.rest) c;
        })

    -- X stands on the other side, and stays
    other_pair : {y v : List (Order Bool)} (o p : Outcome Bool) → o.rest ≡ p.rest → o.left ≡ keep (known N) p.left → Front N p.left → y ≡ v → All (Known N) v → All Unmarked v
        → Pair (hiding t (standing t.kind o.rest) o.left) (joining t (standing t.kind o.rest) o.rest y)
        (hiding t (standing t.kind p.rest) p.left) (joining t (standing t.kind p.rest) p.rest v)
    other_pair o p r m f e n c =
        rw (r, m, e) (
        record {
          mine = known_hiding (standing t.kind p.rest) p.left;
          other = refl;
          front = front_hiding (standing t.kind p.rest) f;
          names = joining_all (Known N) (λ q i h. h) (λ i q h. h) t (standing t.kind p.rest) p.rest (λ q i. name) n;
          unmarked = joining_all Unmarked (λ q i h. h) (λ i q h. h) t (standing t.kind p.rest) p.rest (λ q i. tag) c;
        })

    step_carried : (d e : Desk Bool) → Whole e.book → d.stats ≡ e.stats → Near d.book e.book → Step d (carried d t) (carried e t)
    unfolding carried
    step_carried d e w st n = go (by_side t.side d.book e.book n)
      where
        o : Outcome Bool
        o = outcome t (makers t d)

        p : Outcome Bool
        p = outcome t (makers t e)

        go : Pair (own t.side d.book) (own (opposite t.side) d.book) (own t.side e.book) (own (opposite t.side) e.book)
            ⊎ Pair (own (opposite t.side) d.book) (own t.side d.book) (own (opposite t.side) e.book) (own t.side e.book)
            → Step d (carried d t) (carried e t)
        go (inl q) =
            let same : o ≡ p = ap (outcome t) q.other in
            record {
              state = near (rw (same, st)) (near_own t.side (own_pair o p same q.mine q.front (w.sorted t.side)
                  (outcome_all t (λ m i h. h) q.names) (outcome_all t (λ m i h. h) q.unmarked)));
              answer = λ _ _ _. rw same;
              front = λ _. rw same;
            }
        go (inr q) = other (rw q.mine (outcome_met N t q.front (w.sorted (opposite t.side)) (w.positive (opposite t.side))))
          where
            clear : {l : List (Order Bool)} (i : Outcome Bool) → All Unmarked l → All Unmarked i.left
                → (s : Side) → All Unmarked (own s (book t.side (joining t (standing t.kind i.rest) i.rest l) (hiding t (standing t.kind i.rest) i.left)))
            clear i a b =
                book_all Unmarked (λ m j h. h) (λ j m h. h) t.side
                (joining_all Unmarked (λ m j h. h) (λ j m h. h) t (standing t.kind i.rest) i.rest (λ m j. tag) a)
                (hiding_all Unmarked (λ m j h. h) (λ j m h. h) t (standing t.kind i.rest) b)

            other : Met N o p → Step d (carried d t) (carried e t)
            other (stay f r k g) =
                record {
                  state = near (rw (f, st)) (near_other t.side (other_pair o p r k g q.other q.names q.unmarked));
                  answer = λ _ _ _. rw (f, r);
                  front = λ _. rw f;
                }
            other (leave u a b) =
                let first : (s : Side) → All Unmarked (own s (carried d t).desk.book) = clear o (rw q.other q.unmarked) a in
                record {
                  state = gone first (clear p q.unmarked b);
                  answer = λ _ h _. absurd (not_both (rests (carried d t).desk) h (clear_rests (carried d t).desk first));
                  front = λ _. u;
                }

    step_order : (z : Size) (d e : Desk Bool) → Whole e.book → d.stats ≡ e.stats → Near d.book e.book
        → refuses (perform z d (order t)).answer ≡ refuses (perform z e (order t)).answer → Step d (perform z d (order t)) (perform z e (order t))
    step_order z d e w st n h = go (decided z d e t h)
      where
        go : Decided z d e t → Step d (perform z d (order t)) (perform z e (order t))
        go (both_carried p q) = rw (p, q) (step_carried d e w st n)
        go (both_refused i j p q) = rw (p, q) (record { state = near st n; answer = λ _ _ f. absurd (not_both true refl f); front = λ _. refl })

  -- ---- a cancel

  data Kept (x y u v : List (Order Bool)) : Type 0 where
    still : Pair x y u v → Kept x y u v
    off : All Unmarked x → All Unmarked y → All Unmarked u → All Unmarked v → Kept x y u v

  kept_state : (s : Side) {f g : Stats} {x y u v : List (Order Bool)} → f ≡ g → Kept x y u v
      → State (record { book = book s x y; stats = f }) (record { book = book s u v; stats = g })
  kept_state s e (still p) = near e (near_own s p)
  kept_state s e (off a b c d) =
      gone (book_all Unmarked (λ m j h. h) (λ j m h. h) s a b) (book_all Unmarked (λ m j h. h) (λ j m h. h) s c d)

  only_pair : (f : Order Bool → Bool) {x y u v : List (Order Bool)} → Pair x y u v → Kept (keep f x) (keep f y) (keep f u) (keep f v)
  only_pair f {x} {y} {u} {v} q = go (front_keep N f q.front)
    where
      mine : keep f x ≡ keep (known N) (keep f u)
      mine = rw q.mine (keep_keep f (known N) u)

      go : Front N (keep f u) ⊎ All Unmarked (keep f u) → Kept (keep f x) (keep f y) (keep f u) (keep f v)
      go (inl g) =
          still (
          record { mine = mine; other = ap (keep f) q.other; front = g; names = all_keep f q.names; unmarked = all_keep f q.unmarked })
      go (inr a) = off (rw mine (all_keep (known N) a)) (rw q.other (all_keep f q.unmarked)) a (all_keep f q.unmarked)

  only_near : (f : Order Bool → Bool) (d e : Desk Bool) → d.stats ≡ e.stats → Near d.book e.book
      → State (record { book = only f d.book; stats = d.stats }) (record { book = only f e.book; stats = e.stats })
  unfolding only
  only_near f d e st (on_bid p) = kept_state bid st (only_pair f p)
  only_near f d e st (on_ask p) = kept_state ask st (only_pair f p)

  -- ---- every shared call

  brings : (c : Call (Unit {0})) → Brings Unmarked (λ m j h. h) (λ j m h. h) (plain c)
  brings (order t) = λ p r. refl
  brings (cancel i) = tt
  brings (tracking b) = tt

  step : (z : Size) (d e : Desk Bool) (c : Call (Unit {0})) → Names N c → Whole e.book → refuses (perform z d (plain c)).answer ≡ refuses (perform z e (plain c)).answer
      → State d e → Step d (perform z d (plain c)) (perform z e (plain c))
  unfolding perform
  step z d e c n w h (gone a b) =
      let none : rests d ≡ true → ⊥ = λ k. not_both (rests d) k (clear_rests d a) in
      record {
        state = gone (after_all Unmarked (λ m j g. g) (λ j m g. g) z d (plain c) (brings c) a) (after_all Unmarked (λ m j g. g) (λ j m g. g) z e (plain c) (brings c) b);
        answer = λ k _ _. absurd (none k);
        front = λ k. absurd (none k);
      }
  step z d e (order t) n w h (near st r) = step_order (marked false t) refl n z d e w st r h
  step z d e (cancel i) n w h (near st r) = record { state = only_near (stays i) d e st r; answer = λ _ _ _. refl; front = λ _. refl }
  step z d e (tracking b) n w h (near st r) = record { state = near (rw st) r; answer = λ _ _ _. refl; front = λ _. refl }

  -- ---- an extra order

  standing_limit : (k : Kind) (p q : ℕ) → k ≡ limit p → (standing k q ≡ none) ⊎ (standing k q ≡ some p)
  standing_limit k p q e = rw e (go q)
    where
      go : (n : ℕ) → (standing (limit p) n ≡ none) ⊎ (standing (limit p) n ≡ some p)
      go zero = inl refl
      go (suc n) = inr refl

  extra_pair : (t : Taker Bool) (p r : ℕ) (o : Option ℕ) (m : Order Bool) {x y u v : List (Order Bool)} → t.tag ≡ false → N t.id ≡ false → Sorted t.side u
      → Memᴰ m u → m.tag ≡ true → as_good t.side m.price p ≡ true → (o ≡ none) ⊎ (o ≡ some p) → Pair x y u v → Pair x y (joining t o r u) (hiding t o v)
  extra_pair t p r o m c n a i k g (inl e) q = rw e q
  extra_pair t p r o m {x} {y} {u} {v} c n a i k g (inr e) q =
      rw e (
      record {
        mine = q.mine ∙ sym (known_extra N t.side _ (map (hide t.id) u) n ∙ (known_hide N t.id u ∙ hide_known N t.id n (keep_passes (known N) u)));
        other = q.other ∙ sym (hide_known N t.id n q.names);
        front = front_extra N {x = hide t.id m} t.side _ c k g (hide_sorted t.id a) (Memᴰ.map (hide t.id) i) (front_hide N t.id q.front);
        names = all_map_list (hide t.id) (λ j h. h) q.names;
        unmarked = all_map_list (hide t.id) (λ j h. h) q.unmarked;
      })

  extra_carried : (d e : Desk Bool) (t : Taker Bool) (p : ℕ) (m : Order Bool) → Whole e.book → t.tag ≡ false → t.kind ≡ limit p → N t.id ≡ false
      → Memᴰ m (own t.side e.book) → m.tag ≡ true → as_good t.side m.price p ≡ true → State d e → State d (carried e t).desk
  unfolding carried
  extra_carried d e t p m w c k n i x g (gone a b) = absurd (not_both m.tag x (all_mem Unmarked (b t.side) i))
  extra_carried d e t p m w c k n i x g (near st r) = go (by_side t.side d.book e.book r)
    where
      beyond : All (λ q. within t.side t.kind q.price ≡ false) (own (opposite t.side) e.book)
      beyond =
          all_map (λ q h. rw k (limit_worse t.side m.price p q.price g h))
          (all_mem (λ y. All (λ q. within t.side (limit y.price) q.price ≡ false) (own (opposite t.side) e.book)) (w.apart t.side) i)

      go : Pair (own t.side d.book) (own (opposite t.side) d.book) (own t.side e.book) (own (opposite t.side) e.book)
          ⊎ Pair (own (opposite t.side) d.book) (own t.side d.book) (own (opposite t.side) e.book) (own t.side e.book)
          → State d (carried e t).desk
      go (inr q) = absurd (not_both m.tag x (all_mem Unmarked q.unmarked i))
      go (inl q) =
          rw (outcome_idle t (makers t e) (w.positive (opposite t.side)) beyond)
          (near (st ∙ sym (stats_same e.stats))
          (near_second t.side d.book
          (extra_pair t p t.quantity (standing t.kind t.quantity) m c n (w.sorted t.side) i x g (standing_limit t.kind p t.quantity k) q)))

  extra_step : (z : Size) (d e : Desk Bool) (t : Taker Bool) (p : ℕ) (m : Order Bool) → Whole e.book → t.tag ≡ false → t.kind ≡ limit p → N t.id ≡ false
      → Memᴰ m (own t.side e.book) → m.tag ≡ true → as_good t.side m.price p ≡ true → State d e → State d (after z e (order t))
  unfolding perform
  extra_step z d e t p m w c k n i x g s = go (refusal z e t)
    where
      go : (o : Option ℕ) → State d (verdict o e (carried e t)).desk
      go none = extra_carried d e t p m w c k n i x g s
      go (some j) = s

  -- ---- X comes

  enter_step : (z : Size) (d : Desk Bool) (t : Taker Bool) → t.tag ≡ true → N t.id ≡ true → ((s : Side) → All Unmarked (own s d.book)) → ((s : Side) → All (Known N) (own s d.book))
      → State (after z d (order t)) (after z d (order t))
  unfolding perform carried
  enter_step z d t c n a b = go (refusal z d t)
    where
      o : Outcome Bool
      o = outcome t (makers t d)

      kept : (r : Option ℕ) (q : ℕ)
          → Kept (joining t r q (own t.side d.book)) (hiding t r o.left) (joining t r q (own t.side d.book)) (hiding t r o.left)
      kept none q = let f = outcome_all t (λ m j h. h) (a (opposite t.side)) in off (a t.side) f (a t.side) f
      kept (some p) q =
          still (
          record {
            mine = sym (keep_all (known N) _ (place_all t.side _ n (all_map_list (hide t.id) (λ m h. h) (b t.side))));
            other = refl;
            front = front_enter N t.side _ c n (all_map_list (hide t.id) (λ m h. h) (a t.side)) (all_map_list (hide t.id) (λ m h. h) (b t.side));
            names = all_map_list (hide t.id) (λ m h. h) (outcome_all t (λ m j h. h) (b (opposite t.side)));
            unmarked = all_map_list (hide t.id) (λ m h. h) (outcome_all t (λ m j h. h) (a (opposite t.side)));
          })

      go : (r : Option ℕ) → State (verdict r d (carried d t)).desk (verdict r d (carried d t)).desk
      go none = kept_state t.side refl (kept (standing t.kind o.rest) o.rest)
      go (some j) = gone a a

  -- ---- the two histories

  module _ (z : Size) where
    brings_known : (c : Call (Unit {0})) → Names N c → Brings (Known N) (λ m j h. h) (λ j m h. h) (plain c)
    brings_known (order t) n = λ p r. n
    brings_known (cancel i) n = tt
    brings_known (tracking b) n = tt

    record Before (h k : List (Call Bool)) : Type 0 where
      same : h ≡ k
      unmarked : (s : Side) → All Unmarked (own s (end z h).book)
      names : (s : Side) → All (Known N) (own s (end z h).book)

    abbrev Inv : Bool → List (Call Bool) → List (Call Bool) → Type 0
    Inv false h k = Before h k
    Inv true h k = State (end z h) (end z k)

    inv : {b : Bool} {h k : List (Call Bool)} → Histories z N b h k → Inv b h k
    unfolding end
    inv start =
        record {
          same = refl;
          unmarked = λ s. elim s as (λ k. All Unmarked (own k (end {A = Bool} z []).book)) [ bid ↦ empty | ask ↦ empty ];
          names = λ s. elim s as (λ k. All (Known N) (own k (end {A = Bool} z []).book)) [ bid ↦ empty | ask ↦ empty ];
        }
    inv (shared {b = b} {h = h} {k = k} i c n l) = go b (inv i)
      where
        go : (b : Bool) → Inv b h k → Inv b (plain c ∷ h) (plain c ∷ k)
        go false v =
            record {
              same = ap {B = List (Call Bool)} (λ (j : List (Call Bool)). plain c ∷ j) v.same;
              unmarked = after_all Unmarked (λ m j g. g) (λ j m g. g) z (end z h) (plain c) (brings c) v.unmarked;
              names = after_all (Known N) (λ m j g. g) (λ j m g. g) z (end z h) (plain c) (brings_known c n) v.names;
            }
        go true v = (step z (end z h) (end z k) c n (whole_end z k) l v).state
    inv (enters_x {h = h} {k = k} i t n l) = go (inv i)
      where
        go : Before h k → State (after z (end z h) (order (marked true t))) (after z (end z k) (order (marked true t)))
        go v = rw (← v.same) (enter_step z (end z h) (marked true t) refl n v.unmarked v.names)
    inv (extra {h = h} {k = k} i t p x e n m y g) = extra_step z (end z h) (end z k) (marked false t) p x (whole_end z k) refl e n m y g (inv i)

    together : {b : Bool} {h k : List (Call Bool)} → Histories z N b h k → rests (end z h) ≡ rests (end z k)
    together {b} {h} {k} i = go b (inv i)
      where
        go : (b : Bool) → Inv b h k → rests (end z h) ≡ rests (end z k)
        go false v = ap (λ (j : List (Call Bool)). rests (end z j)) v.same
        go true v = state_rests (end z h) (end z k) v

    pub demand3 : Demand3 z N
    unfolding end
    demand3 =
        record {
          before = λ i. (inv i).same;
          together = λ i. together i;
          unmoved = λ {h} {k} i r. state_unmoved (end z h) (end z k) (inv i) r;
          untouched = λ {h} {k} i r c n l.
              let s = step z (end z h) (end z k) c n (whole_end z k) l (inv i) in
              record { answer = λ y f. s.answer r y f; leaves = state_rests _ _ s.state; fills = s.front r };
        }
