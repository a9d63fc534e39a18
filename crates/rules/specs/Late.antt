-- Demand 3. The order X carries the mark `true`, every other order `false`; no rule looks at the mark.
-- Two histories are built side by side, the latest call first: shared calls go to both, extra limit orders to the second alone.
-- Assumes nothing.
use Rattle.std.specs.Prelude.{ℕ, ◌≡◌, Bool, true, false, ◌||◌, cond, length, take}
use mathlib.Core.List.{List, [], ◌∷◌, map, Memᴰ}
use Rattle.rules.specs.Rules.{Side, as_good, limit, Order, Taker, Fill, Desk, Call, order, cancel, tracking, Answer, done, switched, Size, own, perform, end}
use Rattle.rules.specs.Retag.{re_call}

-- a call whose order, if it is one, carries the mark b
abbrev pub marked : Bool → Taker (Unit {0}) → Taker Bool
marked b t = record { side = t.side; kind = t.kind; id = t.id; quantity = t.quantity; room = t.room; tag = b }

abbrev pub plain : Call (Unit {0}) → Call Bool
plain (order t) = order (marked false t)
plain (cancel i) = cancel i
plain (tracking b) = tracking b

-- the ids that a call names are in N
abbrev pub Names : (ℕ → Bool) → Call (Unit {0}) → Type 0
Names N (order t) = N t.id ≡ true
Names N (cancel i) = N i ≡ true
Names N (tracking b) = Unit {0}

abbrev pub refuses : {A : Type 0} → Answer A → Bool
refuses (Answer.refused n) = true
refuses (done e l) = false
refuses switched = false

abbrev pub fills_of : {A : Type 0} → Answer A → List (Fill A)
fills_of (Answer.refused n) = []
fills_of (done e l) = l
fills_of switched = []

-- X is among these orders
unfoldable pub among : List (Order Bool) → Bool
among [] = false
among (m ∷ l) = m.tag || among l

-- X rests
abbrev pub rests : Desk Bool → Bool
rests d = among d.book.bids || among d.book.asks

-- those up to and including the first that passes a test; all, if none does
unfoldable pub up_to : {X : Type 0} → (X → Bool) → List X → List X
up_to g [] = []
up_to g (x ∷ l) = cond (g x) (x ∷ []) (x ∷ up_to g l)

-- the fills up to and including X's, and the orders up to and including X
abbrev pub up_to_x : List (Fill Bool) → List (Fill Bool)
up_to_x l = up_to (λ f. f.tag) l

abbrev pub turn_of_x : List (Order Bool) → List (Order Bool)
turn_of_x l = up_to (λ m. m.tag) l

-- what the desk answers to the call c after the history h
abbrev pub answer_to : Size → List (Call Bool) → Call Bool → Answer Bool
answer_to z h c = (perform z (end z h) c).answer

-- the call is refused after both histories or after neither
abbrev pub Alike : Size → List (Call Bool) → List (Call Bool) → Call Bool → Type 0
Alike z h k c = refuses (answer_to z h c) ≡ refuses (answer_to z k c)

-- What is shared while X rests: the statistics, all orders up to X on its side, X itself with what is left of it, and all of the other side.
pub record Unmoved (d e : Desk Bool) : Type 0 where
  pub statistics : d.stats ≡ e.stats
  pub turn : (s : Side) → turn_of_x (own s d.book) ≡ turn_of_x (own s e.book)

module _ (z : Size) (N : ℕ → Bool) where
  -- Two histories, alike but for extra orders in the second; `true` once X has been entered.
  -- Shared calls name ids in N alone, extra orders ids outside N.
  pub data Histories : Bool → List (Call Bool) → List (Call Bool) → Type 0 where
    start : Histories false [] []
    shared : {b : Bool} {h k : List (Call Bool)} → Histories b h k → (c : Call (Unit {0})) → Names N c → Alike z h k (plain c) → Histories b (plain c ∷ h) (plain c ∷ k)
    enters_x : {h k : List (Call Bool)} → Histories false h k → (t : Taker (Unit {0})) → N t.id ≡ true → Alike z h k (order (marked true t)) → Histories true (order (marked true t) ∷ h) (order (marked true t) ∷ k)
    extra : {h k : List (Call Bool)} → Histories true h k → (t : Taker (Unit {0})) (p : ℕ) (x : Order Bool) → t.kind ≡ limit p → N t.id ≡ false → Memᴰ x (own t.side (end z k).book) → x.tag ≡ true → as_good t.side x.price p ≡ true → Histories true h (order (marked false t) ∷ k)

  -- What the shared call c, made while X rests, finds in both: the same answer if X stays and c is accepted; in any case X stays or leaves
  -- alike, and the fills up to X's are the same.
  pub record Untouched (h k : List (Call Bool)) (c : Call Bool) : Type 0 where
    pub answer : rests (end z (c ∷ h)) ≡ true → refuses (answer_to z h c) ≡ false → answer_to z h c ≡ answer_to z k c
    pub leaves : rests (end z (c ∷ h)) ≡ rests (end z (c ∷ k))
    pub fills : up_to_x (fills_of (answer_to z h c)) ≡ up_to_x (fills_of (answer_to z k c))

  -- Demand 3: before X comes the histories are the same; at all times X rests in both or in neither; and while it rests nothing shared has moved and
  -- no shared call is touched.
  pub record Demand3 : Type 0 where
    pub before : {h k : List (Call Bool)} → Histories false h k → h ≡ k
    pub together : {b : Bool} {h k : List (Call Bool)} → Histories b h k → rests (end z h) ≡ rests (end z k)
    pub unmoved : {h k : List (Call Bool)} → Histories true h k → rests (end z h) ≡ true → Unmoved (end z h) (end z k)
    pub untouched : {h k : List (Call Bool)} → Histories true h k → rests (end z h) ≡ true → (c : Call (Unit {0})) → Names N c → Alike z h k (plain c) → Untouched h k (plain c)

-- ---- the same on the desk without marks

-- The marks are forgotten: X is known only by how many stand up to it.
abbrev pub unmark : List (Call Bool) → List (Call (Unit {0}))
unmark h = map (re_call (λ (b : Bool). tt)) h

-- how many orders of side s stand up to X, and how many fills of an answer go up to X's
abbrev pub turn : Side → Desk Bool → ℕ
turn s d = length (turn_of_x (own s d.book))

abbrev pub share : Answer Bool → ℕ
share a = length (up_to_x (fills_of a))

-- what the desk answers to the call c after the history h, marks forgotten
abbrev pub plainly : Size → List (Call Bool) → Call (Unit {0}) → Answer (Unit {0})
plainly z h c = (perform z (end z (unmark h)) c).answer

-- What the shared call c, made while X rests, finds in both on the desk without marks: the same answer if X stays and c is accepted; X stays or
-- leaves alike, and if it stays the same orders stand up to it and the statistics are the same; the fills up to X's are as many and the same.
pub record Alone (z : Size) (h k : List (Call Bool)) (c : Call (Unit {0})) : Type 0 where
  pub answer : rests (end z (plain c ∷ h)) ≡ true → refuses (plainly z h c) ≡ false → plainly z h c ≡ plainly z k c
  pub leaves : rests (end z (plain c ∷ h)) ≡ rests (end z (plain c ∷ k))
  pub turns : rests (end z (plain c ∷ h)) ≡ true → (s : Side)
      → (turn s (end z (plain c ∷ h)) ≡ turn s (end z (plain c ∷ k)))
      × (take (turn s (end z (plain c ∷ h))) (own s (end z (c ∷ unmark h)).book) ≡ take (turn s (end z (plain c ∷ h))) (own s (end z (c ∷ unmark k)).book))
  pub statistics : rests (end z (plain c ∷ h)) ≡ true → (end z (c ∷ unmark h)).stats ≡ (end z (c ∷ unmark k)).stats
  pub shares : share (answer_to z h (plain c)) ≡ share (answer_to z k (plain c))
  pub fills : take (share (answer_to z h (plain c))) (fills_of (plainly z h c)) ≡ take (share (answer_to z h (plain c))) (fills_of (plainly z k c))
