-- A whole book of the rules, as every history leaves it: best price first on each side, every quantity at least 1, no bid at or above an ask,
-- at most one found order an id, and no more orders and prices than its size allows.
-- Assumes nothing.
use Rattle.std.specs.Prelude.{ℕ, ◌+◌, ◌≤◌, ◌≡◌, Bool, true, false, ◌&&◌, List, [], ◌∷◌, eqb, length}
use Rattle.rules.specs.Rules.{Side, opposite, as_good, limit, within, Order, Book, own, levels, Size}

infixr 60 ◌&◌
pub data All {X : Type 0} (P : X → Type 0) : List X → Type 0 where
  empty : All P []
  ◌&◌ : {x : X} {l : List X} → P x → All P l → All P (x ∷ l)

module _ {A : Type 0} where
  -- each order's price is as good as those behind it
  pub data Sorted (s : Side) : List (Order A) → Type 0 where
    sorted[] : Sorted s []
    sorted∷ : {m : Order A} {l : List (Order A)} → All (λ n. as_good s m.price n.price ≡ true) l → Sorted s l → Sorted s (m ∷ l)

  abbrev pub Positive : List (Order A) → Type 0
  Positive l = All (λ m. 1 ≤ m.quantity) l

  -- no order of l, on side s, reaches a price of k, on the other side
  abbrev pub Apart : Side → List (Order A) → List (Order A) → Type 0
  Apart s l k = All (λ m. All (λ n. within s (limit m.price) n.price ≡ false) k) l

  pub record Whole (b : Book A) : Type 0 where
    pub sorted : (s : Side) → Sorted s (own s b)
    pub positive : (s : Side) → Positive (own s b)
    pub apart : (s : Side) → Apart s (own s b) (own (opposite s) b)

abbrev pub one : Bool → ℕ
one true = 1
one false = 0

module _ {A : Type 0} where
  -- how many of these orders the search finds under the id i
  unfoldable pub seen : ℕ → List (Order A) → ℕ
  seen i [] = 0
  seen i (m ∷ l) = one (m.found && eqb m.id i) + seen i l

  abbrev pub Once : Book A → Type 0
  Once b = (i : ℕ) → seen i b.bids + seen i b.asks ≤ 1

  pub record Fits (z : Size) (b : Book A) : Type 0 where
    pub orders : length b.bids + length b.asks ≤ z.orders
    pub prices : (s : Side) → length (levels (own s b)) ≤ z.prices

  pub record WholeBook (z : Size) (b : Book A) : Type 0 where
    pub orderly : Whole b
    pub once : Once b
    pub fits : Fits z b
