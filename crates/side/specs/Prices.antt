-- Whose turn it is among a side's rows, and what becomes of them where a price is found, opened or shut: what the functions over them promise. Assumes
-- nothing.
use Rattle.std.specs.Prelude.{ℕ, ◌*◌, ◌+◌, ◌-◌, ◌<◌, ◌≤◌, List, ◌≢◌, ◌≡◌, get_or, length}
use Rattle.rules.specs.Rules.{Side, ask, bid}
use Rattle.arena.specs.Links.{head_of, price_of, tail_of}

-- of the n rows of side sd the one whose turn it is when k are left: asks from the lowest price up, bids from the highest down
abbrev pub row_in_turn : Side → ℕ → ℕ → ℕ
row_in_turn bid n k = k - 1
row_in_turn ask n k = n - k

-- row k is a new one, of price p and no queue; those from k up to n moved up
pub record Opened (lv : List ℕ) (n k p : ℕ) (lw : List ℕ) : Type 0 where
  pub long : length lw ≡ length lv
  pub below : (i : ℕ) → i < k * 3 → get_or lw i 0 ≡ get_or lv i 0
  pub moved : (i : ℕ) → k * 3 ≤ i → i < n * 3 → get_or lw (i + 3) 0 ≡ get_or lv i 0
  pub price : price_of lw k ≡ p
  pub head : head_of lw k ≡ 0
  pub tail : tail_of lw k ≡ 0

-- the numbers from place a up to j are those that stood one row (three places) further up
pub record Closed (lv : List ℕ) (a j : ℕ) (lw : List ℕ) : Type 0 where
  pub long : length lw ≡ length lv
  pub below : (i : ℕ) → i < a → get_or lw i 0 ≡ get_or lv i 0
  pub moved : (i : ℕ) → a ≤ i → i < j → get_or lw i 0 ≡ get_or lv (i + 3) 0
  pub above : (i : ℕ) → j ≤ i → get_or lw i 0 ≡ get_or lv i 0

-- the first n rows have strictly ascending prices
pub record Rising (lv : List ℕ) (n : ℕ) : Type 0 where
  pub room : n * 3 ≤ length lv
  pub rise : (i j : ℕ) → i < j → j < n → price_of lv i < price_of lv j

-- the search for the price p: rows below lo are lower, those from hi on are not
pub record Bracket (lv : List ℕ) (n p lo hi : ℕ) : Type 0 where
  pub ordered : lo ≤ hi
  pub within : hi ≤ n
  pub low : (i : ℕ) → i < lo → price_of lv i < p
  pub high : (i : ℕ) → hi ≤ i → i < n → p ≤ price_of lv i

-- row k is of price p: there already, or new; m rows then
pub data Ready (lv : List ℕ) (n k p m : ℕ) (lw : List ℕ) : Type 0 where
  old : m ≡ n → lw ≡ lv → k < n → price_of lv k ≡ p → Ready lv n k p m lw
  new : m ≡ n + 1 → n * 3 + 3 ≤ length lv → (k < n → price_of lv k ≢ p) → Opened lv n k p lw → Ready lv n k p m lw
