-- One side of the book: its level rows (price, head, tail), and the queue of each as a list of codes.
-- The list ws of levels has the lowest price first, on either side of the book. Assumes nothing.
use Rattle.std.specs.Prelude.{ℕ, ◌*◌, ◌<◌, ◌≤◌, List, [], ◌++◌, ◌∷◌, ◌≡◌, get_or, length}
use Rattle.records.specs.Rows.{field}
use Rattle.arena.specs.Links.{head_of, link, price_of, tail_of}
use Rattle.arena.specs.Ring.{Run}
use Rattle.arena.specs.Times.{times}

-- a price and the codes of the orders that rest there, in their turn
pub record Lvl : Type 0 where
  pub price : ℕ
  pub queue : List ℕ

abbrev pub empty : ℕ → Lvl
empty p = record { price = p; queue = [] }

-- level i of a side
abbrev pub nth : List Lvl → ℕ → Lvl
nth ws i = get_or ws i (empty 0)

-- the codes of a side, lowest price first; and highest first
abbrev pub ups : List Lvl → List ℕ
ups [] = []
ups (w ∷ ws) = w.queue ++ ups ws

abbrev pub downs : List Lvl → List ℕ
downs [] = []
downs (w ∷ ws) = downs ws ++ w.queue

-- the row of three numbers p, h, t stores the level w: its price, its queue as a ring, and each order under its own price
pub record LevelStored (rs : List ℕ) (p h t : ℕ) (w : Lvl) : Type 0 where
  pub price : p ≡ w.price
  pub ring : Run (link rs 3 h) (link rs 4 t) 0 w.queue 0
  pub priced : (x : ℕ) → 1 ≤ times x w.queue → field rs 2 x ≡ w.price

-- the first n rows store the levels ws, prices strictly ascending
pub record Ladder (rs lv : List ℕ) (n : ℕ) (ws : List Lvl) : Type 0 where
  pub count : length ws ≡ n
  pub room : n * 3 ≤ length lv
  pub level : (i : ℕ) → i < n → LevelStored rs (price_of lv i) (head_of lv i) (tail_of lv i) (nth ws i)
  pub rising : (i j : ℕ) → i < j → j < n → (nth ws i).price < (nth ws j).price
