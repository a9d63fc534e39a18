-- Numbers laid over others in a lent list. Assumes nothing.
use Rattle.std.specs.Prelude.{ℕ, ◌+◌, ◌≤◌, ◌≡◌, List, ◌++◌, length, take, drop}

-- l with the ys laid over it from place a on
abbrev pub over : List ℕ → ℕ → List ℕ → List ℕ
over l a ys = take a l ++ ys ++ drop (a + length ys) l

-- the ys were put into l at a: l' is what stands now, and r the place behind them
pub record Put (l : List ℕ) (a : ℕ) (ys l' : List ℕ) (r : ℕ) : Type 0 where
  pub fits : a + length ys ≤ length l
  pub next : r ≡ a + length ys
  pub long : length l' ≡ length l
  pub laid : l' ≡ over l a ys
