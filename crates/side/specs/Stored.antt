-- The stored book: n records, the level rows of both sides, and the free places; structure alone, nothing of the quantities at rest.
-- lv is the side that a door changes (s rows, levels ws), ov the other (t rows, levels vs); f is the first free place, fr all of them; r orders rest.
-- Assumes nothing.
use Rattle.std.specs.Prelude.{ℕ, ◌*◌, ◌+◌, ◌≤◌, List, ◌≡◌, length}
use Rattle.records.specs.Rows.{field}
use Rattle.arena.specs.Free.{Chain}
use Rattle.arena.specs.Times.{is_code, times}
use Rattle.side.specs.Levels.{Ladder, Lvl, ups}

pub record Stored (n : ℕ) (rs lv ov : List ℕ) (s t f r : ℕ) (ws vs : List Lvl) (fr : List ℕ) : Type 0 where
  pub rows : length rs ≡ n * 5
  pub mine : Ladder rs lv s ws
  pub theirs : Ladder rs ov t vs
  pub free : Chain rs f fr
  -- a free place has no quantity
  pub none : (x : ℕ) → 1 ≤ times x fr → field rs 1 x ≡ 0
  -- each code of the n records is in at most one queue, or free, and there once; nothing else is
  pub once : (x : ℕ) → times x (ups ws) + times x (ups vs) + times x fr ≤ is_code n x
  -- and none is missing
  pub full : length (ups ws) + length (ups vs) + length fr ≡ n
  pub rest : r ≡ length (ups ws) + length (ups vs)
