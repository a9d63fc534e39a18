-- The makers as they are stored, and what a walk over them asks of storage. Assumes nothing.
use Rattle.std.specs.Prelude.{ℕ, ◌+◌, ◌≤◌, min, List, eqb}
use Rattle.rules.specs.Whole.{one}
use Rattle.records.specs.Rows.{RecordAt, field}
use Rattle.arena.specs.Times.{times}
use Rattle.side.specs.Levels.{Ladder, Lvl, ups}
use Rattle.side.specs.Read.{levels_in}

-- the rows lv store the levels ws, and each code of them is a record's and stands there once
pub record Laid (rs lv : List ℕ) (n : ℕ) (ws : List Lvl) : Type 0 where
  pub ladder : Ladder rs lv n ws
  pub once : (x : ℕ) → one (eqb x 0) + times x (ups ws) ≤ 1
  pub rows : (x : ℕ) → 1 ≤ times x (ups ws) → RecordAt rs x

-- a side that can be matched: it is laid out so, and each order has something
pub record CanMatch (rs lv : List ℕ) (n : ℕ) : Type 0 where
  pub laid : Laid rs lv n (levels_in rs lv n)
  pub held : (x : ℕ) → 1 ≤ times x (ups (levels_in rs lv n)) → 1 ≤ field rs 1 x

-- what the maker at code c gives to an order that still wants w, if it meets the price
abbrev pub gift : List ℕ → ℕ → ℕ → ℕ
gift rs w c = min (field rs 1 c) w
