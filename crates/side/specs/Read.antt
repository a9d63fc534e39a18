-- The levels of a side, read off storage: with `chain`, which reads a queue, they are functions of the stored numbers. Assumes nothing.
use Rattle.std.specs.Prelude.{suc, zero, ℕ, List, [], ◌∷◌}
use Rattle.records.specs.Rows.{record_count}
use Rattle.arena.specs.Free.{chain}
use Rattle.arena.specs.Links.{head_of, price_of}
use Rattle.side.specs.Levels.{Lvl}

-- n levels from row i on; m is the most that a queue can have
abbrev pub levels_from : ℕ → List ℕ → List ℕ → ℕ → ℕ → List Lvl
levels_from m rs lv i zero = []
levels_from m rs lv i (suc n) = record { price = price_of lv i; queue = chain m rs (head_of lv i) } ∷ levels_from m rs lv (suc i) n

abbrev pub levels_of : ℕ → List ℕ → List ℕ → ℕ → List Lvl
levels_of m rs lv n = levels_from m rs lv 0 n

-- the levels of the side stored in lv, n of them, and the free places from f on
abbrev pub levels_in : List ℕ → List ℕ → ℕ → List Lvl
levels_in rs lv n = levels_of (record_count rs) rs lv n

abbrev pub free_in : List ℕ → ℕ → List ℕ
free_in rs f = chain (record_count rs) rs f
