-- The free places: records with quantity 0, in a chain by column 3 (next) from the first free one on. Assumes nothing.
use Rattle.std.specs.Prelude.{suc, zero, ℕ, ◌≤◌, List, [], ◌∷◌, ◌≡◌}
use Rattle.records.specs.Rows.{field, put}
use Rattle.arena.specs.Times.{times}

-- the free places from f on
abbrev pub Chain : List ℕ → ℕ → List ℕ → Type 0
Chain rs f [] = f ≡ 0
Chain rs f (d ∷ l) = (f ≡ d) × Chain rs (field rs 3 d) l

-- the codes from c on, at most m
abbrev pub chain : ℕ → List ℕ → ℕ → List ℕ
chain zero rs zero = []
chain zero rs (suc i) = []
chain (suc m) rs zero = []
chain (suc m) rs (suc i) = suc i ∷ chain m rs (field rs 3 (suc i))

-- the record c given back: quantity 0, and the free places from f on behind it
abbrev pub returned : List ℕ → ℕ → ℕ → List ℕ
returned rs c f = put (put rs 1 c 0) 3 c f

-- the record c written: id, quantity, price
abbrev pub record_written : List ℕ → ℕ → ℕ → ℕ → ℕ → List ℕ
record_written rs c id q p = put (put (put rs 0 c id) 1 c q) 2 c p

-- the codes from i down to 1
abbrev pub down : ℕ → List ℕ
down zero = []
down (suc i) = suc i ∷ down i

-- the first i records are free, the last of them first
pub record Freed (rs : List ℕ) (i : ℕ) : Type 0 where
  pub free : Chain rs i (down i)
  pub none : (x : ℕ) → 1 ≤ times x (down i) → field rs 1 x ≡ 0
