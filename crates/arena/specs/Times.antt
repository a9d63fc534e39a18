-- How often a number stands in a list: with it every claim "in exactly one list, once" is arithmetic. Assumes nothing.
use Rattle.std.specs.Prelude.{suc, zero, ℕ, ◌+◌, List, [], ◌∷◌, eqb, ltb}
use Rattle.rules.specs.Whole.{one}

-- how often x stands in l
abbrev pub times : ℕ → List ℕ → ℕ
times x [] = 0
times x (y ∷ l) = one (eqb x y) + times x l

-- 1 for a code of the n records
abbrev pub is_code : ℕ → ℕ → ℕ
is_code n zero = 0
is_code n (suc i) = one (ltb i n)
