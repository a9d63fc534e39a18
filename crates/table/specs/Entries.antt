-- How many places of the search are taken, and how many of some records it finds. se are the places of the search, rs the records. Assumes nothing.
use Rattle.std.specs.Prelude.{suc, zero, ℕ, ◌+◌, not, List, [], ◌∷◌, eqb, length}
use Rattle.rules.specs.Whole.{one}
use Rattle.records.specs.Rows.{field}
use Rattle.search.specs.Seek.{at, entry_for}

-- of the first k places those that are taken; and of all
abbrev pub taken_to : List ℕ → ℕ → ℕ
taken_to se zero = 0
taken_to se (suc k) = one (not (eqb (at se k) 0)) + taken_to se k

abbrev pub taken_in : List ℕ → ℕ
taken_in se = taken_to se (length se)

-- of the records at these codes those that the search finds, each under its own id
abbrev pub found_among : List ℕ → List ℕ → List ℕ → ℕ
found_among se rs [] = 0
found_among se rs (c ∷ l) = one (eqb (entry_for se rs (field rs 0 c)) c) + found_among se rs l
