-- A side's codes as the orders of the rules, best first. Assumes nothing.
use Rattle.std.specs.Prelude.{ℕ, Bool, List, [], ◌∷◌}
use Rattle.rules.specs.Rules.{Order, Side, ask, bid}
use Rattle.records.specs.Rows.{field}
use Rattle.side.specs.Levels.{Lvl, downs, ups}
use Rattle.side.specs.Read.{levels_in}

-- the order at code c, and those at a list of codes; `fnd` says which the search finds
abbrev pub order_at : List ℕ → (ℕ → Bool) → ℕ → Order (Unit {0})
order_at rs fnd c = record { id = field rs 0 c; quantity = field rs 1 c; price = field rs 2 c; found = fnd c; tag = tt }

abbrev pub orders : List ℕ → (ℕ → Bool) → List ℕ → List (Order (Unit {0}))
orders rs fnd [] = []
orders rs fnd (c ∷ l) = order_at rs fnd c ∷ orders rs fnd l

-- the codes of a side, best first
abbrev pub codes : Side → List Lvl → List ℕ
codes bid ws = downs ws
codes ask ws = ups ws

-- the orders of side sd, stored in the n rows lv, best first
abbrev pub orders_in : Side → List ℕ → (ℕ → Bool) → List ℕ → ℕ → List (Order (Unit {0}))
orders_in sd rs fnd lv n = orders rs fnd (codes sd (levels_in rs lv n))
