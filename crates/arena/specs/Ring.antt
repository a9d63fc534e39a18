-- A queue as a ring of nodes, tied both ways, over two functions: F what follows a node, B what comes before it.
-- A queue is a run from 0 to 0: node 0 stands for its level's row, which has the head and the tail. Assumes nothing.
use Rattle.std.specs.Prelude.{ℕ, cond, List, [], ◌∷◌, ◌≡◌, eqb}

-- the nodes l lie between p and q, each tied to its neighbours both ways
abbrev pub Run : (ℕ → ℕ) → (ℕ → ℕ) → ℕ → List ℕ → ℕ → Type 0
Run F B p [] q = (F p ≡ q) × (B q ≡ p)
Run F B p (d ∷ l) q = (F p ≡ d) × (B d ≡ p) × Run F B d l q

-- l without d (its first, where there are more)
abbrev pub cut : ℕ → List ℕ → List ℕ
cut d [] = []
cut d (x ∷ l) = cond (eqb d x) l (x ∷ cut d l)
