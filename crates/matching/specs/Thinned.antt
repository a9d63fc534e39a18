-- The makers once an order has taken its share of each, and before the used-up ones leave. Assumes nothing.
use Rattle.std.specs.Prelude.{ℕ, ◌-◌, List, [], ◌∷◌}
use Rattle.rules.specs.Rules.{Order, Taker, given, with_left}

module _ {A : Type 0} where
  -- t, still wanting w, meets the makers in their turn: each has what it had less what it gave
  unfoldable pub thinning : Taker A → ℕ → List (Order A) → List (Order A)
  thinning t w [] = []
  thinning t w (m ∷ l) = with_left m (m.quantity - given t w m) ∷ thinning t (w - given t w m) l

  abbrev pub thinned : Taker A → List (Order A) → List (Order A)
  thinned t l = thinning t t.quantity l
