-- Neither the places lent for fills nor what the search finds makes a difference to the fills. Assumes nothing.
use Prim.Native.Nat.{suc, zero, ℕ, ◌-◌}
use mathlib.Core.Bool.{Bool}
use mathlib.Core.List.{List, [], ◌∷◌}
use mathlib.Core.Path.{ap, refl, ◌∙◌, ◌≡◌}
use Rattle.rules.specs.Rules.{Fill, filling, given, matching, outcome}
use Rattle.side.specs.Orders.{order_at, orders}
use Rattle.survey.specs.declared.Taker.{Taker}
use Rattle.survey.specs.Taker.{taker_of}

module _ (u : Taker) (rs : List ℕ) (room room' : ℕ) (fnd fnd' : ℕ → Bool) where
  matching_alike : (w : ℕ) (cs : List ℕ) → (matching (taker_of room u) w (orders rs fnd cs)).fills ≡ (matching (taker_of room' u) w (orders rs fnd' cs)).fills
  unfolding matching
  matching_alike w [] = refl
  matching_alike w (c ∷ cs) =
      let g = given (taker_of room u) w (order_at rs fnd c) in
      ap (filling (taker_of room u) (order_at rs fnd c) g) (matching_alike (w - g) cs) ∙ go g (matching (taker_of room' u) (w - g) (orders rs fnd' cs)).fills
    where
      go : (g : ℕ) (l : List (Fill (Unit {0}))) → filling (taker_of room u) (order_at rs fnd c) g l ≡ filling (taker_of room' u) (order_at rs fnd' c) g l
      go zero l = refl
      go (suc g) l = refl

  pub fills_alike : (cs : List ℕ) → (outcome (taker_of room u) (orders rs fnd cs)).fills ≡ (outcome (taker_of room' u) (orders rs fnd' cs)).fills
  unfolding outcome
  fills_alike cs = matching_alike u.qty.0 cs
