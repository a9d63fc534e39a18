-- Where there is room for any order, the writer puts the order there. Assumes nothing.
use Rattle.std.proofs.Common.{◌≡◌, ℕ, ◌+◌, ◌≤◌, Bool, true, cond, leb, List, length, ap, ◌∙◌, arith, le-leb}
use Rattle.models.specs.declared.OrderType.{OrderType}
use Rattle.overlay.specs.Over.{Put, over}
use Rattle.overlay.proofs.Over.{over_length}
use Rattle.std.specs.Prelude.{Ok, Err}
use Rattle.models.specs.declared.Refusal.TheVariants.{ShortRoom}
use Rattle.tape.specs.Orders.{tag_for, field_of, written_at, written_to}
use Rattle.tape.proofs.Tags.{field_length, value_most}

module _ (l : List ℕ) (at : ℕ) (o : OrderType) (h : at + 28 ≤ length l) where
  fits : at + length (field_of o) ≤ length l
  fits = omega (arith, field_length o, value_most (tag_for o))

  yes : leb (at + length (field_of o)) (length l) ≡ true
  yes = le-leb _ _ fits

  pub is_next : written_at l at o ≡ Ok (at + length (field_of o))
  is_next = ap (λ (b : Bool). cond b (Ok (at + length (field_of o))) (Err ShortRoom)) yes

  pub was_put : (l' : List ℕ) (r : ℕ) → r ≡ at + length (field_of o) → l' ≡ written_to l at o → Put l at (field_of o) l' r
  was_put l' r e f =
      let g : l' ≡ over l at (field_of o) = f ∙ rw yes in
      record { fits = fits; next = e; long = ap length g ∙ over_length l at (field_of o) fits; laid = g }
