-- An order's slip is that order again: what was read, written by its slip, is the same order, and only short room stops it; and it is read back there
-- with the place behind it. Assumes nothing.
use Prim.Native.Nat.{ℕ, ◌+◌, ◌≤◌}
use mathlib.Core.Path.{◌≡◌, refl, ap, ◌∙◌}
use mathlib.Core.Bool.{Bool, true, false, cond}
use mathlib.Core.List.{List, ◌++◌, append_assoc}
use mathlib.Core.Option.{none, some}
use native.Mathlib.Omega.{arith}
use lib.ListN.{length, take, drop}
use lib.Seq.{length-take-le, drop_at}
use borrow.Author.Tests.{leb-true}
use Rattle.rules.specs.Rules.{first_of}
use Rattle.models.specs.declared.Side.TheVariants.{Bid, Ask}
use Rattle.models.specs.declared.OrderType.{OrderType}
use Rattle.models.specs.declared.OrderType.TheVariants.{Market, Limit, Cancel}
use Rattle.overlay.specs.Over.{over}
use Rattle.tape.specs.Orders.{Item, item, order, found, field_of, fits}
use Rattle.tape.specs.Tape.{Fits}
use Rattle.tape.proofs.Forms.{field_back}
use Rattle.slips.specs.Slips.{slip_for, told, read_by, order_of, no_kind, no_side, refusal, changed, bytes_by}

pub order_back : (o : OrderType) (n : ℕ) → order_of (slip_for o n) ≡ o
order_back (Market id Bid qty) n = refl
order_back (Market id Ask qty) n = refl
order_back (Limit id Bid qty price) n = refl
order_back (Limit id Ask qty price) n = refl
order_back (Cancel id) n = refl

has_kind : (o : OrderType) (n : ℕ) → no_kind (slip_for o n) ≡ false
has_kind (Market id side qty) n = refl
has_kind (Limit id side qty price) n = refl
has_kind (Cancel id) n = refl

has_side : (o : OrderType) (n : ℕ) → no_side (slip_for o n) ≡ false
has_side (Market id Bid qty) n = refl
has_side (Market id Ask qty) n = refl
has_side (Limit id Bid qty price) n = refl
has_side (Limit id Ask qty price) n = refl
has_side (Cancel id) n = refl

pub only_room : (l : List ℕ) (at : ℕ) (o : OrderType) (n : ℕ) → refusal l at (slip_for o n) ≡ cond (fits l at o) none (some 19)
unfolding refusal first_of
only_room l at o n = go (fits l at o) refl
  where
    go : (t : Bool) → fits l at o ≡ t → refusal l at (slip_for o n) ≡ cond t none (some 19)
    go true e = simp (has_kind o n, has_side o n, order_back o n, e)
    go false e = simp (has_kind o n, has_side o n, order_back o n, e)

module _ (l : List ℕ) (at : ℕ) (o : OrderType) (n : ℕ) (room : fits l at o ≡ true) where
  laid : bytes_by l at (slip_for o n) ≡ over l at (field_of o)
  laid = ap (changed l at (slip_for o n)) (only_room l at o n ∙ ap (λ (t : Bool). cond t none (some 19)) room) ∙ rw (order_back o n, room)

  stands : drop at (over l at (field_of o)) ≡ field_of o ++ drop (at + length (field_of o)) l
  stands =
      let m : at ≤ length l = omega (arith, leb-true (at + length (field_of o)) (length l) room) in
      ap (drop at) (append_assoc (take at l) (field_of o) (drop (at + length (field_of o)) l))
      ∙ drop_at (take at l) (field_of o ++ drop (at + length (field_of o)) l) at (length-take-le at l m)

  pub slip_back : Fits o → (s : List ℕ) → read_by (bytes_by l at (slip_for o n)) at s ≡ record { code = 0; slip = slip_for o (at + length (field_of o)) }
  slip_back h s =
      let e : item (drop at (bytes_by l at (slip_for o n))) ≡ order o (length (field_of o)) =
      ap (λ (b : List ℕ). item (drop at b)) laid ∙ ap item stands ∙ field_back o (drop (at + length (field_of o)) l) h in
      ap (λ (i : Item). told at s (found at i)) e
