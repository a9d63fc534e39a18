-- `reader::order_at` meets its contract. Assumes nothing.
use Prim.Native.Nat.{ℕ, ◌+◌}
use mathlib.Core.Path.{◌≡◌, refl, ◌∙◌}
use mathlib.Core.Bool.{false}
use mathlib.Core.List.{List}
use lib.Dec.{ltb}
use lib.ListN.{get_or, drop}
use lib.Seq.{get_or-drop, drop-drop}
use Rattle.models.specs.declared.Side.{Side}
use Rattle.models.specs.declared.Side.TheVariants.{Bid, Ask}
use Rattle.models.specs.Readings.{side_number}
use Rattle.tape.specs.Orders.{order_in, side_in, side_byte}
use Rattle.reader.proofs.order_at.Goals as goal

-- a side's byte says the side, and is none above 1
said : (l : List ℕ) (at : ℕ) (s : Side) → get_or l (at + 8) 0 ≡ side_number s → (side_in (drop at l) ≡ s) × (ltb 1 (side_byte (drop at l)) ≡ false)
said l at Bid e = let b : get_or (drop at l) 8 0 ≡ 0 = get_or-drop at l 8 0 ∙ e in rw b (refl, refl)
said l at Ask e = let b : get_or (drop at l) 8 0 ≡ 1 = get_or-drop at l 8 0 ∙ e in rw b (refl, refl)

pub returns-in_ok-side_at-in-Market-clause-order : goal.returns-in_ok-side_at-in-Market-clause-order
unfolding order_in
returns-in_ok-side_at-in-Market-clause-order c =
    let a = c.args in
    let s = said a.tape.now a.at c.in_ok-side_at-in-Market.field-0 c.in_ok-side_at-in-Market.ensures in
    rw (c.in-Market.is, s.0, s.1, c.number_at.ensures, c.number_at-in-Market.ensures) (simp drop-drop, refl)

pub returns-in_ok-side_at-in-Limit-clause-order : goal.returns-in_ok-side_at-in-Limit-clause-order
unfolding order_in
returns-in_ok-side_at-in-Limit-clause-order c =
    let a = c.args in
    let s = said a.tape.now a.at c.in_ok-side_at-in-Limit.field-0 c.in_ok-side_at-in-Limit.ensures in
    rw (c.in-Limit.is, s.0, s.1, c.number_at.ensures, c.number_at-in-Limit.ensures, c.number_at-in-Limit-2.ensures) (simp drop-drop, refl)
