-- `writer::write_order` meets its contract. Assumes nothing.
use mathlib.Core.Path.{◌≡◌, sym, ap, subst, ◌∙◌}
use mathlib.Core.List.{List}
use Prim.Native.Nat.{ℕ}
use native.Mathlib.Omega.{arith}
use Rattle.std.proofs.Common.{rules}
use Rattle.overlay.specs.Over.{Put}
use Rattle.overlay.proofs.Over.{put_more}
use Rattle.tape.specs.Orders.{length_of, tag_for}
use Rattle.tape.proofs.Tags.{field_length, value_most}
use Rattle.writer.proofs.Writing.{room_short, was_written, field_is}
use Rattle.writer.proofs.write_order.Goals as goal
use Rattle.writer.proofs.write_order.Goals.{then-out-at-via-then-out-at, then-out-at-via-else-out-at+then-out-at-2}

pub overflow_add-size : goal.overflow_add-size
overflow_add-size c = omega (arith, c.length-size.ensures, value_most (tag_for c.args.order), ap length_of c.from-kind.ensures)

pub returns-then-out-at : goal.returns-then-out-at
returns-then-out-at c =
    let a = c.args in
    let f : c.length-size.result ≡ length_of (tag_for a.order) = c.length-size.ensures ∙ ap length_of c.from-kind.ensures in
    room_short a.out.now a.at a.order (elim c.then-out-at.branch [ then-out-at-via-then-out-at w ↦ omega arith | then-out-at-via-else-out-at+then-out-at-2 w ↦ omega (arith, field_length a.order, f) ])

pub returns : goal.returns
returns c =
    let a = c.args in
    let n = c.put_value.new.output in
    let t = c.from.ensures ∙ c.from-kind.ensures in
    let f = c.length-size.ensures ∙ sym (ap length_of c.from.ensures) in
    let p = put_more c.put_header.ensures.put c.put_value.ensures.put in
    let w = was_written a.out.now a.at a.order n.bytes.now n.at (subst (λ (l : List ℕ). Put a.out.now a.at l n.bytes.now n.at) (field_is a.order c.from.result c.length-size.result t f) p) in
    (w.0, search (rules, w))
