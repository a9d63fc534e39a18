-- `slips::write_slip` meets its contract: the slip's refusals are the definition's, and the writer's answer is its last. Assumes nothing.
use mathlib.Core.Path.{◌≡◌}
use Rattle.std.specs.Prelude.{Err}
use Rattle.reader.proofs.Places.{passed_on}
use Rattle.slips.proofs.Writing.{short, done}
use Rattle.slips.proofs.write_slip.Goals as goal

pub returns-in_err-next : goal.returns-in_err-next
returns-in_err-next c =
    let a = c.args in
    let k = c.in_ok-order.ensures.order in
    let w = c.in_err-next.ensures in
    let r : c.from_residual-in_err-next.result ≡ Err c.in_err-next.field-0.0 = passed_on _ _ c.from_residual-in_err-next.ensures.1 in
    rw r (short a.tape.now a.at a.slip k.1 k.2 c.in_err-next.field-0.0 c.write_order.new.out (rw (← k.0) w.0) (rw (← k.0) w.1))

pub returns : goal.returns
returns c =
    let a = c.args in
    let k = c.in_ok-order.ensures.order in
    let w = c.in_ok-next.ensures in
    done a.tape.now a.at a.slip k.1 k.2 c.in_ok-next.next c.write_order.new.out (rw (← k.0) w.0) (rw (← k.0) w.1)
