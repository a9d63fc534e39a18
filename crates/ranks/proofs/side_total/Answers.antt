-- `ranks::side_total` meets its contract. The invariant: the rows passed are right, `orders` is the number of their orders, and `found` of these are found. Assumes nothing.
use native.Mathlib.Omega.{arith}
use Rattle.ranks.proofs.Counted.{going_few, going_on, side_counts}
use Rattle.ranks.proofs.side_total.Goals as goal

pub returns-in_err-queue : goal.returns-in_err-queue
returns-in_err-queue c = rw c.from_residual.ensures (λ s l. side_counts _ _ _ _ _ _ c.loop-i-test.true c.requires.1 s l c.loop-i.invariant.total c.in_err-queue.ensures)

pub overflow_add-found : goal.overflow_add-found
overflow_add-found c =
    let g = going_on _ _ _ _ _ _ _ _ c.loop-i.invariant _ c.loop-i-test.true c.requires.1 (c.rises.ensures.yea c.if-not-rises.false) c.in_ok-queue.ensures in
    omega (arith, g.within, going_few _ _ _ _ _ _ _ _ g)

pub loop-i-preserved : goal.loop-i-preserved
loop-i-preserved c = going_on _ _ _ _ _ _ _ _ c.loop-i.invariant _ c.loop-i-test.true c.requires.1 (c.rises.ensures.yea c.if-not-rises.false) c.in_ok-queue.ensures
