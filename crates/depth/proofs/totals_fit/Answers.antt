-- `depth::totals_fit` meets its contract: a total is too large among the rows to come exactly if one is among all. Assumes nothing.
use Rattle.depth.proofs.Sides.{queue_at}
use Rattle.depth.proofs.Totals.{fit_again, fit_end, fit_over}
use Rattle.depth.proofs.totals_fit.Goals as goal

pub total-requires : goal.total-requires
total-requires c = queue_at c.requires c.loop-k.k c.loop-k-test.true

pub returns-then-is_none : goal.returns-then-is_none
returns-then-is_none c = fit_over c.loop-k.invariant c.loop-k-test.true c.total.ensures c.if-is_none.ensures c.requires

pub loop-k-preserved : goal.loop-k-preserved
loop-k-preserved c = fit_again c.loop-k.invariant c.loop-k-test.true c.total.ensures c.if-is_none.ensures

pub returns : goal.returns
returns c = fit_end c.loop-k.invariant c.loop-k-test.false c.requires
