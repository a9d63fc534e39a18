-- `depth::total` meets its contract: the sum so far and the orders to come make up the whole. Assumes nothing.
use native.Mathlib.Omega.{arith}
use mathlib.Core.Path.{◌∙◌}
use Rattle.depth.proofs.Queues.{along_again, along_end, along_less, along_over}
use Rattle.depth.proofs.total.Goals as goal

pub returns-in_err-sum : goal.returns-in_err-sum
returns-in_err-sum c = c.from_residual.ensures ∙ along_over c.loop-c.invariant c.loop-c-test.true c.load.ensures (omega (arith, c.in_err-sum.ensures))

pub loop-c-smaller : goal.loop-c-smaller
loop-c-smaller c = along_less c.loop-c.invariant c.loop-c-test.true c.load-c.ensures

pub loop-c-preserved : goal.loop-c-preserved
loop-c-preserved c = along_again c.loop-c.invariant c.loop-c-test.true c.load.ensures (omega (arith, c.in_ok-sum.ensures), c.in_ok-sum.ensures.1) c.load-c.ensures

pub returns : goal.returns
returns c = along_end c.loop-c.invariant c.loop-c-test.false
