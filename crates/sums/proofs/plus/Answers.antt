-- `sums::plus` meets its contract: the cases are the definition's. Assumes nothing.
use Rattle.sums.specs.Sums.{plus_of}
use Rattle.sums.proofs.Capped.{checked_is}
use Rattle.sums.proofs.plus.Goals as goal

pub returns-in_err-a : goal.returns-in_err-a
unfolding plus_of
returns-in_err-a c = rw (c.in_err-a.was) c.from_residual.ensures

pub returns-in_err-b : goal.returns-in_err-b
unfolding plus_of
returns-in_err-b c = rw (c.in_ok-a.was, c.in_err-b.was) c.from_residual-in_err-b.ensures

pub returns : goal.returns
unfolding plus_of
returns c = rw (c.in_ok-a.was, c.in_ok-b.was) (checked_is _ _ c.checked_add.ensures)
