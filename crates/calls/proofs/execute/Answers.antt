-- `calls::execute` meets its contract: on a whole book it is `perform`. Assumes nothing.
use mathlib.Core.Path.{subst}
use Rattle.whole.specs.Whole.{WholeStock, size_of}
use Rattle.calls.specs.Calls.{performed}
use Rattle.calls.proofs.execute.Goals as goal

pub returns-clause-executes : goal.returns-clause-executes
returns-clause-executes c = performed (subst (WholeStock (size_of c.args.size)) c.view.ensures c.in_ok-known.ensures) c.perform.ensures.performs
