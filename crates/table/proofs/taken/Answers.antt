-- `table::taken` meets its contract. The invariant: the places are those counted and the free ones passed. Assumes nothing.
use native.Mathlib.Omega.{arith}
use Rattle.table.proofs.Counts.{taken_all}
use Rattle.table.proofs.taken.Goals as goal

pub returns : goal.returns
returns c = taken_all _ _ c.loop-e.e-index c.loop-e.invariant (omega arith)
