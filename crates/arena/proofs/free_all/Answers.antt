-- `arena::free_all` meets its contract. Assumes nothing.
use native.Mathlib.Omega.{arith}
use Rattle.arena.proofs.Free.{freed_step}
use Rattle.arena.proofs.free_all.Goals as goal

pub loop-i-preserved : goal.loop-i-preserved
loop-i-preserved c = rw c.give_back.ensures (freed_step c.loop-i.records c.loop-i.i (omega arith) c.loop-i.invariant)
