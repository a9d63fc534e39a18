use Rattle.arena.specs.Free.{Freed}
use Rattle.arena.proofs.free_all.Given as goal

abbrev pub invariant-loop-i : goal.invariant-loop-i
invariant-loop-i l = Freed l.records l.i
