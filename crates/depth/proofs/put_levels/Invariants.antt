use Rattle.depth.proofs.Totals.{Put}
use Rattle.depth.proofs.put_levels.Given as goal

abbrev pub invariant-loop-i : goal.invariant-loop-i
invariant-loop-i l = Put l.records l.levels l.n l.initial.out l.out l.i
