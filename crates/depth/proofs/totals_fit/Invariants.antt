use Rattle.depth.proofs.Totals.{Fit}
use Rattle.depth.proofs.totals_fit.Given as goal

abbrev pub invariant-loop-k : goal.invariant-loop-k
invariant-loop-k l = Fit l.records l.levels l.n l.k
