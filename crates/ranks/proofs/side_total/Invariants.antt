use Rattle.ranks.proofs.Counted.{Going}
use Rattle.ranks.proofs.side_total.Given as goal

abbrev pub invariant-loop-i : goal.invariant-loop-i
invariant-loop-i l = Going l.search l.records l.levels l.n l.most l.orders l.found l.i
