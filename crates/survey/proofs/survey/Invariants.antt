use Prim.Native.Nat.{◌-◌, ◌≤◌}
use Rattle.survey.proofs.Walk.{Along, Inside, ahead}
use Rattle.survey.proofs.survey.Given as goal

abbrev pub invariant-loop-c : goal.invariant-loop-c
invariant-loop-c l = Inside l.records l.levels l.n l.t l.s (l.k - 1) l.c × (1 ≤ l.s.left.0)

abbrev pub decreases-loop-c : goal.decreases-loop-c
decreases-loop-c l = l.s.left.0

abbrev pub invariant-prices : goal.invariant-prices
invariant-prices l = (l.k ≤ l.n) × Along l.records l.levels l.n l.t l.s (ahead l.records l.levels l.n l.t l.k) × (1 ≤ l.s.left.0)

abbrev pub decreases-prices : goal.decreases-prices
decreases-prices l = l.k
