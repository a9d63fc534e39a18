use Prim.Native.Nat.{◌≤◌}
use Rattle.matching.proofs.Passing.{Inside, Outside}
use Rattle.matching.proofs.carry_out.Given as goal

abbrev pub invariant-loop-c : goal.invariant-loop-c
invariant-loop-c l = Inside l.levels l.n l.t l.initial.records l.initial.fills l.initial.p l.k l.records l.fills l.p l.c × (1 ≤ l.p.left.0)

abbrev pub decreases-loop-c : goal.decreases-loop-c
decreases-loop-c l = l.p.left.0

abbrev pub invariant-prices : goal.invariant-prices
invariant-prices l = Outside l.levels l.n l.t l.initial.records l.initial.fills l.initial.p l.records l.fills l.p l.k × (1 ≤ l.p.left.0)

abbrev pub decreases-prices : goal.decreases-prices
decreases-prices l = l.k
