use lib.ListN.{length}
use Rattle.depth.specs.Sides.{queue_in}
use Rattle.depth.proofs.Queues.{Along}
use Rattle.depth.proofs.total.Given as goal

abbrev pub invariant-loop-c : goal.invariant-loop-c
invariant-loop-c l = Along l.records l.head l.sum l.c

abbrev pub decreases-loop-c : goal.decreases-loop-c
decreases-loop-c l = length (queue_in l.records l.c)
