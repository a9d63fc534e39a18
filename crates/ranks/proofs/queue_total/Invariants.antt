use Prim.Native.Nat.{◌-◌, ◌≤◌}
use mathlib.Core.Path.{◌≡◌}
use Rattle.ranks.specs.Ranks.{walked}
use Rattle.ranks.proofs.Queues.{Seen}
use Rattle.ranks.proofs.queue_total.Given as goal

abbrev pub invariant-loop-c : goal.invariant-loop-c
invariant-loop-c l =
    (l.orders ≤ l.most) × (walked l.records l.price l.tail l.most 0 l.head 0 ≡ walked l.records l.price l.tail (l.most - l.orders) l.p l.c l.orders) × Seen l.search l.records l.head l.most l.orders l.found l.c

abbrev pub decreases-loop-c : goal.decreases-loop-c
decreases-loop-c l = l.most - l.orders
