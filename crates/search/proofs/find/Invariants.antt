use Prim.Native.Nat.{◌-◌, ◌<◌}
use mathlib.Core.Path.{◌≡◌}
use lib.ListN.{length}
use Rattle.search.specs.Seek.{sought, walk}
use Rattle.search.proofs.find.Given as goal

abbrev pub invariant-loop-n : goal.invariant-loop-n
invariant-loop-n l = (l.p < length l.table) × (walk l.table l.records l.id (length l.table - l.n) l.p l.n ≡ sought l.table l.records l.id)
