use Prim.Native.Nat.{◌-◌}
use lib.ListN.{length}
use Rattle.search.specs.Seek.{removing}
use Rattle.search.proofs.Pulling.{Pulling}
use Rattle.search.proofs.remove.Given as goal

abbrev pub invariant-loop : goal.invariant-loop
invariant-loop l = Pulling (length l.fn.table) (removing l.fn.table l.records l.place) l.table l.records l.hole l.j (length l.fn.table - l.counter)
