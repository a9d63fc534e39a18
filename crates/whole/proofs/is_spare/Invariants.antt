use Prim.Native.Nat.{◌*◌, ◌-◌, ◌≤◌}
use mathlib.Core.Path.{◌≡◌}
use Rattle.records.specs.Rows.{record_count}
use Rattle.whole.specs.Spare.{idles}
use Rattle.whole.proofs.is_spare.Given as goal

abbrev pub invariant-loop : goal.invariant-loop
invariant-loop l = (l.c ≤ record_count l.records) × (l.end ≡ l.c * 5) × (idles l.records l.count l.free ≡ idles l.records (l.count - l.counter) l.c)
