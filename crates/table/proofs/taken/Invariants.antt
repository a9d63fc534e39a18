use Prim.Native.Nat.{ℕ, ◌+◌}
use mathlib.Core.Path.{◌≡◌}
use lib.Dec.{eqb}
use lib.ListN.{length, take}
use Rattle.std.specs.List.{count_by}
use Rattle.table.proofs.taken.Given as goal

abbrev pub invariant-loop-e : goal.invariant-loop-e
invariant-loop-e l = l.n + count_by (λ (x : ℕ). eqb x 0) (take l.e-index l.search) ≡ length l.search
