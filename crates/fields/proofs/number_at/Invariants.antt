use Prim.Native.Nat.{◌<◌, ◌^◌}
use mathlib.Core.Path.{◌≡◌}
use lib.ListN.{drop}
use Rattle.fields.specs.Bytes.{number}
use Rattle.fields.proofs.number_at.Given as goal

abbrev pub invariant-loop-byte : goal.invariant-loop-byte
invariant-loop-byte l = record {
  value : l.n ≡ number l.byte-index (drop l.at l.tape);
  small : l.n < 256 ^ l.byte-index;
}
