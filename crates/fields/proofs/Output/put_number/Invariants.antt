use Prim.Native.Nat.{◌+◌, ◌-◌, ◌≤◌}
use mathlib.Core.Path.{◌≡◌}
use lib.ListN.{length}
use Rattle.fields.specs.Bytes.{bytes}
use Rattle.fields.specs.Output.{Lent}
use Rattle.overlay.specs.Over.{over}
use Rattle.fields.proofs.Output.put_number.Given as goal

abbrev pub invariant-loop-i : goal.invariant-loop-i
invariant-loop-i l = record {
  lent : Lent l.initial.self l.self;
  at : l.self.at ≡ l.initial.self.at;
  long : length l.self.bytes.now ≡ length l.initial.self.bytes.now;
  from : l.self.at ≤ l.i;
  to : l.i ≤ l.self.at + l.k;
  laid : over l.self.bytes.now l.self.at (bytes (l.i - l.self.at) l.rest) ≡ over l.initial.self.bytes.now l.self.at (bytes l.k l.n);
}
