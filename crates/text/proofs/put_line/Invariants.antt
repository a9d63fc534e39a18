use mathlib.Core.List.{[]}
use lib.ListN.{take}
use Rattle.overlay.specs.Over.{Put}
use Rattle.fields.specs.Output.{Lent}
use Rattle.text.specs.Text.{numbered}
use Rattle.text.proofs.put_line.Given as goal

abbrev pub invariant-loop-number : goal.invariant-loop-number
invariant-loop-number l = record {
  lent : Lent l.initial.output l.output;
  put : Put l.initial.output.bytes.now l.initial.output.at (numbered (take l.number-index l.numbers) []) l.output.bytes.now l.output.at;
}
