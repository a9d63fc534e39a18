use Rattle.rows.specs.Rows.{fill_row, listed}
use Rattle.overlay.specs.Over.{Put}
use Rattle.fields.specs.Output.{Lent}
use Rattle.feed.specs.Feed.{fill_lines}
use Rattle.reply.proofs.put_fills.Given as goal

abbrev pub invariant-loop-i : goal.invariant-loop-i
invariant-loop-i l = record {
  lent : Lent l.initial.output l.output;
  put : Put l.initial.output.bytes.now l.initial.output.at (fill_lines (listed fill_row l.fills l.i)) l.output.bytes.now l.output.at;
}
