use Prim.Native.Nat.{◌+◌, ◌-◌}
use lib.ListN.{length}
use Rattle.fields.specs.Output.{Lent}
use Rattle.ledger.specs.Stock.{stock_of, Relent}
use Rattle.whole.specs.Whole.{size_of}
use Rattle.serve.specs.Serve.{keeping}
use Rattle.reel.proofs.Along.{Along, going}
use Rattle.reel.proofs.part.Given as goal

abbrev pub invariant-loop-size : goal.invariant-loop-size
invariant-loop-size l = record {
  relent : Relent l.initial.book l.book;
  lent : Lent l.initial.output l.output;
  along : Along (size_of l.size) l.tape l.base l.last l.at (keeping (stock_of l.initial.book) l.initial.statistics l.initial.fills)
      l.initial.output.bytes.now l.initial.output.at l.turn.state l.turn.next l.output.at (keeping (stock_of l.book) l.statistics l.fills) l.output.bytes.now;
}

abbrev pub decreases-loop-size : goal.decreases-loop-size
decreases-loop-size l = length l.tape - l.turn.next + going l.turn.state
