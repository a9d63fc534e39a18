use Prim.Native.Nat.{◌*◌, ◌≤◌}
use Rattle.rules.specs.Rules as rule
use Rattle.ledger.specs.Stock.{stock_of}
use Rattle.serve.specs.Serve.{keeping, Ready}
use Rattle.felavuti.proofs.run.Given as goal

abbrev pub invariant-loop-n : goal.invariant-loop-n
invariant-loop-n l = record {
  ready : Ready rule.hall (keeping (stock_of l.book) l.statistics l.fills);
  base : l.window.base ≤ l.n * 65536;
}
