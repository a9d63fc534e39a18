use Rattle.models.specs.Readings.{side_of}
use Rattle.ledger.specs.Stock.{Relent, stock_of}
use Rattle.ledger.specs.Desk.{LeavesAs, read_book}
use Rattle.trade.specs.Trade.{swept}
use Rattle.trade.proofs.sweep.Given as goal

abbrev pub invariant-loop : goal.invariant-loop
invariant-loop l = Relent l.initial.book l.book × LeavesAs (swept (side_of l.side) l.counter (read_book (stock_of l.initial.book))) (stock_of l.book)
