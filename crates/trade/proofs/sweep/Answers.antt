-- `sweep` lets the best orders of a side go, one by one: each turn of its loop is a law of Leaving. Assumes nothing.
use Rattle.models.specs.Readings.{side_of}
use Rattle.ledger.specs.Stock.{stock_of}
use Rattle.ledger.specs.Desk.{read_book}
use Rattle.ledger.proofs.Lending.{relent_on}
use Rattle.trade.proofs.Leaving.{sweep_step}
use Rattle.trade.proofs.sweep.Goals as goal

pub loop-preserved : goal.loop-preserved
loop-preserved c = (relent_on c.loop.invariant.0 c.leave.ensures.lent, sweep_step (side_of c.args.side) (stock_of c.loop.book) (stock_of c.leave.new.book) (read_book (stock_of c.args.book.now)) c.loop.counter c.loop.invariant.1 c.leave.ensures.leaves)
