-- `questions::spread` meets its contract: on a whole book the best bid is below the best ask. Assumes nothing.
use Rattle.ledger.specs.Stock.{stock_in}
use Rattle.whole.proofs.Join.{whole_desk}
use Rattle.questions.proofs.Answering.{below}
use Rattle.questions.proofs.spread.Goals as goal

pub quote-requires : goal.quote-requires
quote-requires c = whole_desk c.in_ok-known.ensures

pub quote-requires-2 : goal.quote-requires-2
quote-requires-2 c = whole_desk c.in_ok-known.ensures

pub between-requires : goal.between-requires
between-requires c = below (stock_in c.args.view) c.in_ok-known.ensures c.quote.result c.quote-2.result c.quote.ensures c.quote-2.ensures
