-- `desk::is_crowded` meets its contract: the side on which a remainder would rest. Assumes nothing.
use Rattle.desk.proofs.Asking.{crowds_ask, crowds_bid}
use Rattle.desk.proofs.is_crowded.Goals as goal

pub returns-in-Bid : goal.returns-in-Bid
returns-in-Bid c = crowds_bid c.args.most c.args.view.book c.args.view.bids.now c.args.view.asks.now c.in-Some.is c.args.side c.in-Bid.is c.has_no_row.ensures

pub returns-in-Ask : goal.returns-in-Ask
returns-in-Ask c = crowds_ask c.args.most c.args.view.book c.args.view.bids.now c.args.view.asks.now c.in-Some.is c.args.side c.in-Ask.is c.has_no_row-in-Ask.ensures
