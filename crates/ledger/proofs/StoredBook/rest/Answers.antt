-- `StoredBook::rest` meets its contract. Assumes nothing.
use Rattle.ledger.proofs.Desk.{can_ask, can_bid, rest_ask, rest_bid}
use Rattle.ledger.proofs.StoredBook.rest.Goals as goal

pub join-e-requires : goal.join-e-requires
join-e-requires c = can_bid c.requires.0 c.requires.1 c.args.price.0 (rw c.in-Bid.is at c.requires.2)

pub join-e-requires-in-Ask : goal.join-e-requires-in-Ask
join-e-requires-in-Ask c = can_ask c.requires.0 c.requires.1 c.args.price.0 (rw c.in-Ask.is at c.requires.2)

pub returns-in-Bid-clause-rests : goal.returns-in-Bid-clause-rests
returns-in-Bid-clause-rests c = rw c.in-Bid.is (rest_bid c.requires.0 c.requires.1 c.join-e.ensures)

pub returns-in-Ask-clause-rests : goal.returns-in-Ask-clause-rests
returns-in-Ask-clause-rests c = rw c.in-Ask.is (rest_ask c.requires.0 c.requires.1 c.join-e-in-Ask.ensures)
