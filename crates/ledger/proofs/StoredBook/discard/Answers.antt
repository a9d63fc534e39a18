-- `StoredBook::discard` meets its contract. Assumes nothing.
use Rattle.ledger.proofs.Desk.{can_quit_ask, drop_ask, drop_bid}
use Rattle.ledger.proofs.StoredBook.discard.Goals as goal

pub quit-e-requires-in-Ask : goal.quit-e-requires-in-Ask
quit-e-requires-in-Ask c = can_quit_ask c.requires.0 c.args.c (rw c.in-Ask.is at c.requires.1)

pub returns-in-Bid-clause-leaves : goal.returns-in-Bid-clause-leaves
returns-in-Bid-clause-leaves c = rw c.in-Bid.is (drop_bid c.requires.0 (rw c.in-Bid.is at c.requires.1) c.quit-e.ensures)

pub returns-in-Ask-clause-leaves : goal.returns-in-Ask-clause-leaves
returns-in-Ask-clause-leaves c = rw c.in-Ask.is (drop_ask c.requires.0 (rw c.in-Ask.is at c.requires.1) c.quit-e-in-Ask.ensures)
