-- `ledger::join` meets its contract. Assumes nothing.
use Rattle.ledger.proofs.Joining.{joins}
use Rattle.ledger.proofs.join.Goals as goal

pub returns : goal.returns
returns c = joins c.requires c.rest-e.ensures c.insert.ensures
