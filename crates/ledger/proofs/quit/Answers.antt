-- `ledger::quit` meets its contract. Assumes nothing.
use Rattle.ledger.proofs.Quitting.{quits}
use Rattle.ledger.proofs.quit.Goals as goal

pub returns : goal.returns
returns c = quits c.requires c.forget.ensures c.discard.ensures
