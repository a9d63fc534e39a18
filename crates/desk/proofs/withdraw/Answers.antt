-- `desk::withdraw` meets its contract: what the ledger's cancel leaves is what the rules' cancel leaves. Assumes nothing.
use Rattle.desk.proofs.Asking.{cancel_asks, withdrawn}
use Rattle.desk.proofs.withdraw.Goals as goal

pub cancel-requires : goal.cancel-requires
cancel-requires c = cancel_asks c.requires

pub returns-clause-withdraws : goal.returns-clause-withdraws
returns-clause-withdraws c = withdrawn c.args.id c.cancel.ensures.lent c.cancel.ensures.leaves
