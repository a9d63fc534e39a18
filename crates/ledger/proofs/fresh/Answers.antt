-- `ledger::fresh` meets its contract. Assumes nothing.
use native.Mathlib.Omega.{arith}
use lib.ListN.{length}
use Rattle.ledger.proofs.Beginning.{begun}
use Rattle.ledger.proofs.fresh.Goals as goal

pub returns : goal.returns
returns c = begun _ _ _ _ c.free_all-free.result (length c.args.search.now) (omega (arith, c.free_all-free.ensures.0)) (omega (arith, c.free_all-free.ensures.0)) c.free_all-free.ensures.1 c.clear.ensures
