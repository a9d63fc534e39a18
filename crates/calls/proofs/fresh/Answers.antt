-- `calls::fresh` meets its contract: storage of the right lengths becomes a whole book that reads as the rules' fresh desk. Assumes nothing.
use mathlib.Core.Path.{refl, subst}
use Rattle.ledger.specs.Stock.{Stock}
use Rattle.whole.specs.Whole.{Lengths, size_of}
use Rattle.calls.specs.Calls.{made}
use Rattle.calls.proofs.Beginning.{begins}
use Rattle.calls.proofs.fresh.Goals as goal

pub returns-clause-makes : goal.returns-clause-makes
returns-clause-makes c =
    let l = subst (λ (k : Stock). Lengths (size_of c.args.size) k.records k.bids k.asks k.search) c.view-view.ensures (c.is_sized.ensures.yea c.if-not-is_sized.false) in
    made l _ refl (begins l c.fresh.ensures.lent c.fresh.ensures.empty c.fresh-2.ensures)
