-- `StoredBook::cancel` meets its contract. Assumes nothing.
use Rattle.models.specs.Readings.{side_of}
use Rattle.ledger.specs.Stock.{stock_of}
use Rattle.ledger.proofs.Cancelling.{found_leaves, none_leaves, told_rests}
use Rattle.ledger.proofs.StoredBook.cancel.Goals as goal

pub returns-then-c-eq0-clause-leaves : goal.returns-then-c-eq0-clause-leaves
returns-then-c-eq0-clause-leaves c = none_leaves c.view-view.ensures c.requires.0 c.args.id.0 c.find-c.ensures.1 c.if-c-eq0.true

pub discard-requires : goal.discard-requires
discard-requires c = (c.requires.0, told_rests c.view-view.ensures c.requires.0 c.args.id.0 c.find-c.ensures.1 c.if-c-eq0.false c.requires.1 (side_of c.side_at-side.result) c.side_at-side.ensures)

pub returns-clause-leaves : goal.returns-clause-leaves
returns-clause-leaves c = found_leaves c.view-view.ensures c.requires.0 c.args.id.0 c.find-c.ensures.1 c.if-c-eq0.false c.requires.1 (side_of c.side_at-side.result) c.side_at-side.ensures (stock_of c.discard.new.self) c.discard.ensures.leaves
