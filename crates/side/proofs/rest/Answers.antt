-- `side::rest` meets its contract. Assumes nothing.
use Rattle.side.proofs.Resting.{append_asks, rests}
use Rattle.side.proofs.rest.Goals as goal

pub append-requires : goal.append-requires
append-requires c = append_asks c.requires c.args.id.0 c.args.quantity.0 c.find_row-k.ensures c.write.ensures c.ready-rows.ensures

pub returns : goal.returns
returns c = rests c.requires c.args.id.0 c.args.quantity.0 c.find_row-k.ensures c.write.ensures c.ready-rows.ensures c.take-then.ensures c.append.ensures.records_after c.append.ensures.levels_after
