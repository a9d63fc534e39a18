-- `leave` lets the best order of a side go. Assumes nothing.
use Rattle.models.specs.Readings.{side_of}
use Rattle.trade.proofs.Leaving.{front_goes, front_there, leaves_as, seen_front}
use Rattle.trade.proofs.leave.Goals as goal

pub discard-requires : goal.discard-requires
discard-requires c = (c.requires.0, front_there c.requires.0 (side_of c.args.side) c.requires.1 (seen_front c.view.ensures (side_of c.args.side) c.front-c.ensures))

pub returns-clause-leaves : goal.returns-clause-leaves
returns-clause-leaves c = leaves_as (front_goes c.requires.0 (side_of c.args.side) c.requires.1 (seen_front c.view.ensures (side_of c.args.side) c.front-c.ensures)) c.discard.ensures.leaves
