-- `fulfil::carry` meets its contract: each step asks what the one before has left. Assumes nothing.
use Rattle.fulfil.proofs.Fulfilling.{carries, left_asks, lengths_last, settle_asks, track_asks, trade_asks}
use Rattle.fulfil.proofs.carry.Goals as goal

pub trade-last-requires : goal.trade-last-requires
trade-last-requires c = trade_asks c.requires

pub settle-requires : goal.settle-requires
settle-requires c = settle_asks c.requires c.trade-last.ensures.trades (lengths_last c.trade-last.ensures.lent)

pub tracked-requires : goal.tracked-requires
tracked-requires c = track_asks c.requires

pub event-requires : goal.event-requires
event-requires c = left_asks c.requires

pub returns-clause-fulfils : goal.returns-clause-fulfils
returns-clause-fulfils c = carries c.requires c.trade-last.ensures.trades (lengths_last c.trade-last.ensures.lent) c.settle.ensures.settles _ c.tracked.ensures _ c.event.ensures
