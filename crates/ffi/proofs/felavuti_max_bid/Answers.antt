-- `ffi::felavuti_max_bid` meets its contract: the call of orderbook with the numbers read and written. Assumes nothing.
use Rattle.ffi.proofs.Carrying.{asked}
use Rattle.ffi.proofs.felavuti_max_bid.Goals as goal

pub returns : goal.returns
returns c = asked c.viewed-view.ensures c.max_bid.ensures c.told.ensures
