-- `ffi::felavuti_min_ask` meets its contract: the call of orderbook with the numbers read and written. Assumes nothing.
use Rattle.ffi.proofs.Carrying.{asked}
use Rattle.ffi.proofs.felavuti_min_ask.Goals as goal

pub returns : goal.returns
returns c = asked c.viewed-view.ensures c.min_ask.ensures c.told.ensures
