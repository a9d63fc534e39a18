-- `ffi::felavuti_spread` meets its contract: the call of orderbook with the numbers read and written. Assumes nothing.
use Rattle.ffi.proofs.Carrying.{asked}
use Rattle.ffi.proofs.felavuti_spread.Goals as goal

pub returns : goal.returns
returns c = asked c.viewed-view.ensures c.spread.ensures c.told.ensures
