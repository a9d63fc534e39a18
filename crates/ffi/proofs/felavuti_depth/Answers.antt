-- `ffi::felavuti_depth` meets its contract: the call of orderbook with the numbers read and written. Assumes nothing.
use Rattle.ffi.proofs.Carrying.{deepened}
use Rattle.ffi.proofs.felavuti_depth.Goals as goal

pub returns : goal.returns
returns c = deepened c.viewed-view.ensures c.depth.ensures c.told.ensures
