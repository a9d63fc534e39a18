-- `ffi::felavuti_get` meets its contract: the call of orderbook with the numbers read and written. Assumes nothing.
use Rattle.ffi.proofs.Carrying.{sought}
use Rattle.ffi.proofs.felavuti_get.Goals as goal

pub returns : goal.returns
returns c = sought c.viewed-view.ensures c.get.ensures c.told.ensures
