-- `ffi::felavuti_limit` meets its contract: a side above 1 is refused, and any other handed on. Assumes nothing.
use Rattle.ffi.proofs.Carrying.{ordered}
use Rattle.ffi.proofs.felavuti_limit.Goals as goal

pub returns-in-Ok : goal.returns-in-Ok
returns-in-Ok c = ordered c.order.ensures c.in-Ok.is c.execute_lent.ensures
