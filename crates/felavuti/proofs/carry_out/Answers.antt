-- `felavuti::carry_out` meets its contract: the desk that is made is ready for a tape. Assumes nothing.
use mathlib.Core.Path.{refl}
use Rattle.felavuti.proofs.Beginning.{made_ready}
use Rattle.felavuti.proofs.carry_out.Goals as goal

pub run-requires : goal.run-requires
run-requires c = (made_ready _ c.fresh.ensures.makes c.in-Ok.is refl, c.new-window.ensures.2)
