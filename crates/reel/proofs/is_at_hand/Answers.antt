-- `reel::is_at_hand` meets its contract. Assumes nothing.
use mathlib.Core.Path.{refl}
use mathlib.Core.Logic.{inl}
use Rattle.reel.specs.Reel.{yes}
use Rattle.reel.proofs.Testing.{handed}
use Rattle.reel.proofs.is_at_hand.Goals as goal

pub returns-then-last : goal.returns-then-last
returns-then-last c = rw c.if-last.true (yes (inl refl))

pub returns-else-last : goal.returns-else-last
returns-else-last c = handed _ _ c.if-last.false
