-- `reel::goes_on` meets its contract. Assumes nothing.
use mathlib.Core.Logic.{inr}
use borrow.Author.Tests.{lt-leb}
use Rattle.reel.specs.Reel.{off}
use Rattle.reel.proofs.Testing.{allowed, ended}
use Rattle.reel.proofs.goes_on.Goals as goal

pub returns-then-room-left : goal.returns-then-room-left
returns-then-room-left c = allowed c.is_at_hand.ensures c.in-Going.is c.if-room-left.true

pub returns-else-room-left : goal.returns-else-room-left
returns-else-room-left c = rw (lt-leb _ _ c.if-room-left.false) (off (λ e. inr c.if-room-left.false))

pub returns-in-Stopped : goal.returns-in-Stopped
returns-in-Stopped c = off (λ e. absurd (ended c.in-Stopped.is e))
