-- `order::checked` meets its contract. Assumes nothing.
use Rattle.std.proofs.Common.{arith}
use Rattle.order.proofs.Deciding.{decided_room, decided_sum, decided_none, decided_full, decided_crowded, decided_fine}
use Rattle.order.proofs.checked.Goals as goal

pub returns-then-places-s : goal.returns-then-places-s
returns-then-places-s c = decided_room _ _ _ _ _ _ _ c.if-places-s.true

pub returns-then-too_large : goal.returns-then-too_large
returns-then-too_large c = decided_sum _ _ _ _ _ _ _ (omega arith) c.totals.ensures c.too_large.ensures c.if-too_large.true

pub returns-in-Some : goal.returns-in-Some
returns-in-Some c = decided_full _ _ _ _ _ _ _ (omega arith) c.totals.ensures c.too_large.ensures c.if-too_large.false c.in-Some.is c.if-full.true

pub returns-in-Some-2 : goal.returns-in-Some-2
returns-in-Some-2 c =
    decided_crowded _ _ _ _ _ _ _ (omega arith) c.totals.ensures c.too_large.ensures c.if-too_large.false c.in-Some.is c.if-full.false c.if-crowded.true

pub returns-in_default : goal.returns-in_default
returns-in_default c =
    decided_fine _ _ _ _ _ _ _ (omega arith) c.totals.ensures c.too_large.ensures c.if-too_large.false c.in-Some.is c.if-full.false c.if-crowded.false

pub returns-in_default-2 : goal.returns-in_default-2
returns-in_default-2 c = decided_none _ _ _ _ _ _ _ (omega arith) c.totals.ensures c.too_large.ensures c.if-too_large.false c.in_default.is
