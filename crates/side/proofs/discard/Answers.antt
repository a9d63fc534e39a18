-- `side::discard` meets its contract. Assumes nothing.
use native.Mathlib.Omega.{arith}
use Rattle.side.proofs.Leaving.{discards_keep, discards_shut, shut_needs, unlink_needs}
use Rattle.side.proofs.discard.Goals as goal

pub unlink-requires : goal.unlink-requires
unlink-requires c = unlink_needs c.requires c.load.ensures c.find_row-k.ensures

pub bounds-levels-k : goal.bounds-levels-k
bounds-levels-k c = let n = shut_needs c.requires c.load.ensures c.find_row-k.ensures c.unlink.ensures.levels_after in omega arith

pub shut_row-requires : goal.shut_row-requires
shut_row-requires c = shut_needs c.requires c.load.ensures c.find_row-k.ensures c.unlink.ensures.levels_after

pub returns-then-levels-k-eq0 : goal.returns-then-levels-k-eq0
returns-then-levels-k-eq0 c = discards_shut c.requires c.load.ensures c.find_row-k.ensures c.unlink.ensures.records_after c.unlink.ensures.levels_after c.give_back.ensures _ c.if-levels-k-eq0.true c.shut_row.ensures

pub returns-else-levels-k-eq0 : goal.returns-else-levels-k-eq0
returns-else-levels-k-eq0 c = discards_keep c.requires c.load.ensures c.find_row-k.ensures c.unlink.ensures.records_after c.unlink.ensures.levels_after c.give_back.ensures c.if-levels-k-eq0.false
