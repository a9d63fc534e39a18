-- `stats::summed` meets its contract. The loop's invariant: the totals of the rows passed. Assumes nothing.
use Rattle.stats.proofs.Recording.{summed_none, summed_more}
use Rattle.stats.proofs.summed.Goals as goal

pub loop-i-init : goal.loop-i-init
loop-i-init c = summed_none _ _ c.none-t.ensures

pub loop-i-preserved : goal.loop-i-preserved
loop-i-preserved c = summed_more _ _ _ _ c.at-f.result c.loop-i.invariant c.at-f.ensures c.with-t.ensures
