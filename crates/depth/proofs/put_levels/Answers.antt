-- `depth::put_levels` meets its contract: the rows to come, written from here on, give the whole. Assumes nothing.
use Rattle.depth.proofs.Sides.{queue_at}
use Rattle.depth.proofs.Totals.{put_again, put_end, put_some, put_start}
use Rattle.depth.proofs.put_levels.Goals as goal

pub loop-i-init : goal.loop-i-init
loop-i-init c = put_start c.args.out.now c.requires.0 c.requires.1

pub total-requires : goal.total-requires
total-requires c = queue_at c.requires.0 c.loop-i.i c.loop-i-test.true

pub unwrap-qty-requires : goal.unwrap-qty-requires
unwrap-qty-requires c = let e = put_some c.loop-i.invariant c.loop-i-test.true c.requires.2 c.total.ensures in rw e

pub loop-i-preserved : goal.loop-i-preserved
loop-i-preserved c = put_again c.loop-i.invariant c.loop-i-test.true c.requires.2 c.total.ensures c.unwrap-qty.ensures c.put.ensures

pub returns : goal.returns
returns c = put_end c.loop-i.invariant c.loop-i-test.false c.requires.0
