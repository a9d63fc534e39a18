-- `stats::Totals::with` meets its contract. Assumes nothing.
use Rattle.std.proofs.Common.{arith}
use Rattle.stats.specs.Statistics.{with_fill}
use Rattle.sums.proofs.Capped.{capped_small}
use Rattle.stats.proofs.Totals.with.Goals as goal

pub returns : goal.returns
unfolding with_fill
returns c = rw (c.plus.ensures, c.product.ensures, c.plus-2.ensures, capped_small c.args.qty.0 (omega arith))
