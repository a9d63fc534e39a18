-- `order::totals` meets its contract. Assumes nothing.
use Rattle.std.proofs.Common.{◌-◌, arith}
use Rattle.sums.proofs.Capped.{capped_small}
use Rattle.order.proofs.totals.Goals as goal

pub returns : goal.returns
returns c = rw (capped_small (c.args.t.qty.0 - c.args.s.left.0) (omega arith))
