-- `sums::product` meets its contract. Assumes nothing.
use Rattle.std.proofs.Common.{sym}
use Rattle.sums.proofs.Capped.{capped_small, checked_is, product_small}
use Rattle.sums.proofs.product.Goals as goal

pub returns-then-q-lt-HALF_WIDE : goal.returns-then-q-lt-HALF_WIDE
returns-then-q-lt-HALF_WIDE c = sym (capped_small _ (product_small _ _ c.if-p-lt-HALF_WIDE.true c.if-q-lt-HALF_WIDE.true))

pub returns : goal.returns
returns c = checked_is _ _ c.checked_mul.ensures
