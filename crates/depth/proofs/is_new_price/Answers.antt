-- `depth::is_new_price` meets its contract. Assumes nothing.
use mathlib.Core.Path.{◌∙◌}
use borrow.Author.Tests.{le-leb}
use Rattle.depth.proofs.Prices.{new_past, new_within}
use Rattle.depth.proofs.is_new_price.Goals as goal

pub returns-then-n-k : goal.returns-then-n-k
returns-then-n-k c = λ rs sd fnd s. le-leb c.args.n c.find_row-k.result c.if-n-k.true ∙ new_past s sd fnd c.args.price.0 c.find_row-k.ensures c.if-n-k.true

pub returns-else-n-k : goal.returns-else-n-k
returns-else-n-k c = λ rs sd fnd s. new_within s sd fnd c.args.price.0 c.find_row-k.ensures c.if-n-k.false
