-- `desk::has_no_row` meets its contract: a row is left, or the price decides. Assumes nothing.
use mathlib.Core.Path.{◌∙◌}
use borrow.Author.Tests.{lt-leb}
use Rattle.desk.proofs.Asking.{row_left, row_none}
use Rattle.desk.proofs.has_no_row.Goals as goal

pub returns-then-most-n : goal.returns-then-most-n
returns-then-most-n c = λ rs sd fnd s. row_none _ _ sd fnd s c.if-most-n.true (c.is_new_price.ensures rs sd fnd s)

pub returns-else-most-n : goal.returns-else-most-n
returns-else-most-n c = λ rs sd fnd s. lt-leb c.args.most c.args.n c.if-most-n.false ∙ row_left _ _ sd fnd s c.if-most-n.false
