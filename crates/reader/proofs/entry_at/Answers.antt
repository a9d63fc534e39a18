-- `reader::entry_at` meets its contract. Assumes nothing.
use mathlib.Core.Path.{sym, ap}
use Rattle.tape.specs.Orders.{found}
use Rattle.tape.proofs.Items.{item_end, item_stump}
use Rattle.reader.proofs.entry_at.Goals as goal

pub returns-in-Ok-None-clause-order : goal.returns-in-Ok-None-clause-order
returns-in-Ok-None-clause-order c = sym (ap (found c.args.at) (item_end _ (rw c.in-Ok-None.field-0-is at c.in-Ok-None.ensures)))

pub returns-in-Err-clause-refused : goal.returns-in-Err-clause-refused
returns-in-Err-clause-refused c = sym (ap (found c.args.at) (item_stump _ c.in-Err.ensures))
