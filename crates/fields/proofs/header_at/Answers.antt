-- `fields::header_at` meets its contract. Assumes nothing.
use mathlib.Core.Path.{sym}
use Rattle.fields.proofs.Fronts.{front_stump}
use Rattle.fields.proofs.header_at.Goals as goal

pub returns-then-tape-at-lt-HEADER : goal.returns-then-tape-at-lt-HEADER
returns-then-tape-at-lt-HEADER c = sym (front_stump c.args.tape.now c.args.at c.if-tape-at.false c.if-tape-at-lt-HEADER.true)
