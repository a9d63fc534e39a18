-- `depth::look` meets its contract. Assumes nothing.
use Rattle.depth.proofs.Looking.{found_row, looked_none, looked_some}
use borrow.Author.Rules.{rules}
use Rattle.depth.proofs.look.Goals as goal

pub returns-then-c-eq0 : goal.returns-then-c-eq0
returns-then-c-eq0 c = record { answer = λ {bd} {ak} {r} {f} {nb} {na} w. looked_none w c.args.id.0 c.find-w.ensures.1 c.if-c-eq0.true; count = c.find-w.ensures.2 }

pub load-requires : goal.load-requires
load-requires c = (search rules, found_row c.args.search.now c.args.id.0 c.find-w.ensures.1 c.if-c-eq0.false)

pub load-requires-2 : goal.load-requires-2
load-requires-2 c = (search rules, found_row c.args.search.now c.args.id.0 c.find-w.ensures.1 c.if-c-eq0.false)

pub returns : goal.returns
returns c = record { answer = λ {bd} {ak} {r} {f} {nb} {na} w. rw (c.load.ensures, c.load-2.ensures) (looked_some w c.args.id.0 c.find-w.ensures.1 c.if-c-eq0.false); count = c.find-w.ensures.2 }
