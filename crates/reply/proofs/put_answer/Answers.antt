-- `reply::put_answer` meets its contract. Assumes nothing.
use native.Mathlib.Omega.{arith}
use Rattle.models.specs.Readings.{event_of}
use Rattle.overlay.proofs.Over.{put_more}
use Rattle.text.proofs.Lines.{event_length}
use Rattle.reply.proofs.put_answer.Goals as goal

pub put_fills-requires : goal.put_fills-requires
put_fills-requires c = let p = c.put_event.ensures.put in omega (arith, p.next, p.long, event_length (event_of c.in-Ok.event))

pub returns-in-Ok-clause-put : goal.returns-in-Ok-clause-put
returns-in-Ok-clause-put c = rw (c.in-Ok.is, ← c.count_of.ensures) (put_more c.put_event.ensures.put c.put_fills.ensures.put)
