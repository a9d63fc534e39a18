-- `writer::put_value` meets its contract. Assumes nothing.
use Rattle.overlay.proofs.Over.{put_more}
use Rattle.writer.proofs.put_value.Goals as goal

pub returns-in-Limit-clause-put : goal.returns-in-Limit-clause-put
returns-in-Limit-clause-put c = rw c.in-Limit.is (put_more c.put_wish-in-Limit.ensures.put c.put_number.ensures.put)
