-- `questions::best` meets its contract: a whole book's sides stand. Assumes nothing.
use Rattle.whole.proofs.Join.{whole_desk}
use Rattle.questions.proofs.best.Goals as goal

pub quote-requires : goal.quote-requires
quote-requires c = whole_desk c.in_ok-known.ensures
