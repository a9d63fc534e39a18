-- `questions::get` meets its contract: on a whole book it answers what the rules find, and the walk's count. Assumes nothing.
use Prim.Native.Nat.{ℕ}
use mathlib.Core.Path.{ap}
use Rattle.whole.proofs.Join.{whole_desk}
use Rattle.depth.specs.Answers.{found_of}
use Rattle.models.specs.Readings.{value}
use Rattle.questions.specs.Questions.{found}
use Rattle.questions.proofs.Answering.{search_found}
use Rattle.questions.proofs.get.Goals as goal

pub returns : goal.returns
returns c = let w = c.in_ok-known.ensures in found w _ (λ st. search_found _ _ st (c.look.ensures.answer (whole_desk w))) (ap (λ (n : ℕ). value (found_of c.look.result.found, n)) c.look.ensures.count)
