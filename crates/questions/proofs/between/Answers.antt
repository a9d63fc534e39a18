-- `questions::between` meets its contract: the bid is below the ask. Assumes nothing.
use native.Mathlib.Omega.{arith}
use mathlib.Core.Path.{ap}
use Rattle.depth.specs.Answers.{quote_of}
use Rattle.questions.proofs.between.Goals as goal

pub overflow_sub-result : goal.overflow_sub-result
overflow_sub-result c = omega (arith, c.requires c.in_ok-b.b.0 c.in_ok-a.a.0 (ap quote_of c.in_ok-b.was) (ap quote_of c.in_ok-a.was))
