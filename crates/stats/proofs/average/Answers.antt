-- `models::stats::average` meets its contract: the quotient of the two nearest doubles. Assumes nothing.
use Rattle.rules.specs.Rules.{average}
use Rattle.stats.proofs.average.Goals as goal

pub returns : goal.returns
unfolding average
returns c = cc
