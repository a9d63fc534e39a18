-- `stats::Totals::none` meets its contract: no fills, no sums. Assumes nothing.
use Rattle.rules.specs.Rules.{worth, total}
use Rattle.stats.specs.Statistics.{totals_of}
use Rattle.sums.specs.Sums.{capped}
use Rattle.stats.proofs.Totals.none.Goals as goal

pub returns : goal.returns
unfolding totals_of worth total capped
returns c = cc
