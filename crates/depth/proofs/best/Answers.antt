-- `depth::best` meets its contract: the row whose turn is first has the best price. Assumes nothing.
use native.Mathlib.Omega.{arith}
use mathlib.Core.Option.{some}
use mathlib.Core.Path.{ap, ◌∙◌}
use Rattle.models.specs.Readings.{side_of}
use Rattle.arena.specs.Links.{price_of}
use Rattle.depth.proofs.Prices.{best_row}
use Rattle.depth.proofs.best.Goals as goal

pub returns : goal.returns
returns c = λ rs fnd s. ap (λ k. some (price_of c.args.levels.now k)) c.visit.ensures.0 ∙ best_row (side_of c.args.side) fnd s (omega arith)
