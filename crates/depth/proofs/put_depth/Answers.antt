-- `depth::put_depth` meets its contract: the part past the asks is written from its start. Assumes nothing.
use native.Mathlib.Omega.{arith}
use Rattle.rules.specs.Rules.{ask, bid}
use Rattle.depth.proofs.Totals.{put_sides}
use Rattle.depth.proofs.put_depth.Goals as goal

pub returns : goal.returns
returns c = λ fnd. put_sides c.args.out.now c.requires.0 c.requires.1 fnd (omega arith) (c.put_levels.ensures ask fnd) (c.put_levels-2.ensures bid fnd)
