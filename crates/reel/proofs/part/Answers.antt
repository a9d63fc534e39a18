-- `reel::part` meets its contract. Assumes nothing.
use borrow.Author.Rules.{rules}
use mathlib.Core.Path.{refl, ◌∙◌}
use Rattle.ledger.proofs.Lending.{relent_on}
use Rattle.reel.proofs.Along.{begun, asks, onward, lessens, parted}
use Rattle.reel.proofs.part.Goals as goal

pub loop-size-init : goal.loop-size-init
loop-size-init c = record { relent = search rules; lent = refl; along = begun c.requires.0 c.requires.1 c.requires.3 }

pub step-turn-requires : goal.step-turn-requires
step-turn-requires c = asks c.loop-size.invariant.along c.loop-size-test.true c.goes_on.ensures c.requires.2 c.requires.4

pub loop-size-smaller : goal.loop-size-smaller
loop-size-smaller c = lessens c.loop-size.invariant.along c.loop-size-test.true c.goes_on.ensures c.step-turn.ensures.step

pub loop-size-preserved : goal.loop-size-preserved
loop-size-preserved c =
    let v = c.loop-size.invariant in
    let t = c.step-turn.ensures in
    record { relent = relent_on v.relent t.relent; lent = t.lent ∙ v.lent; along = onward v.along c.loop-size-test.true c.goes_on.ensures t.step }

pub returns-clause-part : goal.returns-clause-part
returns-clause-part c = parted c.loop-size.invariant.along c.loop-size-test.false c.goes_on.ensures
