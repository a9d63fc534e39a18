-- `stats::Statistics::too_large` meets its contract: the tests, one after another, are the definition's. Assumes nothing.
use Rattle.std.proofs.Common.{◌≡◌, Bool, true, false, ◌&&◌, refl, arith, lt-ltb}
use borrow.Author.Tests.{not-true, not-false}
use Rattle.stats.specs.Statistics.{over_of}
use mathlib.Core.Logic.{⊎_elim}
use Rattle.sums.proofs.Capped.{capped_small}
use Rattle.stats.proofs.Recording.{none_is}
use Rattle.stats.proofs.Statistics.too_large.Goals as goal

no_fills : (b : Bool) → false ≡ b && false
no_fills true = refl
no_fills false = refl

pub returns-then-not-self : goal.returns-then-not-self
unfolding over_of
returns-then-not-self c =
    ⊎_elim (λ e. rw (not-true c.args.self.tracking e)) (λ e. rw e.1 (no_fills c.args.self.tracking)) c.then-not-self.either

pub returns-then-is_none : goal.returns-then-is_none
unfolding over_of
returns-then-is_none c =
    rw (not-false c.args.self.tracking c.if-not-self.false, lt-ltb 0 c.args.fills (omega arith), ← none_is c.args.totals.worth _ c.is_none.ensures, c.if-is_none.true)

pub returns-else-is_none : goal.returns-else-is_none
unfolding over_of
returns-else-is_none c =
    rw (
      not-false c.args.self.tracking c.if-not-self.false,
      lt-ltb 0 c.args.fills (omega arith),
      ← none_is c.args.totals.worth _ c.is_none.ensures,
      c.if-is_none.false,
      capped_small c.args.self.volume.0 (omega arith),
      ← c.plus.ensures,
    )
    (none_is c.plus.result _ c.is_none-else-is_none.ensures)
