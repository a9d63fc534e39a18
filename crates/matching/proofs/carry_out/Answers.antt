-- `carry_out` does what the rules say. Each turn of its two loops, and each way out, is a law of Passing. Assumes nothing.
use mathlib.Core.Path.{sym, ◌∙◌}
use native.Mathlib.Omega.{arith}
use Rattle.survey.proofs.Walk.{ahead}
use Rattle.matching.proofs.Carrying.{carries}
use Rattle.matching.proofs.Passing.{Done, begun, done_as, prices_beyond, prices_full, prices_idle, prices_next, prices_none, prices_start, queue_less, queue_next, queue_place, queue_row, queue_start}
use Rattle.matching.proofs.carry_out.Goals as goal
use Rattle.matching.proofs.carry_out.Goals.{else-prices-test, then-prices-test+then-not-reaches, then-prices-test+else-not-reaches+then-loop-c-test+then-p-eq0}

pub returns-then-t-eq0 : goal.returns-then-t-eq0
returns-then-t-eq0 c = carries c.requires (prices_idle _ _ c.args.t (prices_start _ _ c.args.t c.requires) c.if-t-eq0.true)

pub prices-init : goal.prices-init
prices-init c = (prices_start _ _ _ c.requires, omega (arith, c.if-t-eq0.false))

pub loop-c-init : goal.loop-c-init
loop-c-init c = (queue_start _ _ _ c.prices.invariant.0 c.prices-test.true (rw c.opposite-makers.ensures at c.visit-at.ensures.0) c.visit-at.ensures.1 (sym c.reaches.ensures ∙ c.if-not-reaches.false), c.prices.invariant.1)

pub load-next-requires : goal.load-next-requires
load-next-requires c = (omega arith, queue_row _ _ _ c.loop-c.invariant.0 (omega arith))

pub give-p-requires : goal.give-p-requires
give-p-requires c = (queue_row _ _ _ c.loop-c.invariant.0 (omega arith), queue_place _ _ _ c.loop-c.invariant.0 (omega arith) c.loop-c.invariant.1)

pub loop-c-smaller : goal.loop-c-smaller
loop-c-smaller c = queue_less _ _ _ c.loop-c.invariant.0 (omega arith) c.loop-c.invariant.1 c.give-p.ensures.progress

pub loop-c-preserved : goal.loop-c-preserved
loop-c-preserved c = (queue_next _ _ _ c.loop-c.invariant.0 (omega arith) c.loop-c.invariant.1 c.give-p.ensures c.load-next.ensures, omega (arith, c.if-p-eq0.false))

pub prices-preserved : goal.prices-preserved
prices-preserved c = (prices_next _ _ _ c.prices.invariant.0 (omega arith) c.loop-c.invariant.0, c.loop-c.invariant.1)

-- the walk is over, by whichever way it was left
pub returns : goal.returns
returns c =
    let a = c.args in
    let o = c.prices.invariant.0 in
    let over : Done a.levels.now a.n a.t a.records.now a.fills.now (begun a.levels.now a.n a.t) (ahead a.records.now a.levels.now a.n a.t a.n)
    c.prices-test.records c.prices-test.fills c.prices-test.p =
    elim c.prices-test.branch [
      | else-prices-test w ↦ done_as _ _ _ w.records-is w.fills-is w.p-is (prices_none _ _ _ o (omega (arith, w.prices-test.false)))
      | then-prices-test+then-not-reaches w ↦
          done_as _ _ _ w.records-is w.fills-is w.p-is
          (prices_beyond _ _ _ o w.prices-test.true (rw c.opposite-makers.ensures at w.visit-at.ensures.0) w.visit-at.ensures.1 (sym w.reaches.ensures ∙ w.if-not-reaches.true))
      | then-prices-test+else-not-reaches+then-loop-c-test+then-p-eq0 w ↦
          done_as _ _ _ w.records-is w.fills-is w.p-is
          (prices_full _ _ _ o w.if-p-eq0.true (queue_next _ _ _ w.loop-c.invariant.0 (omega (arith, w.loop-c-test.true)) w.loop-c.invariant.1 w.give-p.ensures w.load-next.ensures))
    ] in
    carries c.requires over
