-- `survey` comes to what the rules say the order would do. Each turn of its two loops, and each way out, is a law of Walk. Assumes nothing.
use mathlib.Core.Path.{ap, sym, ◌∙◌}
use Rattle.rules.specs.Rules.{Side}
use Rattle.side.specs.Prices.{row_in_turn}
use native.Mathlib.Omega.{arith}
use Rattle.sums.specs.Sums.{capped}
use Rattle.survey.proofs.Walk.{along_done, along_start, prices_beyond, prices_none, queue_done, queue_full, queue_less, queue_next, queue_row, queue_start}
use Rattle.survey.proofs.survey.Goals as goal

pub returns-then-t-eq0 : goal.returns-then-t-eq0
unfolding capped
returns-then-t-eq0 c = along_done _ _ _ c.args.t c.requires c.if-t-eq0.true (along_start _ _ _ c.args.t c.requires)

pub prices-init : goal.prices-init
unfolding capped
prices-init c = (omega arith, along_start _ _ _ _ c.requires, omega (arith, c.if-t-eq0.false))

pub loop-c-init : goal.loop-c-init
loop-c-init c = (queue_start _ _ _ _ c.requires c.prices.invariant.0 c.prices-test.true (c.visit-at.ensures.0 ∙ ap (λ (v : Side). row_in_turn v c.args.n c.prices.k) c.opposite-makers.ensures) c.visit-at.ensures.1 (sym c.reaches.ensures ∙ c.if-not-reaches.false) c.prices.invariant.1, c.prices.invariant.2)

pub meet-s-requires : goal.meet-s-requires
meet-s-requires c = (queue_row _ _ _ _ c.requires (omega arith) c.loop-c.invariant.0, c.loop-c.invariant.1, omega (arith, c.loop-c.invariant.0.along.count), c.loop-c.invariant.0.along.fewer)

pub load-c-requires : goal.load-c-requires
load-c-requires c = (omega arith, queue_row _ _ _ _ c.requires (omega arith) c.loop-c.invariant.0)

pub loop-c-smaller : goal.loop-c-smaller
loop-c-smaller c = rw c.meet-s.ensures (queue_less _ _ _ _ c.requires (omega arith) c.loop-c.invariant.0 c.loop-c.invariant.1)

pub loop-c-preserved : goal.loop-c-preserved
loop-c-preserved c = (rw (c.load-c.ensures, c.meet-s.ensures) (queue_next _ _ _ _ c.requires (omega arith) c.loop-c.invariant.0 c.loop-c.invariant.1), omega (arith, c.if-s-eq0.false))

pub prices-preserved : goal.prices-preserved
prices-preserved c = (omega arith, queue_done _ _ _ _ c.requires (omega arith) c.loop-c.invariant.0, c.loop-c.invariant.1)

pub returns-after-prices : goal.returns-after-prices
returns-after-prices c = prices_none _ _ _ _ c.requires c.prices.invariant.0 (omega arith) c.prices.invariant.1

pub returns-then-not-reaches : goal.returns-then-not-reaches
returns-then-not-reaches c = prices_beyond _ _ _ _ c.requires c.prices.invariant.0 c.prices-test.true (c.visit-at.ensures.0 ∙ ap (λ (v : Side). row_in_turn v c.args.n c.prices.k) c.opposite-makers.ensures) c.visit-at.ensures.1 (sym c.reaches.ensures ∙ c.if-not-reaches.true) c.prices.invariant.1

pub returns-then-s-eq0 : goal.returns-then-s-eq0
returns-then-s-eq0 c = rw c.meet-s.ensures (queue_full _ _ _ _ c.requires (rw c.meet-s.ensures at c.if-s-eq0.true) (queue_next _ _ _ _ c.requires (omega arith) c.loop-c.invariant.0 c.loop-c.invariant.1))
