-- `questions::depth` meets its contract: 6 and 7 by the rules' tests on the levels, and else the levels of both sides. Assumes nothing.
use native.Mathlib.Omega.{arith}
use mathlib.Core.Path.{refl}
use Rattle.rules.specs.Rules as rule
use Rattle.ledger.specs.Desk.{found}
use Rattle.whole.proofs.Join.{whole_desk}
use Rattle.depth.proofs.Desk.{standing_bids, standing_asks, fitting}
use Rattle.questions.specs.Questions.{refused, shown}
use Rattle.questions.proofs.Answering.{depth_short, asks_large, bids_large, depth_shown, told_counts, large_at, small_at}
use Rattle.questions.proofs.depth.Goals.{then-not-totals_fit-via-then-not-totals_fit, then-not-totals_fit-via-else-not-totals_fit+then-not-totals_fit-2}
use Rattle.questions.proofs.depth.Goals as goal

pub returns-then-places-na : goal.returns-then-places-na
returns-then-places-na c = let w = c.in_ok-known.ensures in refused w 6 (λ st. depth_short (whole_desk w) _ _ st (omega (arith, c.places.ensures))) refl refl

pub totals_fit-requires : goal.totals_fit-requires
totals_fit-requires c = standing_asks (whole_desk c.in_ok-known.ensures)

pub totals_fit-requires-else-not-totals_fit : goal.totals_fit-requires-else-not-totals_fit
totals_fit-requires-else-not-totals_fit c = standing_bids (whole_desk c.in_ok-known.ensures)

pub returns-then-not-totals_fit : goal.returns-then-not-totals_fit
returns-then-not-totals_fit c =
    let w = c.in_ok-known.ensures in
    let fnd = found c.args.view.search.now c.args.view.records.now in
    refused w 7 (λ st. elim c.then-not-totals_fit.branch [
      | then-not-totals_fit-via-then-not-totals_fit v ↦ asks_large (whole_desk w) _ _ st (omega (arith, c.places.ensures)) (large_at (c.totals_fit.ensures rule.ask fnd) v.if-not-totals_fit.true)
      | then-not-totals_fit-via-else-not-totals_fit+then-not-totals_fit-2 v ↦
          bids_large (whole_desk w) _ _ st (omega (arith, c.places.ensures)) (small_at (c.totals_fit.ensures rule.ask fnd) v.if-not-totals_fit.false) (large_at (v.totals_fit-else-not-totals_fit.ensures rule.bid fnd) v.if-not-totals_fit-2.true)
    ]) refl refl

pub put_depth-requires : goal.put_depth-requires
put_depth-requires c =
    let d = whole_desk c.in_ok-known.ensures in
    (standing_bids d, standing_asks d, fitting c.totals_fit-else-not-totals_fit.ensures c.if-not-totals_fit-2.false, fitting c.totals_fit.ensures c.if-not-totals_fit.false, omega (arith, c.places.ensures))

pub returns : goal.returns
returns c =
    let w = c.in_ok-known.ensures in
    let fnd = found c.args.view.search.now c.args.view.records.now in
    shown w _ _ (λ st. depth_shown (whole_desk w) _ _ st (omega (arith, c.places.ensures)) (small_at (c.totals_fit.ensures rule.ask fnd) c.if-not-totals_fit.false) (small_at (c.totals_fit-else-not-totals_fit.ensures rule.bid fnd) c.if-not-totals_fit-2.false))
    (told_counts (whole_desk w) _) (c.put_depth.ensures fnd)
