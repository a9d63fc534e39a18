-- `stats::Statistics::recorded` meets its contract: each way out is one law of Recording, from what the callees ensure. Assumes nothing.
use Rattle.std.proofs.Common.{arith, inl, inr}
use Rattle.stats.proofs.Recording.{ends_refused, ends_none, ends_untraded, ends_fits, ends_new}
use Rattle.stats.proofs.Statistics.recorded.Goals as goal

pub returns-then-too_large : goal.returns-then-too_large
returns-then-too_large c = ends_refused _ _ _ _ c.counted-n.ensures.0 _ c.summed-totals.ensures _ c.too_large.ensures c.if-too_large.true

pub returns-then-n-eq0 : goal.returns-then-n-eq0
returns-then-n-eq0 c = ends_none _ _ _ _ c.counted-n.ensures.0 _ c.summed-totals.ensures _ c.too_large.ensures c.if-too_large.false c.if-n-eq0.true

pub returns-in_default : goal.returns-in_default
returns-in_default c = ends_untraded _ _ _ _ c.counted-n.ensures.0 _ c.summed-totals.ensures _ c.too_large.ensures c.if-too_large.false (inr c.in_default.is-1)

pub returns-in_default-2 : goal.returns-in_default-2
returns-in_default-2 c = ends_untraded _ _ _ _ c.counted-n.ensures.0 _ c.summed-totals.ensures _ c.too_large.ensures c.if-too_large.false (inl c.in_default.is-0)

pub traded-requires : goal.traded-requires
traded-requires c = ends_fits c.args.self _ _ _ c.counted-n.ensures.0 _ c.summed-totals.ensures _ c.too_large.ensures c.if-too_large.false _ c.in-Some-Some.is-1

pub returns : goal.returns
returns c = ends_new _ _ _ _ c.counted-n.ensures.0 _ c.summed-totals.ensures _ c.too_large.ensures c.if-too_large.false c.at-last.result _ _ _ (omega arith) c.at-last.ensures c.in-Some-Some.is-1 c.in-Some-Some.is-0 c.traded.ensures
