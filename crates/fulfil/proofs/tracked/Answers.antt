-- `fulfil::tracked` meets its contract. Assumes nothing.
use mathlib.Core.Logic.{inl, inr}
use Rattle.fulfil.proofs.Fulfilling.{track_fits, tracks, tracks_none}
use Rattle.fulfil.proofs.tracked.Goals as goal

pub returns-in_default : goal.returns-in_default
returns-in_default c = tracks_none c.args.t c.args.s c.args.statistics c.totals-totals.ensures c.args.last (inr c.in_default.is-1)

pub returns-in_default-2 : goal.returns-in_default-2
returns-in_default-2 c = tracks_none c.args.t c.args.s c.args.statistics c.totals-totals.ensures c.args.last (inl c.in_default.is-0)

pub traded-requires : goal.traded-requires
traded-requires c = track_fits c.args.t c.args.s c.args.statistics c.totals-totals.ensures c.requires c.in-Some-Some.filled c.in-Some-Some.is-1

pub returns : goal.returns
returns c = tracks c.args.t c.args.s c.args.statistics c.totals-totals.ensures c.args.last _ _ _ c.in-Some-Some.is-1 c.in-Some-Some.is-0 c.traded.ensures
