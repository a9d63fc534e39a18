use Rattle.std.proofs.Common.{◌≡◌}
use Rattle.rows.specs.Rows.{fill_row, listed}
use Rattle.stats.specs.Statistics.{totals_of}
use Rattle.stats.proofs.summed.Given as goal

abbrev pub invariant-loop-i : goal.invariant-loop-i
invariant-loop-i l = l.t ≡ totals_of (listed fill_row l.fills l.i)
