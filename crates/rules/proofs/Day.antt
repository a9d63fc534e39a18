-- The whole table holds, by computation. Assumes nothing.
use mathlib.Core.Path.{◌≡◌, refl}
use lib.Ieee.{round, units, size, odd, span, climb}
use Rattle.rules.specs.Rules.{fresh, keep, matching, place, only, levels, occupied, lookup, total, worth, last_price, last_quantity, average}
use Rattle.rules.specs.Rules.{stats_after, too_large, outcome, checks, refusal, carried, first_of, perform, any_above, reply}
use Rattle.rules.specs.Table.{replayed, table}

pub day : replayed fresh table ≡ table
unfolding replayed table keep matching place only levels occupied lookup total worth last_price last_quantity average stats_after too_large outcome checks refusal carried first_of perform any_above reply round units size odd span climb
day = refl
