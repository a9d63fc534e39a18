-- What an order would do, in numbers. Assumes nothing.
use Rattle.std.specs.Prelude.{ℕ, ◌*◌, ◌+◌, ◌-◌, List, [], ◌∷◌, leb, length}
use Rattle.rules.specs.Rules.{Fill, Outcome, worth}
use Rattle.rules.specs.Whole.{one}
use Rattle.records.specs.Rows.{field}
use Rattle.sums.specs.Sums.{capped, plus_of}
use Rattle.survey.specs.declared.Outlook.{Outlook}
use Rattle.survey.specs.Makers.{gift}

-- how many of these fills use their maker up
unfoldable pub wholes : List (Fill (Unit {0})) → ℕ
wholes [] = 0
wholes (f ∷ l) = one f.whole + wholes l

-- what is left of the order, how many fills it has, how many makers it uses up, and the sum of price times quantity
abbrev pub surveyed : Outcome (Unit {0}) → Outlook
surveyed o =
    record { left = record { 0 = o.rest }; fills = length o.fills; used = wholes o.fills; worth = capped (worth o.fills) }

-- the same once the maker at code c has been met besides
abbrev pub met : List ℕ → ℕ → Outlook → Outlook
met rs c s =
    let g = gift rs s.left.0 c in
    record {
      left = record { 0 = s.left.0 - g };
      fills = s.fills + 1;
      used = s.used + one (leb (field rs 1 c) s.left.0);
      worth = plus_of s.worth (capped (field rs 2 c * g));
    }
