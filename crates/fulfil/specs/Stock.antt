-- A stored book with its statistics: the rules' desk that it reads as, and what the doors know of a whole one. Assumes nothing.
use Rattle.rules.specs.Rules as rule
use Rattle.rules.specs.Whole.{WholeBook}
use Rattle.stats.specs.declared.Statistics.{Statistics}
use Rattle.stats.specs.Statistics.{statistics_of}
use Rattle.ledger.specs.Stock.{Stock}
use Rattle.ledger.specs.Desk.{Tidy, read_book}
use Rattle.whole.specs.Whole.{Lengths}

abbrev pub read_desk : Stock → Statistics → rule.Desk (Unit {0})
read_desk k st = record { book = read_book k; stats = statistics_of st }

-- the lengths, the doors' invariant, and a whole book of the rules
pub record Sound (z : rule.Size) (k : Stock) : Type 0 where
  pub lengths : Lengths z k.records k.bids k.asks k.search
  pub tidy : Tidy k
  pub orderly : WholeBook z (read_book k)
