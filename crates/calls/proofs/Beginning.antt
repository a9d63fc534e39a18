-- How a fresh book comes to its contract. Assumes nothing.
use mathlib.Core.Path.{◌≡◌}
use mathlib.Core.List.{[]}
use Rattle.rules.specs.Rules as rule
use Rattle.stats.specs.declared.Statistics.{Statistics}
use Rattle.stats.specs.Statistics.{statistics_of}
use Rattle.ledger.specs.declared.StoredBook.{StoredBook}
use Rattle.ledger.specs.Stock.{Relent, stock_of}
use Rattle.ledger.specs.Desk.{LeavesAs}
use Rattle.whole.specs.Whole.{Lengths}
use Rattle.fulfil.proofs.Fulfilling.{lengths_last}
use Rattle.whole.proofs.Join.{fresh_whole}
use Rattle.calls.specs.Calls.{Begins}

-- what is made fresh
pub begins : {z : rule.Size} {a b : StoredBook} {st : Statistics} → (let k = stock_of a in Lengths z k.records k.bids k.asks k.search) → Relent a b
    → LeavesAs (record { bids = []; asks = [] }) (stock_of b) → statistics_of st ≡ (rule.fresh {A = Unit {0}}).stats → Begins z (stock_of b) st
begins {z} l r v s = record {
  whole = fresh_whole (lengths_last r z l) v;
  desk = λ i. record { book = v.book i; stats = s i };
}
