-- What each public call that makes or changes a book answers and leaves, on any input at all: through the rules' `perform` at the desk that the lent
-- storage reads as. Assumes nothing.
use Rattle.std.specs.Prelude.{ℕ, ◌≡◌, List, [], Result}
use Rattle.rules.specs.Rules as rule
use Rattle.models.specs.declared.OrderEvent.{OrderEvent}
use Rattle.models.specs.declared.Refusal.{Refusal}
use Rattle.models.specs.Readings.{Reading, number, reading_of, value}
use Rattle.stats.specs.declared.Statistics.{Statistics}
use Rattle.ledger.specs.declared.OrderBook.{OrderBook}
use Rattle.ledger.specs.Stock.{Stock}
use Rattle.whole.specs.Whole.{WholeStock, Lengths}
use Rattle.desk.specs.Stock.{read_desk}
use Rattle.desk.specs.Performs.{Performs, answer_of}

-- ---- orders, cancels

-- The whole contract of a call: 1 where the stored book isn't whole, and else as the rules say, which leaves a whole book.
pub data Executes (z : rule.Size) (c : rule.Call (Unit {0})) (k : Stock) (st : Statistics) (out : List ℕ)
    (a : Result OrderEvent Refusal) (k' : Stock) (st' : Statistics) (out' : List ℕ) : Type 0 where
  broken : (WholeStock z k → ⊥) → answer_of a [] ≡ rule.Answer.refused 1 → k' ≡ k → st' ≡ st → out' ≡ out → Executes z c k st out a k' st' out'
  performed : WholeStock z k → Performs (WholeStock z) z c k st out a k' st' out' → Executes z c k st out a k' st' out'

-- A cancel changes no statistics and lends no place for fills.
abbrev pub Cancels : rule.Size → ℕ → Stock → Result OrderEvent Refusal → Stock → Type 0
Cancels z id k a k' = (st : Statistics) → Executes z (rule.cancel id) k st [] a k' st []

-- ---- a fresh book

-- the small values of a fresh book: those of the stored book b that was lent, and the statistics
abbrev pub opening_of : OrderBook → Result Statistics Refusal → Reading (OrderBook × Statistics)
opening_of b a = reading_of (λ (st : Statistics). (b, st)) a

-- it is whole, and reads as the rules' fresh desk
pub record Begins (z : rule.Size) (k : Stock) (st : Statistics) : Type 0 where
  pub whole : WholeStock z k
  pub desk : read_desk k st ≡ rule.fresh

-- storage of the right lengths is taken whatever it holds; other lengths get 1 and stay unchanged
pub data Makes (z : rule.Size) (k : Stock) (a : Result Statistics Refusal) (k' : Stock) : Type 0 where
  short : (Lengths z k.records k.bids k.asks k.search → ⊥) → opening_of k'.book a ≡ number 1 → k' ≡ k → Makes z k a k'
  made : Lengths z k.records k.bids k.asks k.search → (st : Statistics) → opening_of k'.book a ≡ value (k'.book, st) → Begins z k' st → Makes z k a k'
