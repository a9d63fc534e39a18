-- What each exported call answers and leaves, through the contract of the call of `orderbook` of that name: the numbers lent are read, the call is
-- carried out, and what it answers is written back where it is accepted. A refusal's number leaves everything lent as it was. Assumes nothing.
use Rattle.std.specs.Prelude.{ℕ, ◌≤◌, ◌<◌, ◌≡◌, List, Option, Result}
use Rattle.std.proofs.Math.Option as maybe
use Rattle.rules.specs.Rules as rule
use Rattle.models.specs.declared.BookDepth.{BookDepth}
use Rattle.models.specs.declared.OrderEvent.{OrderEvent}
use Rattle.models.specs.declared.OrderType.{OrderType}
use Rattle.models.specs.declared.Price.{Price}
use Rattle.models.specs.declared.Refusal.{Refusal}
use Rattle.models.specs.declared.Side.{Side}
use Rattle.stats.specs.declared.Statistics.{Statistics}
use Rattle.models.specs.Readings.{call_of}
use Rattle.rows.specs.Rows.{fill_row, places}
use Rattle.ledger.specs.declared.OrderBook.{OrderBook}
use Rattle.ledger.specs.Stock.{stock}
use Rattle.whole.specs.Whole.{WholeStorage}
use Rattle.depth.specs.declared.Lookup.{Lookup}
use Rattle.calls.specs.Calls.{Executes, Makes}
use Rattle.questions.specs.Questions.{Tells, Shows, Finds}
use Rattle.numbers.specs.Numbers.{book_in, statistics_in}
use Rattle.numbers.specs.Reports.{side_in, Reported, Quotes, Depths, LookReported, Opens}

-- ---- orders and cancels

pub record Carried (c : rule.Call (Unit {0})) (d rs bd ak se out an : List ℕ) (n : ℕ) (d' rs' bd' ak' se' out' an' : List ℕ) : Type 0 where
  pub answer : Result OrderEvent Refusal
  pub book : OrderBook
  pub statistics : Statistics
  pub executes : Executes rule.hall c (stock (book_in d) rs bd ak se) (statistics_in d) out answer (stock book rs' bd' ak' se') statistics out'
  pub reported : Reported d an answer book statistics n d' an'

-- a side's number above 1 gets 10 and nothing changes
pub data Sided (side n : ℕ) (Same : Type 0) (Does : Side → Type 0) : Type 0 where
  neither : 1 < side → n ≡ 10 → Same → Sided side n Same Does
  taken : side ≤ 1 → (s : Side) → s ≡ side_in side → Does s → Sided side n Same Does

-- what felavuti_market and felavuti_limit promise: o is the order by its side
abbrev pub Ordered : (Side → OrderType) → ℕ → (d rs bd ak se out an : List ℕ) → ℕ → (d' rs' bd' ak' se' out' an' : List ℕ) → Type 0
Ordered o side d rs bd ak se out an n d' rs' bd' ak' se' out' an' =
    Sided side n ((d' ≡ d) × (rs' ≡ rs) × (bd' ≡ bd) × (ak' ≡ ak) × (se' ≡ se) × (out' ≡ out) × (an' ≡ an))
    (λ s. Carried (call_of (places fill_row out) (o s)) d rs bd ak se out an n d' rs' bd' ak' se' out' an')

-- ---- questions

pub record Asked (f : rule.Book (Unit {0}) → maybe.Option ℕ) (d rs bd ak se an : List ℕ) (n : ℕ) (an' : List ℕ) : Type 0 where
  pub answer : Result (Option Price) Refusal
  pub tells : Tells rule.hall f (stock (book_in d) rs bd ak se) answer
  pub reported : Quotes an answer n an'

pub record Deepened (l : ℕ) (d rs bd ak se out an : List ℕ) (n : ℕ) (out' an' : List ℕ) : Type 0 where
  pub answer : Result BookDepth Refusal
  pub shows : Shows rule.hall l (stock (book_in d) rs bd ak se) out answer out'
  pub reported : Depths an answer n an'

pub record Sought (i : ℕ) (d rs bd ak se an : List ℕ) (n : ℕ) (an' : List ℕ) : Type 0 where
  pub answer : Result Lookup Refusal
  pub finds : Finds rule.hall i (stock (book_in d) rs bd ak se) answer
  pub reported : LookReported an answer n an'

-- ---- a fresh book

pub record OpenedAs (d rs bd ak se : List ℕ) (n : ℕ) (d' rs' bd' ak' se' : List ℕ) : Type 0 where
  pub answer : Result Statistics Refusal
  pub book : OrderBook
  pub makes : Makes rule.hall (stock (book_in d) rs bd ak se) answer (stock book rs' bd' ak' se')
  pub reported : Opens d answer book n d'

-- ---- is it whole?

-- the result n of the check at the size z
pub data Checked (z : rule.Size) (d rs bd ak se : List ℕ) (n : ℕ) : Type 0 where
  whole : WholeStorage z (book_in d) rs bd ak se → n ≡ 0 → Checked z d rs bd ak se n
  broken : (WholeStorage z (book_in d) rs bd ak se → ⊥) → n ≡ 1 → Checked z d rs bd ak se n
