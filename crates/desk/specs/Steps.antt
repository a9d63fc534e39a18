-- What the steps of an order ask of the stored book, and what they tell. Assumes nothing.
use Rattle.std.specs.Prelude.{ℕ, ◌≡◌, Bool, List, Option, Some, Ok}
use Rattle.rules.specs.Rules as rule
use Rattle.models.specs.declared.OrderEvent.TheVariants.{Canceled}
use Rattle.stats.specs.declared.Statistics.{Statistics}
use Rattle.models.specs.declared.Id.{Id}
use Rattle.models.specs.declared.Price.{Price}
use Rattle.side.specs.Orders.{orders_in}
use Rattle.ledger.specs.declared.OrderBook.{OrderBook}
use Rattle.ledger.specs.Stock.{Stock}
use Rattle.ledger.specs.Desk.{stored_book}
use Rattle.depth.specs.Sides.{Standing}
use Rattle.survey.specs.Makers.{CanMatch}
use Rattle.fulfil.specs.Fulfils.{no_row}
use Rattle.desk.specs.Stock.{Sound}
use Rattle.desk.specs.Performs.{Performs}

-- both sides can be matched
pub record Matchable (b : OrderBook) (rs bd ak : List ℕ) : Type 0 where
  pub bids : CanMatch rs bd b.bids
  pub asks : CanMatch rs ak b.asks

-- r says whether the price p is new to the side stored in lv, which has no row left of `most`
abbrev pub Crowds : ℕ → ℕ → List ℕ → ℕ → Bool → Type 0
Crowds most p lv n r = (rs : List ℕ) (sd : rule.Side) (fnd : ℕ → Bool) → Standing rs lv n → r ≡ no_row most p (orders_in sd rs fnd lv n)

-- r says so of a price `at`, if there is one, on the side sd
abbrev pub CrowdsOn : ℕ → rule.Side → Option Price → OrderBook → List ℕ → List ℕ → Bool → Type 0
CrowdsOn most sd at b bd ak r = (p : Price) → at ≡ Some p → (rs se : List ℕ) → Standing rs bd b.bids → Standing rs ak b.asks
    → r ≡ no_row most p.0 (rule.own sd (stored_book rs bd ak se b.bids b.asks))

-- ## A cancel

-- a stock that is sound at some size
pub record Held (k : Stock) : Type 0 where
  pub size : rule.Size
  pub sound : Sound size k

-- the order found under the id has left, as the rules say
pub record Withdraws (id : Id) (k k' : Stock) : Type 0 where
  pub performs : (z : rule.Size) (st : Statistics) (out : List ℕ) → Sound z k
      → Performs (Sound z) z (rule.cancel id.0) k st out (Ok (Canceled id)) k' st out
