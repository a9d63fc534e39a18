-- What a call's answer leaves in numbers: the result n, and the lent numbers (d of the desk, an of the answer) as they stand afterwards. An accepted call
-- returns 0; after a refusal they are as they were, and the result is its number. Assumes nothing.
use Rattle.std.specs.Prelude.{ℕ, cond, ◌≡◌, ◌<◌, ◌≤◌, List, eqb, Option, Some, None, Result, Ok, Err}
use Rattle.models.specs.declared.BookDepth.{BookDepth}
use Rattle.models.specs.declared.OrderEvent.{OrderEvent}
use Rattle.models.specs.declared.OrderType.{OrderType}
use Rattle.models.specs.declared.OrderType.TheVariants.{Market, Limit}
use Rattle.models.specs.declared.Price.{Price}
use Rattle.models.specs.declared.Refusal.{Refusal}
use Rattle.models.specs.declared.Refusal.TheVariants.{WrongSide}
use Rattle.models.specs.declared.Side.{Side}
use Rattle.models.specs.declared.Side.TheVariants.{Bid, Ask}
use Rattle.models.specs.Readings.{refusal_number}
use Rattle.stats.specs.declared.Statistics.{Statistics}
use Rattle.ledger.specs.declared.OrderBook.{OrderBook}
use Rattle.depth.specs.declared.Lookup.{Lookup}
use Rattle.numbers.specs.Numbers.{numbers_of, event_as_numbers, quote_as_numbers, depth_as_numbers, look_as_numbers}

-- a side's number: 0 bid, 1 ask (an export refuses any above 1)
abbrev pub side_in : ℕ → Side
side_in n = cond (eqb n 0) Bid Ask

-- an order by its side: a limit order where it has a price, else a market order
abbrev pub order_in : ℕ → ℕ → Option ℕ → Side → OrderType
order_in id qty None s = Market (record { 0 = id }) s (record { 0 = qty })
order_in id qty (Some p) s = Limit (record { 0 = id }) s (record { 0 = qty }) (record { 0 = p })

-- the order o by the side of the number
pub data OrderOf (o : Side → OrderType) (side : ℕ) (r : Result OrderType Refusal) : Type 0 where
  neither : 1 < side → r ≡ Err WrongSide → OrderOf o side r
  taken : side ≤ 1 → r ≡ Ok (o (side_in side)) → OrderOf o side r

-- an answer whose value x is f x in numbers
pub data Told {X : Type 0} (f : X → List ℕ) (an : List ℕ) (a : Result X Refusal) (n : ℕ) (an' : List ℕ) : Type 0 where
  refused : (e : Refusal) → a ≡ Err e → n ≡ refusal_number e → an' ≡ an → Told f an a n an'
  told : (x : X) → a ≡ Ok x → n ≡ 0 → an' ≡ f x → Told f an a n an'

-- an order or a cancel: after the answer a with the small values b and st
pub data Reported (d an : List ℕ) (a : Result OrderEvent Refusal) (b : OrderBook) (st : Statistics) (n : ℕ) (d' an' : List ℕ) : Type 0 where
  refused : (e : Refusal) → a ≡ Err e → n ≡ refusal_number e → d' ≡ d → an' ≡ an → Reported d an a b st n d' an'
  done : (e : OrderEvent) → a ≡ Ok e → n ≡ 0 → d' ≡ numbers_of b st → an' ≡ event_as_numbers e → Reported d an a b st n d' an'

-- the lowest ask, the highest bid, the spread
abbrev pub Quotes : List ℕ → Result (Option Price) Refusal → ℕ → List ℕ → Type 0
Quotes = Told quote_as_numbers

-- depth
abbrev pub Depths : List ℕ → Result BookDepth Refusal → ℕ → List ℕ → Type 0
Depths = Told depth_as_numbers

-- the search for an order
abbrev pub LookReported : List ℕ → Result Lookup Refusal → ℕ → List ℕ → Type 0
LookReported = Told (λ look. look_as_numbers look.found look.count)

-- a fresh book, with the small values b
pub data Opens (d : List ℕ) (a : Result Statistics Refusal) (b : OrderBook) (n : ℕ) (d' : List ℕ) : Type 0 where
  refused : (e : Refusal) → a ≡ Err e → n ≡ refusal_number e → d' ≡ d → Opens d a b n d'
  made : (st : Statistics) → a ≡ Ok st → n ≡ 0 → d' ≡ numbers_of b st → Opens d a b n d'
