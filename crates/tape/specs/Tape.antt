-- What a tape reads as, and the tape that is written for some orders. Assumes nothing.
use Rattle.std.specs.Prelude.{ℕ, zero, suc, ◌+◌, ◌-◌, ◌<◌, ◌^◌, ◌≡◌, List, [], ◌∷◌, ◌++◌, length, take, drop, Ok}
use Rattle.models.specs.declared.OrderType.{OrderType}
use Rattle.models.specs.declared.OrderType.TheVariants.{Market, Limit, Cancel}
use Rattle.tape.specs.Orders.{Item, order, refused, nothing, item, field_of, written_at, written_to}

-- a tape is read to its end, or to a bad field: its refusal's number and its offset
pub data Ending : Type 0 where
  ended : Ending
  stopped : ℕ → ℕ → Ending

pub record Reading : Type 0 where
  pub orders : List OrderType
  pub ending : Ending

-- an order, and then what is read behind it
abbrev pub ahead : OrderType → Reading → Reading
ahead o r = record { orders = o ∷ r.orders; ending = r.ending }

-- some orders, and then what is read behind them
unfoldable pub ahead_all : List OrderType → Reading → Reading
ahead_all [] r = r
ahead_all (o ∷ os) r = ahead o (ahead_all os r)

-- how many bytes an item takes up
abbrev pub taken : Item → ℕ
taken (order o k) = k
taken (refused n) = 0
taken nothing = 0

-- what is read from an item at the offset `at`, if r is read behind it
abbrev pub reads : ℕ → Item → Reading → Reading
reads at (order o k) r = ahead o r
reads at (refused n) r = record { orders = []; ending = stopped n at }
reads at nothing r = record { orders = []; ending = ended }

-- The first n items of the bytes l, which begin at the offset `at`. An order takes up three bytes or more, so as many items as there are bytes are enough
-- (proofs/Tapes says it without n).
unfoldable pub read_up_to : ℕ → ℕ → List ℕ → Reading
read_up_to zero at l = record { orders = []; ending = ended }
read_up_to (suc n) at l = let r = read_up_to n (at + taken (item l)) (drop (taken (item l)) l) in reads at (item l) r

abbrev pub read_from : ℕ → List ℕ → Reading
read_from at l = read_up_to (suc (length l)) at l

-- the whole tape
abbrev pub read_tape : List ℕ → Reading
read_tape l = read_from 0 l

-- the tape of some orders
unfoldable pub tape_of : List OrderType → List ℕ
tape_of [] = []
tape_of (o ∷ os) = field_of o ++ tape_of os

-- every number of an order is one that the desk has
abbrev pub Narrow : ℕ → Type 0
Narrow n = n < 2 ^ 64

abbrev pub Fits : OrderType → Type 0
Fits (Market id side qty) = Narrow id.0 × Narrow qty.0
Fits (Limit id side qty price) = Narrow id.0 × Narrow qty.0 × Narrow price.0
Fits (Cancel id) = Narrow id.0

pub data AllFit : List OrderType → Type 0 where
  none : AllFit []
  one : {o : OrderType} {os : List OrderType} → Fits o → AllFit os → AllFit (o ∷ os)

-- Orders written one after another into the list l from the place `at` on, none of them refused: what stands afterwards, and the place behind the last.
pub data Wrote : List ℕ → ℕ → List OrderType → List ℕ → ℕ → Type 0 where
  begun : {l : List ℕ} {at : ℕ} → Wrote l at [] l at
  further : {l l' : List ℕ} {at next behind : ℕ} {o : OrderType} {os : List OrderType} → written_at l at o ≡ Ok next
      → Wrote (written_to l at o) next os l' behind → Wrote l at (o ∷ os) l' behind

-- the bytes between two places
abbrev pub between : List ℕ → ℕ → ℕ → List ℕ
between l at behind = take (behind - at) (drop at l)
