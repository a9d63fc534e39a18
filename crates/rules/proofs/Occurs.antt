-- Demand 3's histories do occur, and its promise is tight: in the call that takes X away the answers may differ. Assumes nothing.
use Prim.Native.Nat.{ℕ, zero, suc}
use mathlib.Core.Path.{◌≡◌, refl}
use mathlib.Core.Bool.{Bool, true, false}
use mathlib.Core.List.Memᴰ
use mathlib.Core.List.{[], ◌∷◌}
use Rattle.rules.specs.Rules.{bid, ask, market, limit, Taker, Order, order, partially_filled, filled, done, hall}
use Rattle.rules.specs.Rules.{keep, matching, place, only, levels, occupied, total, worth, last_price, last_quantity, stats_after, too_large, outcome, checks, first_of, refusal, carried, perform, end}
use Rattle.rules.specs.Late.{Histories, start, shared, enters_x, extra, answer_to, marked, plain}

-- X bids 5 at 10; one more bids 3 at 10 behind it; then 6 are sold: X leaves, and from there on the answers differ
pub x_bid : Taker (Unit {0})
x_bid = record { side = bid; kind = limit 10; id = 1; quantity = 5; room = 4; tag = tt }

pub late_bid : Taker (Unit {0})
late_bid = record { side = bid; kind = limit 10; id = 9; quantity = 3; room = 4; tag = tt }

pub sale : Taker (Unit {0})
sale = record { side = ask; kind = market; id = 2; quantity = 6; room = 4; tag = tt }

pub shareds : ℕ → Bool
shareds zero = false
shareds (suc zero) = true
shareds (suc (suc zero)) = true
shareds (suc (suc (suc n))) = false

x : Order Bool
x = record { id = 1; quantity = 5; price = 10; found = true; tag = true }

pub two_histories : Histories hall shareds true (plain (order sale) ∷ order (marked true x_bid) ∷ []) (plain (order sale) ∷ order (marked false late_bid) ∷ order (marked true x_bid) ∷ [])
unfolding x_bid late_bid sale shareds x end keep matching place only levels occupied total worth last_price last_quantity stats_after too_large outcome checks refusal carried first_of perform
two_histories = shared (extra (enters_x start x_bid refl refl) late_bid 10 x refl refl (Memᴰ.head refl) refl refl) (order sale) refl refl

pub they_differ : answer_to hall (order (marked true x_bid) ∷ []) (plain (order sale)) ≡ done (partially_filled 2 5 1) (record { taker = 2; maker = 1; quantity = 5; price = 10; side = ask; whole = true; tag = true } ∷ [])
unfolding x_bid sale end keep matching place only levels occupied total worth last_price last_quantity stats_after too_large outcome checks refusal carried first_of perform
they_differ = refl

pub from_each_other : answer_to hall (order (marked false late_bid) ∷ order (marked true x_bid) ∷ []) (plain (order sale))
    ≡ done (filled 2 6 2) (
    record { taker = 2; maker = 1; quantity = 5; price = 10; side = ask; whole = true; tag = true } ∷
    record { taker = 2; maker = 9; quantity = 1; price = 10; side = ask; whole = false; tag = false } ∷
    [])
unfolding x_bid late_bid sale end keep matching place only levels occupied total worth last_price last_quantity stats_after too_large outcome checks refusal carried first_of perform
from_each_other = refl
