-- An order as six numbers, a slip: kind (1 market, 2 limit, 3 cancel; 0 the end of a tape), id, side (0 bid, 1 ask), quantity, price, and the place
-- behind its field. What reading and writing a field by a slip answer and leave. Assumes nothing.
use Rattle.std.specs.Prelude.{ℕ, ◌+◌, Bool, not, ◌&&◌, ◌||◌, cond, List, [], ◌∷◌, eqb, ltb, length, get_or, set, Result, Ok, Err}
use Rattle.std.proofs.Math.Option.{Option, none, some}
use Rattle.rules.specs.Rules.{first_of}
use Rattle.models.specs.declared.Id.{Id}
use Rattle.models.specs.declared.Quantity.{Quantity}
use Rattle.models.specs.declared.Side.{Side}
use Rattle.models.specs.declared.OrderType.{OrderType}
use Rattle.models.specs.declared.OrderType.TheVariants.{Market, Limit, Cancel}
use Rattle.models.specs.declared.Refusal.{Refusal}
use Rattle.models.specs.Readings.{side_number, refusal_number}
use Rattle.tape.specs.Orders.{market_tag, limit_tag, cancel_tag, side_by, field_of, fits, Read, entry, fault, no_more, read_at, written_to}

-- the number of a refusal, or 0; and the slip afterwards
pub record Outcome : Type 0 where
  pub code : ℕ
  pub slip : List ℕ

-- what an answer says where the slip s was lent: it is the caller's own, and a refusal leaves it as it was
abbrev pub outcome_of : List ℕ → Result (List ℕ) Refusal → Outcome
outcome_of s (Ok s') = record { code = 0; slip = s' }
outcome_of s (Err e) = record { code = refusal_number e; slip = s }

-- ---- reading

-- an order with the place behind it; a number that its kind doesn't have is 0
abbrev pub slip_for : OrderType → ℕ → List ℕ
slip_for (Market id side qty) next = market_tag ∷ id.0 ∷ side_number side ∷ qty.0 ∷ 0 ∷ next ∷ []
slip_for (Limit id side qty price) next = limit_tag ∷ id.0 ∷ side_number side ∷ qty.0 ∷ price.0 ∷ next ∷ []
slip_for (Cancel id) next = cancel_tag ∷ id.0 ∷ 0 ∷ 0 ∷ 0 ∷ next ∷ []

-- no order: the end
abbrev pub end_slip : ℕ → List ℕ
end_slip at = 0 ∷ 0 ∷ 0 ∷ 0 ∷ 0 ∷ at ∷ []

-- the slip s was lent, and x stands at the place: 0 and a slip anew, or the number of the refusal and the slip as it was
abbrev pub told : ℕ → List ℕ → Read → Outcome
told at s (entry o next) = record { code = 0; slip = slip_for o next }
told at s (fault n offset) = record { code = n; slip = s }
told at s no_more = record { code = 0; slip = end_slip at }

abbrev pub read_by : List ℕ → ℕ → List ℕ → Outcome
read_by l at s = told at s (read_at l at)

-- ---- writing

abbrev pub kind_of : List ℕ → ℕ
kind_of s = get_or s 0 0

-- the order of a slip whose kind is 1, 2 or 3; numbers that the kind doesn't have, and the place, are not looked at
abbrev pub order_of : List ℕ → OrderType
order_of s =
    let id : Id = record { 0 = get_or s 1 0 } in
    let side : Side = side_by (get_or s 2 0) in
    let qty : Quantity = record { 0 = get_or s 3 0 } in
    cond (eqb (kind_of s) market_tag) (Market id side qty) (cond (eqb (kind_of s) limit_tag) (Limit id side qty (record { 0 = get_or s 4 0 })) (Cancel id))

-- there is no such kind; the kind has a side, and it is above 1
abbrev pub no_kind : List ℕ → Bool
no_kind s = ltb (kind_of s) market_tag || ltb cancel_tag (kind_of s)

abbrev pub no_side : List ℕ → Bool
no_side s = not (eqb (kind_of s) cancel_tag) && ltb 1 (get_or s 2 0)

-- the checks before a slip is written at a place, in the order in which they are made
unfoldable pub refusal : List ℕ → ℕ → List ℕ → Option ℕ
refusal l at s = first_of ((8, no_kind s) ∷ (10, no_side s) ∷ (19, not (fits l at (order_of s))) ∷ [])

-- what is answered: 0 and the slip with the place behind the field, or the number of the refusal and the slip as it was
abbrev pub answered : ℕ → List ℕ → Option ℕ → Outcome
answered at s none = record { code = 0; slip = set s 5 (at + length (field_of (order_of s))) }
answered at s (some n) = record { code = n; slip = s }

abbrev pub written_by : List ℕ → ℕ → List ℕ → Outcome
written_by l at s = answered at s (refusal l at s)

-- the bytes afterwards
abbrev pub changed : List ℕ → ℕ → List ℕ → Option ℕ → List ℕ
changed l at s none = written_to l at (order_of s)
changed l at s (some n) = l

abbrev pub bytes_by : List ℕ → ℕ → List ℕ → List ℕ
bytes_by l at s = changed l at s (refusal l at s)
