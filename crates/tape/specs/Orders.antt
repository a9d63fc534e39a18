-- An order as a field, and what stands at a place of a tape: an order, a refusal by its number, or nothing. Assumes nothing.
use Rattle.std.specs.Prelude.{ℕ, ◌+◌, ◌≡◌, Bool, not, ◌&&◌, cond, List, [], ◌∷◌, ◌++◌, eqb, ltb, leb, length, get_or, drop, Option, None, Some, Result, Ok, Err}
use Rattle.std.proofs.Math.Option as maybe
use Rattle.rules.specs.Rules.{first_of}
use Rattle.models.specs.declared.Id.{Id}
use Rattle.models.specs.declared.Quantity.{Quantity}
use Rattle.models.specs.declared.Price.{Price}
use Rattle.models.specs.declared.Side.{Side}
use Rattle.models.specs.declared.Side.TheVariants.{Bid, Ask}
use Rattle.models.specs.declared.OrderType.{OrderType}
use Rattle.models.specs.declared.OrderType.TheVariants.{Market, Limit, Cancel}
use Rattle.models.specs.declared.Refusal.{Refusal}
use Rattle.models.specs.declared.Refusal.TheVariants as refusal
use Rattle.models.specs.Readings.{side_number, refusal_number}
use Rattle.fields.specs.Bytes.{number, bytes}
use Rattle.overlay.specs.Over.{over}
use Rattle.fields.specs.Fields.{header, field, tag_in, length_in, value_in, stump, cut_off}
use Rattle.tape.specs.declared.Kind.{Kind}
use Rattle.tape.specs.declared.Kind.TheVariants as kind
use Rattle.tape.specs.declared.Entry.{Entry}
use Rattle.tape.specs.declared.Fault.{Fault}

-- ---- tags and values

-- the kinds of order
abbrev pub market_tag : ℕ
market_tag = 1

abbrev pub limit_tag : ℕ
limit_tag = 2

abbrev pub cancel_tag : ℕ
cancel_tag = 3

abbrev pub tag_of : Kind → ℕ
tag_of kind.Market = market_tag
tag_of kind.Limit = limit_tag
tag_of kind.Cancel = cancel_tag

-- the length of an order's value by its tag; 0 where no order has the tag
unfoldable pub length_of : ℕ → ℕ
length_of t = cond (eqb t market_tag) 17 (cond (eqb t limit_tag) 25 (cond (eqb t cancel_tag) 8 0))

-- a number is the tag of a kind, or no order's: refusal 8
abbrev pub IsKindOf : ℕ → Result Kind Refusal → Type 0
IsKindOf n (Ok k) = n ≡ tag_of k
IsKindOf n (Err e) = (e ≡ refusal.UnknownTag) × (length_of n ≡ 0)

-- no field is longer than a limit order's
abbrev pub longest_field : ℕ
longest_field = header + 25

-- a value is an id, and but for a cancel a side, a quantity, and for a limit order a price
abbrev pub id_in : List ℕ → Id
id_in v = record { 0 = number 8 v }

abbrev pub side_byte : List ℕ → ℕ
side_byte v = get_or v 8 0

-- the side of a number that is 0 or 1
abbrev pub side_by : ℕ → Side
side_by n = cond (eqb n 0) Bid Ask

abbrev pub side_in : List ℕ → Side
side_in v = side_by (side_byte v)

abbrev pub quantity_in : List ℕ → Quantity
quantity_in v = record { 0 = number 8 (drop 9 v) }

abbrev pub price_in : List ℕ → Price
price_in v = record { 0 = number 8 (drop 17 v) }

-- the order of a tag and a value
unfoldable pub order_in : ℕ → List ℕ → OrderType
order_in t v =
    cond (eqb t market_tag) (Market (id_in v) (side_in v) (quantity_in v))
    (cond (eqb t limit_tag) (Limit (id_in v) (side_in v) (quantity_in v) (price_in v)) (Cancel (id_in v)))

-- ---- reading

-- the kind has a side, and its byte is above 1 (a cancel has none: what stands there belongs to the next field)
abbrev pub odd_side : ℕ → List ℕ → Bool
odd_side t v = not (eqb t cancel_tag) && ltb 1 (side_byte v)

-- the checks of a field that begins the bytes l, in the order in which they are made
unfoldable pub checks : List ℕ → List (ℕ × Bool)
checks l =
    (11, stump l) ∷
    (8, eqb (length_of (tag_in l)) 0) ∷
    (9, not (eqb (length_in l) (length_of (tag_in l)))) ∷
    (11, cut_off l) ∷
    (10, odd_side (tag_in l) (value_in l)) ∷
    []

-- an order with the number of bytes that it takes up, the number of a refusal, or the end
pub data Item : Type 0 where
  order : OrderType → ℕ → Item
  refused : ℕ → Item
  nothing : Item

abbrev pub unless_refused : maybe.Option ℕ → Item → Item
unless_refused maybe.none x = x
unless_refused (maybe.some n) x = refused n

-- what begins the bytes l
unfoldable pub item : List ℕ → Item
item [] = nothing
item (b ∷ l) = unless_refused (first_of (checks (b ∷ l))) (order (order_in (tag_in (b ∷ l)) (value_in (b ∷ l))) (header + length_in (b ∷ l)))

-- the same at a place: an order with the place behind it, a refusal with the place of its field; past the end there is nothing
pub data Read : Type 0 where
  entry : OrderType → ℕ → Read
  fault : ℕ → ℕ → Read
  no_more : Read

abbrev pub found : ℕ → Item → Read
found at (order o k) = entry o (at + k)
found at (refused n) = fault n at
found at nothing = no_more

abbrev pub read_at : List ℕ → ℕ → Read
read_at l at = found at (item (drop at l))

-- what a reader's answer says
abbrev pub read_of : Result (Option Entry) Fault → Read
read_of (Ok (Some e)) = entry e.order e.next
read_of (Ok None) = no_more
read_of (Err f) = fault (refusal_number f.refusal) f.place

-- ---- writing

abbrev pub tag_for : OrderType → ℕ
tag_for (Market id side qty) = market_tag
tag_for (Limit id side qty price) = limit_tag
tag_for (Cancel id) = cancel_tag

-- id, side and quantity
abbrev pub wish_of : ℕ → Side → ℕ → List ℕ
wish_of id side qty = bytes 8 id ++ side_number side ∷ bytes 8 qty

abbrev pub value_of : OrderType → List ℕ
value_of (Market id side qty) = wish_of id.0 side qty.0
value_of (Limit id side qty price) = wish_of id.0 side qty.0 ++ bytes 8 price.0
value_of (Cancel id) = bytes 8 id.0

-- the one form of an order
unfoldable pub field_of : OrderType → List ℕ
field_of o = field (tag_for o) (value_of o)

-- there is room for it from a place on
abbrev pub fits : List ℕ → ℕ → OrderType → Bool
fits l at o = leb (at + length (field_of o)) (length l)

-- what is answered, and what stands afterwards: refusal 19 and no change where room is short
abbrev pub written_at : List ℕ → ℕ → OrderType → Result ℕ Refusal
written_at l at o = cond (fits l at o) (Ok (at + length (field_of o))) (Err refusal.ShortRoom)

abbrev pub written_to : List ℕ → ℕ → OrderType → List ℕ
written_to l at o = cond (fits l at o) (over l at (field_of o)) l
