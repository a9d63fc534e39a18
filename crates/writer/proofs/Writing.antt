-- An order that is written, and one for which room is short. Assumes nothing.
use Prim.Native.Nat.{ℕ, ◌+◌, ◌<◌}
use mathlib.Core.Path.{◌≡◌, refl, sym, ap, ◌∙◌}
use mathlib.Core.Bool.{Bool, true, false, cond}
use mathlib.Core.List.{List, [], ◌∷◌, ◌++◌}
use lib.Dec.{leb}
use lib.ListN.{length}
use borrow.Author.Tests.{le-leb, lt-leb}
use Rattle.std.specs.Prelude.{Result, Ok, Err}
use Rattle.models.specs.declared.Side.{Side}
use Rattle.models.specs.declared.Side.TheVariants.{Bid, Ask}
use Rattle.models.specs.declared.OrderType.{OrderType}
use Rattle.models.specs.declared.OrderType.TheVariants.{Market, Limit, Cancel}
use Rattle.models.specs.declared.Refusal.{Refusal}
use Rattle.models.specs.declared.Refusal.TheVariants.{ShortRoom}
use Rattle.models.specs.Readings.{side_number}
use Rattle.fields.specs.Bytes.{bytes}
use Rattle.overlay.specs.Over.{Put}
use Rattle.fields.specs.Fields.{field}
use Rattle.tape.specs.Orders.{length_of, tag_for, wish_of, value_of, field_of, written_at, written_to}
use Rattle.tape.proofs.Tags.{value_length}

abbrev answer : ℕ → Bool → Result ℕ Refusal
answer n b = cond b (Ok n) (Err ShortRoom)

pub room_short : (l : List ℕ) (at : ℕ) (o : OrderType) → length l < at + length (field_of o) → (Err ShortRoom ≡ written_at l at o) × (l ≡ written_to l at o)
room_short l at o h =
    let e : leb (at + length (field_of o)) (length l) ≡ false = lt-leb _ _ h in
    (ap (answer (at + length (field_of o))) (sym e), rw e)

pub was_written : (l : List ℕ) (at : ℕ) (o : OrderType) (l' : List ℕ) (r : ℕ) → Put l at (field_of o) l' r → (Ok r ≡ written_at l at o) × (l' ≡ written_to l at o)
was_written l at o l' r p =
    let e : leb (at + length (field_of o)) (length l) ≡ true = le-leb _ _ p.fits in
    (ap Ok p.next ∙ ap (answer (at + length (field_of o))) (sym e), p.laid ∙ rw e)

-- ---- a tag and a side take one byte

one_byte : (o : OrderType) → bytes 1 (tag_for o) ≡ tag_for o ∷ []
unfolding bytes
one_byte (Market id side qty) = refl
one_byte (Limit id side qty price) = refl
one_byte (Cancel id) = refl

pub field_is : (o : OrderType) (t n : ℕ) → t ≡ tag_for o → n ≡ length_of t → (bytes 1 t ++ bytes 2 n) ++ value_of o ≡ field_of o
unfolding field_of field
field_is o t n e f =
    ap (λ (x : ℕ). (bytes 1 x ++ bytes 2 n) ++ value_of o) e
    ∙ ap (λ (x : List ℕ). (x ++ bytes 2 n) ++ value_of o) (one_byte o)
    ∙ ap (λ (x : ℕ). tag_for o ∷ (bytes 2 x ++ value_of o)) (f ∙ ap length_of e ∙ sym (value_length o))

pub wish_is : (i : ℕ) (s : Side) (q : ℕ) → bytes 8 i ++ (bytes 1 (side_number s) ++ bytes 8 q) ≡ wish_of i s q
unfolding bytes
wish_is i Bid q = refl
wish_is i Ask q = refl
