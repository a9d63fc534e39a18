-- Whole tapes: reading goes on behind an order; what is written for some orders reads back as them; bytes that read as orders to the end are what is written for them.
-- Assumes nothing.
use Prim.Native.Nat.{ℕ, zero, suc, ◌+◌, ◌<◌}
use mathlib.Core.Path.{◌≡◌, refl, sym, ap, ◌∙◌}
use mathlib.Core.List.{List, [], ◌∷◌, ◌++◌, append_assoc, append-nil}
use mathlib.Core.Option.{Option}
use native.Mathlib.Omega.{arith}
use native.Mathlib.Nat.{zero-add}
use lib.ListN.{length, drop, length-drop, length-append}
use lib.Seq.{drop-append_seam}
use Rattle.models.specs.declared.OrderType.{OrderType}
use Rattle.models.specs.declared.OrderType.TheVariants.{Cancel}
use Rattle.fields.specs.Bytes.{Bytes, bytes}
use Rattle.rules.specs.Rules.{first_of}
use Rattle.fields.specs.Fields.{header, field, tag_in, length_in, value_in}
use Rattle.fields.proofs.Numbers.{bytes_drop}
use Rattle.tape.specs.Orders.{order_in, checks, Item, order, refused, nothing, unless_refused, item, field_of}
use Rattle.tape.specs.Tape.{Ending, ended, stopped, Reading, ahead, ahead_all, taken, reads, read_up_to, read_from, read_tape, tape_of, AllFit, none, one}
use Rattle.tape.proofs.Forms.{ordered, Only, field_only, field_back}

-- an order takes up bytes that are there
order_taken : (l : List ℕ) (o : OrderType) (k : ℕ) → item l ≡ order o k → length (drop k l) < length l
order_taken l o k h = let p = ordered l o k h in omega (arith, length-drop k l, p.known, p.whole, p.size)

-- any number of steps above that of the bytes is enough
enough : (n m at : ℕ) (l : List ℕ) → length l < n → length l < m → read_up_to n at l ≡ read_up_to m at l
unfolding read_up_to
enough zero m at l h g = absurd (let x : ⊥ = omega arith in x)
enough (suc n) zero at l h g = absurd (let x : ⊥ = omega arith in x)
enough (suc n) (suc m) at l h g = go (item l) refl (λ a k. enough n m a k)
  where
    go : (i : Item) → item l ≡ i → ((a : ℕ) (k : List ℕ) → length k < n → length k < m → read_up_to n a k ≡ read_up_to m a k)
        → reads at i (read_up_to n (at + taken i) (drop (taken i) l)) ≡ reads at i (read_up_to m (at + taken i) (drop (taken i) l))
    go (order o k) e next = let t = order_taken l o k e in ap (ahead o) (next (at + k) (drop k l) (omega (arith, t)) (omega (arith, t)))
    go (refused x) e next = refl
    go nothing e next = refl

-- ---- reading, one item after another

read_step : (at : ℕ) (l : List ℕ) (i : Item) → item l ≡ i → read_from at l ≡ reads at i (read_up_to (length l) (at + taken i) (drop (taken i) l))
unfolding read_up_to
read_step at l i e = ap (λ (x : Item). reads at x (read_up_to (length l) (at + taken x) (drop (taken x) l))) e

pub read_order : (at : ℕ) (l : List ℕ) (o : OrderType) (k : ℕ) → item l ≡ order o k → read_from at l ≡ ahead o (read_from (at + k) (drop k l))
read_order at l o k e =
    let t = order_taken l o k e in
    read_step at l (order o k) e ∙ ap (ahead o) (enough (length l) (suc (length (drop k l))) (at + k) (drop k l) t (omega arith))

pub read_refused : (at : ℕ) (l : List ℕ) (n : ℕ) → item l ≡ refused n → read_from at l ≡ record { orders = []; ending = stopped n at }
read_refused at l n e = read_step at l (refused n) e

pub read_nothing : (at : ℕ) (l : List ℕ) → item l ≡ nothing → read_from at l ≡ record { orders = []; ending = ended }
read_nothing at l e = read_step at l nothing e

-- ---- what is written reads back

none_at_end : item [] ≡ nothing
unfolding item
none_at_end = refl

-- orders stand, whatever follows them
pub reads_on : (at : ℕ) (os : List OrderType) (l : List ℕ) → AllFit os → read_from at (tape_of os ++ l) ≡ ahead_all os (read_from (at + length (tape_of os)) l)
unfolding tape_of ahead_all
reads_on at [] l none = ap (λ (a : ℕ). read_from a l) (let z : at ≡ at + 0 = omega arith in z)
reads_on at (o ∷ os) l (one h hs) =
    let e : (field_of o ++ tape_of os) ++ l ≡ field_of o ++ (tape_of os ++ l) = append_assoc (field_of o) (tape_of os) l in
    let n : at + length (field_of o) + length (tape_of os) ≡ at + length (field_of o ++ tape_of os) = omega (arith, length-append (field_of o) (tape_of os)) in
    ap (read_from at) e
    ∙ read_order at (field_of o ++ (tape_of os ++ l)) o (length (field_of o)) (field_back o (tape_of os ++ l) h)
    ∙ ap (λ (m : List ℕ). ahead o (read_from (at + length (field_of o)) m)) (drop-append_seam (field_of o) (tape_of os ++ l))
    ∙ ap (ahead o) (reads_on (at + length (field_of o)) os l hs)
    ∙ ap (λ (a : ℕ). ahead o (ahead_all os (read_from a l))) n

all_stand : (os : List OrderType) (e : Ending) → ahead_all os (record { orders = []; ending = e }) ≡ record { orders = os; ending = e }
unfolding ahead_all
all_stand [] e = refl
all_stand (o ∷ os) e = ap (ahead o) (all_stand os e)

pub reads_back : (os : List OrderType) → AllFit os → read_tape (tape_of os) ≡ record { orders = os; ending = ended }
reads_back os h =
    ap read_tape (sym (append-nil (tape_of os))) ∙ reads_on 0 os [] h ∙ ap (ahead_all os) (read_nothing (0 + length (tape_of os)) [] none_at_end) ∙ all_stand os ended

-- orders before a bad field are read as if it were not there
pub orders_stand : (os : List OrderType) (l : List ℕ) (n : ℕ) → AllFit os → item l ≡ refused n
    → read_tape (tape_of os ++ l) ≡ record { orders = os; ending = stopped n (length (tape_of os)) }
orders_stand os l n h e =
    reads_on 0 os l h
    ∙ ap (ahead_all os) (read_refused (0 + length (tape_of os)) l n e ∙ ap (λ (i : ℕ). record { orders = []; ending = stopped n i }) (zero-add (length (tape_of os))))
    ∙ all_stand os (stopped n (length (tape_of os)))

-- ---- each order has one form

nothing_left : (l : List ℕ) → item l ≡ nothing → l ≡ []
unfolding item
nothing_left [] e = refl
nothing_left (b ∷ l) e = absurd (go (first_of (checks (b ∷ l))) (order_in (tag_in (b ∷ l)) (value_in (b ∷ l))) (header + length_in (b ∷ l)) e)
  where
    go : (a : Option ℕ) (o : OrderType) (k : ℕ) → unless_refused a (order o k) ≡ nothing → ⊥
    go Option.none o k e = let z : ◌≡◌ {A = ℕ} 0 1 = cc in omega arith
    go (Option.some n) o k e = let z : ◌≡◌ {A = ℕ} 0 1 = cc in omega arith

-- the bytes are what is written for the orders that were read
pub record Formed (l : List ℕ) (r : Reading) : Type 0 where
  pub form : l ≡ tape_of r.orders
  pub fits : AllFit r.orders

formed : (n at : ℕ) (l : List ℕ) → length l < n → Bytes l → (read_up_to n at l).ending ≡ ended → Formed l (read_up_to n at l)
unfolding read_up_to tape_of
formed zero at l h by e = absurd (let x : ⊥ = omega arith in x)
formed (suc n) at l h by e = go (item l) refl e (λ a k. formed n a k)
  where
    go : (i : Item) → item l ≡ i → (reads at i (read_up_to n (at + taken i) (drop (taken i) l))).ending ≡ ended
        → ((a : ℕ) (k : List ℕ) → length k < n → Bytes k → (read_up_to n a k).ending ≡ ended → Formed k (read_up_to n a k))
        → Formed l (reads at i (read_up_to n (at + taken i) (drop (taken i) l)))
    go (order o k) p e next =
        let t = order_taken l o k p in
        let f : Only l o k = field_only l o k by p in
        let r : Formed (drop k l) (read_up_to n (at + k) (drop k l)) = next (at + k) (drop k l) (omega (arith, t)) (bytes_drop k l by) e in
        record { form = f.form ∙ ap (λ (m : List ℕ). field_of o ++ m) r.form; fits = one f.fits r.fits }
    go (refused x) p e next = absurd (let z : ◌≡◌ {A = ℕ} 0 1 = cc in let y : ⊥ = omega arith in y)
    go nothing p e next = record { form = nothing_left l p; fits = none }

-- bytes that read as orders to the end are exactly what is written for them
pub one_form : (l : List ℕ) → Bytes l → (read_tape l).ending ≡ ended → Formed l (read_tape l)
one_form l by e = formed (suc (length l)) 0 l (omega arith) by e

-- ---- the document's example: a cancel of 7

pub cancel_of_seven : field_of (Cancel (record { 0 = 7 })) ≡ 3 ∷ 0 ∷ 8 ∷ 0 ∷ 0 ∷ 0 ∷ 0 ∷ 0 ∷ 0 ∷ 0 ∷ 7 ∷ []
unfolding field_of field bytes
cancel_of_seven = refl
