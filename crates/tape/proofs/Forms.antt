-- One field: what is written for an order reads as it, and bytes that read as an order are what is written for it. Assumes nothing.
use Prim.Native.Nat.{ℕ, suc, ◌+◌, ◌^◌, ◌≤◌, ◌<◌}
use mathlib.Core.Path.{◌≡◌, refl, sym, ap, subst, ◌∙◌}
use mathlib.Core.Bool.{Bool, true, false, not, ◌&&◌, cond}
use mathlib.Core.List.{List, [], ◌∷◌, ◌++◌, append_assoc}
use native.Mathlib.Omega.{arith}
use lib.Dec.{eqb, ltb}
use lib.ListN.{length, get_or, take, drop, length-append, length-drop, take-append-drop}
use lib.Seq.{drop_at, get_or_at, drop-cons, take-add}
use borrow.Author.Tests.{le-ltb, ltb-false, eqb-true, eqb-false, ne_eqb}
use Rattle.rules.specs.Rules.{first_of}
use Rattle.models.specs.declared.Side.{Side}
use Rattle.models.specs.declared.Side.TheVariants.{Bid, Ask}
use Rattle.models.specs.declared.OrderType.{OrderType}
use Rattle.models.specs.declared.OrderType.TheVariants.{Market, Limit, Cancel}
use Rattle.models.specs.Readings.{side_number}
use Rattle.fields.specs.Bytes.{Bytes, number, bytes}
use Rattle.fields.specs.Fields.{header, field, tag_in, length_in, value_in, stump, cut_off}
use Rattle.fields.proofs.Numbers.{bytes_length, number_bytes, bytes_number, number_below, bytes_drop}
use Rattle.tape.specs.Orders.{length_of, side_byte, side_in, order_in, Item, order, unless_refused, item, tag_for, wish_of, value_of, field_of}
use Rattle.tape.specs.Tape.{Fits}
use Rattle.tape.proofs.Tags.{Tagged, market, limit, cancel, unknown, tagged, length_market, length_limit, length_cancel, wish_length, value_length, value_most, field_length, order_market, order_limit, order_cancel}
use Rattle.tape.proofs.Items.{odd_in, results, meant, judged, item_order}

-- ---- what is written reads back

side_back : (s : Side) → cond (eqb (side_number s) 0) Bid Ask ≡ s
side_back Bid = refl
side_back Ask = refl

side_small : (s : Side) → ltb 1 (side_number s) ≡ false
side_small Bid = refl
side_small Ask = refl

-- the parts of a wish, whatever follows it
module _ (i : ℕ) (s : Side) (q : ℕ) (r : List ℕ) where
  wish_is : wish_of i s q ++ r ≡ bytes 8 i ++ (side_number s ∷ (bytes 8 q ++ r))
  wish_is = append_assoc (bytes 8 i) (side_number s ∷ bytes 8 q) r

  wish_id : i < 2 ^ 64 → number 8 (wish_of i s q ++ r) ≡ i
  wish_id h = ap (number 8) wish_is ∙ number_bytes 8 i (side_number s ∷ (bytes 8 q ++ r)) h

  wish_side : side_byte (wish_of i s q ++ r) ≡ side_number s
  wish_side = ap side_byte wish_is ∙ get_or_at (bytes 8 i) (side_number s) (bytes 8 q ++ r) 0 8 (bytes_length 8 i)

  wish_behind : drop 9 (wish_of i s q ++ r) ≡ bytes 8 q ++ r
  wish_behind =
      ap (drop 9) (wish_is ∙ sym (append_assoc (bytes 8 i) (side_number s ∷ []) (bytes 8 q ++ r)))
      ∙ drop_at (bytes 8 i ++ (side_number s ∷ [])) (bytes 8 q ++ r) 9 (omega (arith, length-append (bytes 8 i) (side_number s ∷ []), bytes_length 8 i))

  wish_quantity : q < 2 ^ 64 → number 8 (drop 9 (wish_of i s q ++ r)) ≡ q
  wish_quantity h = ap (number 8) wish_behind ∙ number_bytes 8 q r h

  wish_rest : drop 17 (wish_of i s q ++ r) ≡ r
  wish_rest = drop_at (wish_of i s q) r 17 (wish_length i s q)

pub same_market : {i j q r : ℕ} {s t : Side} → i ≡ j → s ≡ t → q ≡ r → Market (record { 0 = i }) s (record { 0 = q }) ≡ Market (record { 0 = j }) t (record { 0 = r })
same_market a b c = cc

pub same_limit : {i j q r p u : ℕ} {s t : Side} → i ≡ j → s ≡ t → q ≡ r → p ≡ u → Limit (record { 0 = i }) s (record { 0 = q }) (record { 0 = p }) ≡ Limit (record { 0 = j }) t (record { 0 = r }) (record { 0 = u })
same_limit a b c d = cc

pub same_cancel : {i j : ℕ} → i ≡ j → Cancel (record { 0 = i }) ≡ Cancel (record { 0 = j })
same_cancel a = cc

-- an order's value says the order, whatever follows it, and its side is one
order_back : (o : OrderType) (r : List ℕ) → Fits o → order_in (tag_for o) (value_of o ++ r) ≡ o
order_back (Market id side qty) r h =
    let a = wish_id id.0 side qty.0 r h.0 in
    let b = ap (λ (n : ℕ). cond (eqb n 0) Bid Ask) (wish_side id.0 side qty.0 r) ∙ side_back side in
    let c = wish_quantity id.0 side qty.0 r h.1 in
    order_market 1 (wish_of id.0 side qty.0 ++ r) refl ∙ same_market a b c
order_back (Limit id side qty price) r h =
    let e = append_assoc (wish_of id.0 side qty.0) (bytes 8 price.0) r in
    let a = wish_id id.0 side qty.0 (bytes 8 price.0 ++ r) h.0 in
    let b = ap (λ (n : ℕ). cond (eqb n 0) Bid Ask) (wish_side id.0 side qty.0 (bytes 8 price.0 ++ r)) ∙ side_back side in
    let c = wish_quantity id.0 side qty.0 (bytes 8 price.0 ++ r) h.1 in
    let d = ap (number 8) (wish_rest id.0 side qty.0 (bytes 8 price.0 ++ r)) ∙ number_bytes 8 price.0 r h.2 in
    rw e (order_limit 2 (wish_of id.0 side qty.0 ++ (bytes 8 price.0 ++ r)) refl ∙ same_limit a b c d)
order_back (Cancel id) r h = order_cancel 3 (bytes 8 id.0 ++ r) refl ∙ same_cancel (number_bytes 8 id.0 r h)

odd_back : (o : OrderType) (r : List ℕ) → not (eqb (tag_for o) 3) && ltb 1 (side_byte (value_of o ++ r)) ≡ false
odd_back (Market id side qty) r = ap (ltb 1) (wish_side id.0 side qty.0 r) ∙ side_small side
odd_back (Limit id side qty price) r =
    ap (λ (v : List ℕ). ltb 1 (side_byte v)) (append_assoc (wish_of id.0 side qty.0) (bytes 8 price.0) r) ∙ ap (ltb 1) (wish_side id.0 side qty.0 (bytes 8 price.0 ++ r)) ∙ side_small side
odd_back (Cancel id) r = refl

module _ (o : OrderType) (r : List ℕ) where
  parts : field_of o ++ r ≡ tag_for o ∷ (bytes 2 (length (value_of o)) ++ (value_of o ++ r))
  unfolding field_of field
  parts = ap (λ (l : List ℕ). tag_for o ∷ l) (append_assoc (bytes 2 (length (value_of o))) (value_of o) r)

  small : length (value_of o) < 65536
  small = omega (arith, value_length o, value_most (tag_for o))

  said : length_in (field_of o ++ r) ≡ length_of (tag_for o)
  said = ap length_in parts ∙ number_bytes 2 (length (value_of o)) (value_of o ++ r) small ∙ value_length o

  value : value_in (field_of o ++ r) ≡ value_of o ++ r
  value = ap value_in parts ∙ drop_at (bytes 2 (length (value_of o))) (value_of o ++ r) 2 (bytes_length 2 (length (value_of o)))

  tag : tag_in (field_of o ++ r) ≡ tag_for o
  tag = ap tag_in parts

  long : length (field_of o ++ r) ≡ 3 + length_of (tag_for o) + length r
  long = omega (arith, length-append (field_of o) r, field_length o)

-- no order's value is empty
filled : (o : OrderType) → 0 < length_of (tag_for o)
filled (Market id side qty) = omega (arith, length_market)
filled (Limit id side qty price) = omega (arith, length_limit)
filled (Cancel id) = omega (arith, length_cancel)

-- what is written for an order reads as it, whatever follows it
pub field_back : (o : OrderType) (r : List ℕ) → Fits o → item (field_of o ++ r) ≡ order o (length (field_of o))
field_back o r h =
    let m = field_of o ++ r in
    let t : tag_in (field_of o ++ r) ≡ tag_for o = tag o r in
    let n : length_of (tag_in (field_of o ++ r)) ≡ length_of (tag_for o) = ap length_of t in
    let d : not (eqb (tag_in (field_of o ++ r)) 3) && ltb 1 (side_byte (value_in (field_of o ++ r))) ≡ false = rw (t, value o r) (odd_back o r) in
    item_order (field_of o ++ r) (omega (arith, long o r)) (le-ltb (length (field_of o ++ r)) 3 (omega (arith, long o r))) (λ e. let x : ⊥ = omega (arith, e, n, filled o) in x) (said o r ∙ sym n)
    (le-ltb (length (field_of o ++ r)) (header + length_in (field_of o ++ r)) (omega (arith, long o r, said o r))) d
    ∙ rw (t, value o r, said o r, order_back o r h) (ap (order o) (sym (field_length o)))

-- ---- bytes that read as an order are what is written for it

-- an order was read: every test was passed
record Passed (a b c d e : Bool) (x : Item) (o : OrderType) (k : ℕ) : Type 0 where
  whole : a ≡ false
  known : b ≡ false
  right : c ≡ false
  uncut : d ≡ false
  sided : e ≡ false
  meaning : x ≡ order o k

passed : (a b c d e : Bool) (x : Item) (o : OrderType) (k : ℕ) → unless_refused (first_of (results a b c d e)) x ≡ order o k → Passed a b c d e x o k
unfolding first_of
passed true b c d e x o k h = absurd (let z : ◌≡◌ {A = ℕ} 0 1 = cc in let y : ⊥ = omega arith in y)
passed false true c d e x o k h = absurd (let z : ◌≡◌ {A = ℕ} 0 1 = cc in let y : ⊥ = omega arith in y)
passed false false true d e x o k h = absurd (let z : ◌≡◌ {A = ℕ} 0 1 = cc in let y : ⊥ = omega arith in y)
passed false false false true e x o k h = absurd (let z : ◌≡◌ {A = ℕ} 0 1 = cc in let y : ⊥ = omega arith in y)
passed false false false false true x o k h = absurd (let z : ◌≡◌ {A = ℕ} 0 1 = cc in let y : ⊥ = omega arith in y)
passed false false false false false x o k h = record { whole = refl; known = refl; right = refl; uncut = refl; sided = refl; meaning = h }

-- what is known of bytes that read as an order
pub record Ordered (l : List ℕ) (o : OrderType) (k : ℕ) : Type 0 where
  pub known : 0 < length_of (tag_in l)
  pub right : length_in l ≡ length_of (tag_in l)
  pub whole : 3 + length_of (tag_in l) ≤ length l
  pub sided : odd_in l ≡ false
  pub says : o ≡ order_in (tag_in l) (value_in l)
  pub size : k ≡ 3 + length_of (tag_in l)

not_not : (b : Bool) → not b ≡ false → b ≡ true
not_not true h = refl
not_not false h = absurd (let z : ◌≡◌ {A = ℕ} 0 1 = cc in let y : ⊥ = omega arith in y)

pub ordered : (l : List ℕ) (o : OrderType) (k : ℕ) → item l ≡ order o k → Ordered l o k
unfolding item
ordered [] o k h = absurd (let z : ◌≡◌ {A = ℕ} 0 1 = cc in let y : ⊥ = omega arith in y)
ordered (b ∷ l) o k h =
    let p = passed (stump (b ∷ l)) (eqb (length_of b) 0) (not (eqb (length_in (b ∷ l)) (length_of b))) (cut_off (b ∷ l)) (odd_in (b ∷ l)) (meant (b ∷ l)) o k (sym (judged (b ∷ l) (omega arith)) ∙ h) in
    let r : length_in (b ∷ l) ≡ length_of b = eqb-true (length_in (b ∷ l)) (length_of b) (not_not _ p.right) in
    let w : 3 + length_in (b ∷ l) ≤ length (b ∷ l) = ltb-false (length (b ∷ l)) (3 + length_in (b ∷ l)) p.uncut in
    let n : length_of b ≡ 0 → ⊥ = eqb-false (length_of b) 0 p.known in
    let q = p.meaning in
    record {
      known = omega (arith, n);
      right = r;
      whole = omega (arith, w, r);
      sided = p.sided;
      says = cc (q);
      size = let z : 3 + length_in (b ∷ l) ≡ k = cc (q) in omega (arith, z, r);
    }

-- the byte of a side is the side's number
side_is : (n : ℕ) → ltb 1 n ≡ false → side_number (cond (eqb n 0) Bid Ask) ≡ n
side_is n h = go (eqb n 0) refl
  where
    go : (b : Bool) → eqb n 0 ≡ b → side_number (cond b Bid Ask) ≡ n
    go true e = sym (eqb-true n 0 e)
    go false e = omega (arith, eqb-false n 0 e, ltb-false 1 n h)

module _ (v : List ℕ) (by : Bytes v) where
  wish_only : 17 ≤ length v → ltb 1 (side_byte v) ≡ false → wish_of (number 8 v) (side_in v) (number 8 (drop 9 v)) ≡ take 17 v
  wish_only h s =
      let a : bytes 8 (number 8 v) ≡ take 8 v = bytes_number 8 v by (omega arith) in
      let b : bytes 8 (number 8 (drop 9 v)) ≡ take 8 (drop 9 v) = bytes_number 8 (drop 9 v) (bytes_drop 9 v by) (omega (arith, length-drop 9 v)) in
      let c : side_number (side_in v) ≡ side_byte v = side_is (side_byte v) s in
      let d : take 9 (drop 8 v) ≡ get_or v 8 0 ∷ take 8 (drop 9 v) = ap (take 9) (drop-cons v 8 0 (omega arith)) in
      rw (a, b, c) (sym (take-add 8 9 v ∙ ap (λ (x : List ℕ). take 8 v ++ x) d))

  limit_only : 25 ≤ length v → ltb 1 (side_byte v) ≡ false → wish_of (number 8 v) (side_in v) (number 8 (drop 9 v)) ++ bytes 8 (number 8 (drop 17 v)) ≡ take 25 v
  limit_only h s =
      let b : bytes 8 (number 8 (drop 17 v)) ≡ take 8 (drop 17 v) = bytes_number 8 (drop 17 v) (bytes_drop 17 v by) (omega (arith, length-drop 17 v)) in
      rw (wish_only (omega arith) s, b) (sym (take-add 17 8 v))

  id_fits : number 8 v < 2 ^ 64
  id_fits = number_below 8 v by

  quantity_fits : number 8 (drop 9 v) < 2 ^ 64
  quantity_fits = number_below 8 (drop 9 v) (bytes_drop 9 v by)

  price_fits : number 8 (drop 17 v) < 2 ^ 64
  price_fits = number_below 8 (drop 17 v) (bytes_drop 17 v by)

-- the order that a value says has this value, and its numbers fit
pub record Said (t : ℕ) (v : List ℕ) (o : OrderType) : Type 0 where
  pub tag : tag_for o ≡ t
  pub value : value_of o ≡ take (length_of t) v
  pub fits : Fits o

is_side : (t n : ℕ) → (t ≡ 3 → ⊥) → not (eqb t 3) && ltb 1 n ≡ false → ltb 1 n ≡ false
is_side t n h e = ap (λ (b : Bool). not b && ltb 1 n) (sym (ne_eqb t 3 h)) ∙ e

said_is : (t : ℕ) (v : List ℕ) → Bytes v → 0 < length_of t → length_of t ≤ length v → not (eqb t 3) && ltb 1 (side_byte v) ≡ false → Said t v (order_in t v)
said_is t v by known h s = go (tagged t)
  where
    go : Tagged t → Said t v (order_in t v)
    go (market e l) =
        rw (order_market t v e) (record {
          tag = sym e;
          value = wish_only v by (omega arith) (is_side t (side_byte v) (λ z. let x : ⊥ = omega arith in x) s) ∙ ap (λ (n : ℕ). take n v) (sym l);
          fits = (id_fits v by, quantity_fits v by);
        })
    go (limit e l) =
        rw (order_limit t v e) (record {
          tag = sym e;
          value = limit_only v by (omega arith) (is_side t (side_byte v) (λ z. let x : ⊥ = omega arith in x) s) ∙ ap (λ (n : ℕ). take n v) (sym l);
          fits = (id_fits v by, quantity_fits v by, price_fits v by);
        })
    go (cancel e l) =
        rw (order_cancel t v e) (record { tag = sym e; value = bytes_number 8 v by (omega arith) ∙ ap (λ (n : ℕ). take n v) (sym l); fits = id_fits v by })
    go (unknown l) = absurd (let x : ⊥ = omega arith in x)

-- the bytes that were read are what is written for the order, which has numbers that fit
pub record Only (l : List ℕ) (o : OrderType) (k : ℕ) : Type 0 where
  pub form : l ≡ field_of o ++ drop k l
  pub fits : Fits o
  pub long : k ≡ length (field_of o)

pub field_only : (l : List ℕ) (o : OrderType) (k : ℕ) → Bytes l → item l ≡ order o k → Only l o k
unfolding item field_of field
field_only [] o k by h = absurd (let z : ◌≡◌ {A = ℕ} 0 1 = cc in let y : ⊥ = omega arith in y)
field_only (b ∷ l) o k by h =
    let p : Ordered (b ∷ l) o k = ordered (b ∷ l) o k h in
    let by' : Bytes l = bytes_drop 1 (b ∷ l) by in
    let s : Said b (drop 2 l) (order_in b (drop 2 l)) = said_is b (drop 2 l) (bytes_drop 2 l by') p.known (omega (arith, length-drop 2 l, p.whole)) p.sided in
    let e : o ≡ order_in b (drop 2 l) = p.says in
    let q : Said b (drop 2 l) o = subst (Said b (drop 2 l)) (sym e) s in
    let n : length (value_of o) ≡ length_in (b ∷ l) = value_length o ∙ ap length_of q.tag ∙ sym p.right in
    let two : bytes 2 (length (value_of o)) ≡ take 2 l = ap (bytes 2) n ∙ bytes_number 2 l by' (omega (arith, p.whole)) in
    let f : tag_for o ∷ (bytes 2 (length (value_of o)) ++ value_of o) ≡ b ∷ take (2 + length_of b) l = rw (q.tag, two, q.value) (ap (λ (x : List ℕ). b ∷ x) (sym (take-add 2 (length_of b) l))) in
    let d : drop k (b ∷ l) ≡ drop (2 + length_of b) l = ap (λ (j : ℕ). drop j (b ∷ l)) (let z : k ≡ suc (2 + length_of b) = omega (arith, p.size) in z) in
    record {
      form = ap (λ (x : List ℕ). b ∷ x) (sym (take-append-drop (2 + length_of b) l))
          ∙ ap (λ (x : List ℕ). (b ∷ take (2 + length_of b) l) ++ x) (sym d)
          ∙ ap (λ (x : List ℕ). x ++ drop k (b ∷ l)) (sym f);
      fits = q.fits;
      long = omega (arith, p.size, field_length o, ap length_of q.tag);
    }
