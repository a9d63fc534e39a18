-- What stands at a place of a tape whose field has its tag and length, by the tests that the reader makes. Assumes nothing.
use Prim.Native.Nat.{ℕ, ◌+◌, ◌-◌, ◌≤◌, ◌<◌}
use mathlib.Core.Path.{◌≡◌, sym, ap, ◌∙◌}
use mathlib.Core.Bool.{true, false}
use mathlib.Core.List.{List}
use native.Mathlib.Omega.{arith}
use lib.ListN.{length, drop, length-drop}
use lib.Seq.{drop-drop}
use borrow.Author.Tests.{lt-ltb, le-ltb, ltb-false}
use Rattle.std.specs.Prelude.{Ok, Err, Some, Result}
use Rattle.std.specs.Result.{IsErrAnd}
use Rattle.fields.specs.declared.Header.{Header}
use Rattle.fields.specs.Fields.{header, tag_in, length_in, value_in, cut_off, front_of}
use Rattle.tape.specs.Orders.{length_of, order_in, odd_side, entry, fault, found, read_at}
use Rattle.tape.proofs.Items.{Headed, headed, odd_in, item_unknown, item_length, item_cut, item_side, item_order}

-- a refusal that is passed on
pub passed_on : {T E : Type 0} (r : Result T E) (x : E) → IsErrAnd r (λ y. y ≡ x) → r ≡ Err x
passed_on (Ok v) x h = absurd h
passed_on (Err y) x h = ap Err h

module _ (l : List ℕ) (at : ℕ) (f : Header) (front : Ok (Some f) ≡ front_of (drop at l)) where
  h : Headed (drop at l) f.tag f.length
  h = headed (drop at l) f front

  pub header_fits : at + 3 ≤ length l
  header_fits = omega (arith, length-drop at l, ltb-false (length (drop at l)) 3 h.whole)

  -- the value, and what is known of tag and length
  value : value_in (drop at l) ≡ drop (at + 3) l
  value = drop-drop 3 at l

  size : length_of f.tag ≡ length_of (tag_in (drop at l))
  size = ap length_of h.tag

  odd : odd_in (drop at l) ≡ odd_side f.tag (drop (at + 3) l)
  odd = rw (← h.tag, value)

  pub read_unknown : length_of f.tag ≡ 0 → read_at l at ≡ fault 8 at
  read_unknown e = ap (found at) (item_unknown (drop at l) h.some h.whole (sym size ∙ e))

  module _ (b : length_of f.tag ≡ 0 → ⊥) where
    known : length_of (tag_in (drop at l)) ≡ 0 → ⊥
    known e = b (size ∙ e)

    pub read_length : (f.length ≡ length_of f.tag → ⊥) → read_at l at ≡ fault 9 at
    read_length c = ap (found at) (item_length (drop at l) h.some h.whole known (λ e. c (h.said ∙ e ∙ sym size)))

    module _ (c : f.length ≡ length_of f.tag) where
      right : length_in (drop at l) ≡ length_of (tag_in (drop at l))
      right = sym h.said ∙ c ∙ size

      long : length (drop at l) ≡ length l - at
      long = length-drop at l

      pub read_cut : length l - (at + 3) < length_of f.tag → read_at l at ≡ fault 11 at
      read_cut d = ap (found at) (item_cut (drop at l) h.some h.whole known right (lt-ltb (length (drop at l)) (header + length_in (drop at l)) (omega (arith, long, right, size, header_fits))))

      module _ (d : length_of f.tag ≤ length l - (at + 3)) where
        uncut : cut_off (drop at l) ≡ false
        uncut = le-ltb (length (drop at l)) (header + length_in (drop at l)) (omega (arith, long, right, size, header_fits))

        pub read_side : odd_side f.tag (drop (at + 3) l) ≡ true → read_at l at ≡ fault 10 at
        read_side e = ap (found at) (item_side (drop at l) h.some h.whole known right uncut (odd ∙ e))

        pub read_order : odd_side f.tag (drop (at + 3) l) ≡ false → read_at l at ≡ entry (order_in f.tag (drop (at + 3) l)) (at + 3 + length_of f.tag)
        read_order e =
            ap (found at) (item_order (drop at l) h.some h.whole known right uncut (odd ∙ e))
            ∙ ap (λ (k : ℕ). entry (order_in (tag_in (drop at l)) (value_in (drop at l))) k) (omega (arith, right, size))
            ∙ ap (λ (v : List ℕ). entry (order_in (tag_in (drop at l)) v) (at + 3 + length_of f.tag)) value
            ∙ ap (λ (x : ℕ). entry (order_in x (drop (at + 3) l)) (at + 3 + length_of f.tag)) (sym h.tag)
