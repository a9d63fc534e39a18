-- A part of a tape is enough: where 28 bytes or more are at hand, what begins them doesn't depend on what follows. So a tape of any length goes through a buffer. Assumes nothing.
use Prim.Native.Nat.{ℕ, ◌+◌, ◌≤◌}
use mathlib.Core.Path.{◌≡◌, refl, sym, ap, ◌∙◌}
use mathlib.Core.Bool.{Bool, true, false, not}
use mathlib.Core.List.{List, ◌++◌}
use native.Mathlib.Omega.{arith}
use lib.Dec.{eqb}
use lib.ListN.{length, drop, length-append, length-drop, get_or-append}
use lib.Seq.{drop-append-le}
use borrow.Author.Tests.{le-ltb, eqb-true}
use Rattle.rules.specs.Rules.{first_of}
use Rattle.fields.specs.Bytes.{number}
use Rattle.fields.specs.Fields.{tag_in, length_in, value_in, stump, cut_off}
use Rattle.fields.proofs.Numbers.{number_front}
use Rattle.tape.specs.Orders.{length_of, order_in, Item, unless_refused, item, found, read_at}
use Rattle.tape.proofs.Tags.{value_most}
use Rattle.tape.proofs.Items.{odd_in, results, meant, judged}

number_past : (a : ℕ) (v r : List ℕ) → a + 8 ≤ length v → number 8 (drop a (v ++ r)) ≡ number 8 (drop a v)
number_past a v r h = ap (number 8) (drop-append-le a v r (omega arith)) ∙ number_front 8 (drop a v) r (omega (arith, length-drop a v))

order_past : (t : ℕ) (v r : List ℕ) → 25 ≤ length v → order_in t (v ++ r) ≡ order_in t v
unfolding order_in
order_past t v r h =
    rw (number_front 8 v r (omega arith), get_or-append v r 0 8 (omega arith), number_past 9 v r (omega arith), number_past 17 v r (omega arith))

-- a wrong length is said before a value that is cut off
first_wrong : (b x y o : Bool) (m : Item) → unless_refused (first_of (results false b true x o)) m ≡ unless_refused (first_of (results false b true y o)) m
unfolding first_of
first_wrong true x y o m = refl
first_wrong false x y o m = refl

module _ (w r : List ℕ) (h : 28 ≤ length w) where
  tag_past : tag_in (w ++ r) ≡ tag_in w
  tag_past = get_or-append w r 0 0 (omega arith)

  length_past : length_in (w ++ r) ≡ length_in w
  length_past = ap (number 2) (drop-append-le 1 w r (omega arith)) ∙ number_front 2 (drop 1 w) r (omega (arith, length-drop 1 w))

  value_past : value_in (w ++ r) ≡ value_in w ++ r
  value_past = drop-append-le 3 w r (omega arith)

  longer : length (w ++ r) ≡ length w + length r
  longer = length-append w r

  long : 25 ≤ length (value_in w)
  long = omega (arith, length-drop 3 w)

  odd_past : odd_in (w ++ r) ≡ odd_in w
  odd_past = rw (tag_past, value_past, get_or-append (value_in w) r 0 8 (omega (arith, long)))

  meant_past : meant (w ++ r) ≡ meant w
  meant_past = rw (tag_past, length_past, value_past, order_past (tag_in w) (value_in w) r long)

  -- the tests but one are the same
  same_tests : item (w ++ r) ≡ unless_refused (first_of (results false (eqb (length_of (tag_in w)) 0) (not (eqb (length_in w) (length_of (tag_in w)))) (cut_off (w ++ r)) (odd_in w))) (meant w)
  same_tests =
      judged (w ++ r) (omega (arith, longer))
      ∙ cc (le-ltb (length (w ++ r)) 3 (omega (arith, longer)), tag_past, length_past, odd_past, meant_past)

  pub item_window : item (w ++ r) ≡ item w
  item_window = same_tests ∙ go (eqb (length_in w) (length_of (tag_in w))) refl ∙ sym (judged w (omega arith))
    where
      go : (b : Bool) → eqb (length_in w) (length_of (tag_in w)) ≡ b
          → unless_refused (first_of (results false (eqb (length_of (tag_in w)) 0) (not (eqb (length_in w) (length_of (tag_in w)))) (cut_off (w ++ r)) (odd_in w))) (meant w)
          ≡ unless_refused (first_of (results (stump w) (eqb (length_of (tag_in w)) 0) (not (eqb (length_in w) (length_of (tag_in w)))) (cut_off w) (odd_in w))) (meant w)
      go true e =
          let n : length_in w ≡ length_of (tag_in w) = eqb-true (length_in w) (length_of (tag_in w)) e in
          let m : length_of (tag_in w) ≤ 25 = value_most (tag_in w) in
          cc (le-ltb (length w) 3 (omega arith), le-ltb (length w) (3 + length_in w) (omega arith), le-ltb (length (w ++ r)) (3 + length_in (w ++ r)) (omega (arith, longer, length_past)))
      go false e =
          let s : stump w ≡ false = le-ltb (length w) 3 (omega arith) in
          rw (e, s) (first_wrong (eqb (length_of (tag_in w)) 0) (cut_off (w ++ r)) (cut_off w) (odd_in w) (meant w))

-- at a place of a part of a tape with 28 bytes or more behind it
pub read_window : (w r : List ℕ) (at : ℕ) → at + 28 ≤ length w → read_at (w ++ r) at ≡ read_at w at
read_window w r at h =
    ap (found at) (ap item (drop-append-le at w r (omega arith)) ∙ item_window (drop at w) r (omega (arith, length-drop at w)))
