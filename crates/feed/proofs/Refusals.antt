-- Which refusals an order of a tape can get: 4 and 5 alone. 1 is no refusal of the rules; 2 can't come, since there is a place for a fill of every order
-- that can rest; and 3 can't, since tracking is off. Assumes nothing.
use Prim.Native.Nat.{ℕ, zero, suc, ◌+◌, ◌-◌, ◌≤◌}
use mathlib.Core.Path.{◌≡◌, refl}
use mathlib.Core.Bool.{Bool, true, false}
use mathlib.Core.List.{List, [], ◌∷◌}
use mathlib.Core.Logic.{◌⊎◌, inl, inr}
use mathlib.Core.Option.{Option, none, some}
use native.Mathlib.Omega.{arith}
use lib.ListN.{length}
use borrow.Author.Tests.{le-ltb}
use Rattle.rules.specs.Rules as rule
use Rattle.rules.specs.Rules.{Size, Side, Order, Taker, Fill, Book, Desk, Stats, opposite, own, given, filling, matching, outcome, makers}
use Rattle.rules.specs.Rules.{first_of, too_large, stats_after, checks, refusal, carried, verdict, perform}
use Rattle.rules.specs.Whole.{All, empty, ◌&◌, WholeBook}
use Rattle.rules.proofs.Bounds.{whole_book_after, whole_book_end}
use Rattle.models.specs.declared.OrderType.{OrderType}
use Rattle.models.specs.declared.OrderType.TheVariants.{Market, Limit, Cancel}
use Rattle.tape.specs.Tape.{read_tape}
use Rattle.feed.specs.Feed.{result, answers, Possible}

abbrev Unmarked : Type 0
Unmarked = Unit {0}

-- no more fills than makers
filling_one : (t : Taker Unmarked) (m : Order Unmarked) (g : ℕ) (l : List (Fill Unmarked)) → length (filling t m g l) ≤ suc (length l)
filling_one t m zero l = omega arith
filling_one t m (suc g) l = omega arith

fills_fewer : (t : Taker Unmarked) (w : ℕ) (l : List (Order Unmarked)) → length (matching t w l).fills ≤ length l
unfolding matching
fills_fewer t w [] = omega arith
fills_fewer t w (m ∷ l) =
    omega (arith, filling_one t m (given t w m) (matching t (w - given t w m) l).fills, fills_fewer t (w - given t w m) l)

side_fewer : (s : Side) (b : Book Unmarked) → length (own s b) ≤ length b.bids + length b.asks
side_fewer rule.bid b = omega arith
side_fewer rule.ask b = omega arith

-- tracking off, nothing is too large for the statistics, and they stay
unkept : (st : Stats) (l : List (Fill Unmarked)) → st.tracking ≡ false → too_large l st ≡ false
unfolding too_large
unkept st l e = rw e

left_alone : (st : Stats) (l : List (Fill Unmarked)) → st.tracking ≡ false → (stats_after l st).tracking ≡ false
unfolding stats_after
left_alone st l e = rw e

-- the first of four tests whose first two fail
later : (a b c d : Bool) (n : ℕ) → a ≡ false → b ≡ false → first_of ((2, a) ∷ (3, b) ∷ (4, c) ∷ (5, d) ∷ []) ≡ some n → (n ≡ 4) ⊎ (n ≡ 5)
unfolding first_of
later false false true d n e f h = inl cc
later false false false true n e f h = inr cc
later false false false false n e f h = absurd (let z : ◌≡◌ {A = ℕ} 0 1 = cc in let x : ⊥ = omega arith in x)
later true b c d n e f h = absurd (let z : ◌≡◌ {A = ℕ} 0 1 = cc in let x : ⊥ = omega arith in x)
later false true c d n e f h = absurd (let z : ◌≡◌ {A = ℕ} 0 1 = cc in let x : ⊥ = omega arith in x)

module _ (z : Size) (d : Desk Unmarked) (w : WholeBook z d.book) (off : d.stats.tracking ≡ false) where
  refused_by : (t : Taker Unmarked) (n : ℕ) → t.room ≡ z.orders → refusal z d t ≡ some n → (n ≡ 4) ⊎ (n ≡ 5)
  unfolding refusal checks outcome
  refused_by t n r e =
      let o = outcome t (makers t d) in
      let few : length (outcome t (makers t d)).fills ≤ t.room =
      omega (arith, fills_fewer t t.quantity (makers t d), side_fewer (opposite t.side) d.book, w.fits.orders, r) in
      later _ _ _ _ n (le-ltb t.room (length (outcome t (makers t d)).fills) few) (unkept d.stats (outcome t (makers t d)).fills off) e

  order_possible : (t : Taker Unmarked) → t.room ≡ z.orders → Possible (perform z d (rule.order t)).answer
  unfolding perform carried
  order_possible t r = go (refusal z d t) refl
    where
      go : (o : Option ℕ) → refusal z d t ≡ o → Possible (verdict o d (carried d t)).answer
      go none e = tt
      go (some n) e = refused_by t n r e

  order_off : (t : Taker Unmarked) → (perform z d (rule.order t)).desk.stats.tracking ≡ false
  unfolding perform carried
  order_off t = go (refusal z d t)
    where
      go : (o : Option ℕ) → (verdict o d (carried d t)).desk.stats.tracking ≡ false
      go none = left_alone d.stats (outcome t (makers t d)).fills off
      go (some n) = off

  one_possible : (o : OrderType) → Possible (result z d o).answer
  unfolding perform
  one_possible (Market id side qty) = order_possible _ refl
  one_possible (Limit id side qty price) = order_possible _ refl
  one_possible (Cancel id) = tt

  one_off : (o : OrderType) → (result z d o).desk.stats.tracking ≡ false
  unfolding perform
  one_off (Market id side qty) = order_off _
  one_off (Limit id side qty price) = order_off _
  one_off (Cancel id) = off

-- from a whole book with tracking off, whatever the orders
pub all_possible : (z : Size) (d : Desk Unmarked) (os : List OrderType) → WholeBook z d.book → d.stats.tracking ≡ false → All Possible (answers z d os)
unfolding answers
all_possible z d [] w off = empty
all_possible z d (o ∷ os) w off =
    one_possible z d w off o & all_possible z (result z d o).desk os (whole_book_after z d _ w) (one_off z d w off o)

-- so no order of any tape is refused with 1, 2 or 3
pub only_four_and_five : (l : List ℕ) → All Possible (answers rule.hall rule.fresh (read_tape l).orders)
unfolding rule.end
only_four_and_five l = all_possible rule.hall rule.fresh (read_tape l).orders (whole_book_end rule.hall []) refl
