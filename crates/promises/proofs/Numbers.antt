-- The twelve numbers of a desk stand for the small values: they read back, and the number of tracking is the rules' switch. Assumes nothing.
use Prim.Native.Nat.{ℕ, zero, suc}
use native.Mathlib.Omega.{arith}
use mathlib.Core.Path.{◌≡◌, refl, ap}
use mathlib.Core.Bool.{Bool, true, false, not, cond}
use mathlib.Core.List.{List, [], ◌∷◌}
use mathlib.Core.Option as maybe
use Rattle.std.specs.Prelude.{Option, Some, None}
use lib.Dec.{eqb}
use lib.IntN.{pos}
use lib.Ieee.{Float, binary64, of_int}
use lib.Ieee.Bits.{of_bits-to_bits, of_bits-fits}
use lib.Ieee.Fits.{div-fits}
use lib.ListN.{length, get_or, set}
use Rattle.rules.specs.Rules as rule
use Rattle.stats.specs.declared.Trade.{Trade}
use Rattle.stats.specs.declared.Statistics.{Statistics}
use Rattle.stats.specs.Statistics.{last_of}
use Rattle.ledger.specs.declared.OrderBook.{OrderBook}
use Rattle.desk.specs.Stock.{read_desk}
use Rattle.ledger.specs.Stock.{stock}
use Rattle.numbers.specs.Numbers.{book_in, trade_in, last_in, statistics_in, yes, last_numbers, numbers_of}
use Rattle.promises.specs.History.{switch}
use Rattle.promises.specs.Exports.{desk_at, HasDouble}

-- ## what is written reads back

yes_back : (b : Bool) → not (eqb (yes b) 0) ≡ b
yes_back true = refl
yes_back false = refl

last_back : (r f b a t v : ℕ) (l : Option Trade) → HasDouble (last_of l) → last_in (r ∷ f ∷ b ∷ a ∷ t ∷ v ∷ last_numbers l) ≡ l
last_back r f b a t v None h = refl
last_back r f b a t v (Some d) h =
    ap (λ (x : Float). Some (record {
      total_qty = d.total_qty;
      avg_price = x;
      whole_avg_price = d.whole_avg_price;
      last_price = d.last_price;
      last_qty = d.last_qty;
    })) (of_bits-to_bits binary64 d.avg_price h)

pub numbers_book : (b : OrderBook) (st : Statistics) → book_in (numbers_of b st) ≡ b
numbers_book b st = refl

pub numbers_statistics : (b : OrderBook) (st : Statistics) → HasDouble (last_of st.last) → statistics_in (numbers_of b st) ≡ st
numbers_statistics b st h =
    λ i. record {
      tracking = yes_back st.tracking i;
      volume = st.volume;
      last = last_back b.resting b.free b.bids b.asks (yes st.tracking) st.volume.0 st.last h i;
    }

pub numbers_long : (b : OrderBook) (st : Statistics) → length (numbers_of b st) ≡ 12
numbers_long b st = go st.last
  where
    go : (l : Option Trade) → length (b.resting ∷ b.free ∷ b.bids ∷ b.asks ∷ yes st.tracking ∷ st.volume.0 ∷ last_numbers l) ≡ 12
    go None = refl
    go (Some t) = refl

-- ## every average is a double: one read from its bits, and one that the rules work out

pub double_in : (d : List ℕ) → HasDouble (last_of (last_in d))
double_in d = go (eqb (get_or d 6 0) 0)
  where
    go : (b : Bool) → HasDouble (last_of (cond b None (Some (trade_in d))))
    go true = tt
    go false = of_bits-fits binary64 (get_or d 8 0)

double_traded : (b : Bool) (q s p n : ℕ) (st : rule.Stats) → HasDouble st.last → HasDouble (rule.traded b q s p n st).last
unfolding rule.average
double_traded false q s p n st h = h
double_traded true zero s p n st h = h
double_traded true (suc q) s p n st h = div-fits binary64 (of_int binary64 (pos s)) (of_int binary64 (pos (suc q)))

pub double_after : (z : rule.Size) (d : rule.Desk (Unit {0})) (c : rule.Call (Unit {0})) → HasDouble d.stats.last → HasDouble (rule.after z d c).stats.last
unfolding rule.perform rule.carried rule.stats_after
double_after z d (rule.order t) h = go (rule.refusal z d t)
  where
    go : (o : maybe.Option ℕ) → HasDouble (rule.verdict o d (rule.carried d t)).desk.stats.last
    go maybe.none = double_traded d.stats.tracking _ _ _ _ d.stats h
    go (maybe.some n) = h
double_after z d (rule.cancel i) h = h
double_after z d (rule.tracking b) h = h

-- ## tracking

-- one number is set; no other small value changes
pub tracks : (b : Bool) (d : List ℕ) → length d ≡ 12 → (book_in (set d 4 (yes b)) ≡ book_in d) × (statistics_in (set d 4 (yes b)) ≡ switch b (statistics_in d))
tracks b (r ∷ f ∷ x ∷ y ∷ t ∷ d) h = (refl, λ i. record { tracking = yes_back b i; volume = record { 0 = get_or d 0 0 }; last = last_in (r ∷ f ∷ x ∷ y ∷ t ∷ d) })
tracks b [] h = absurd (omega arith)
tracks b (_ ∷ []) h = absurd (omega arith)
tracks b (_ ∷ _ ∷ []) h = absurd (omega arith)
tracks b (_ ∷ _ ∷ _ ∷ []) h = absurd (omega arith)
tracks b (_ ∷ _ ∷ _ ∷ _ ∷ []) h = absurd (omega arith)

-- felavuti_track_stats is the rules' `tracking`
pub tracks_desk : (z : rule.Size) (on : ℕ) (d rs bd ak se : List ℕ) → length d ≡ 12
    → (desk_at (set d 4 (yes (not (eqb on 0)))) rs bd ak se ≡ rule.after z (desk_at d rs bd ak se) (rule.tracking (not (eqb on 0))))
    × (book_in (set d 4 (yes (not (eqb on 0)))) ≡ book_in d)
unfolding rule.perform
tracks_desk z on d rs bd ak se h =
    let e = tracks (not (eqb on 0)) d h in
    ((λ i. read_desk (stock (e.0 i) rs bd ak se) (e.1 i)), e.0)
