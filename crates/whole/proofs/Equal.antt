-- A whole book, and the same by counting, as the check decides it: each gives the other. Assumes nothing.
use Prim.Native.Nat.{ℕ, ◌*◌, ◌+◌, ◌-◌, ◌<◌, ◌≤◌}
use mathlib.Core.List.{List, ◌++◌}
use mathlib.Core.Logic.{⊎_elim}
use mathlib.Core.Path.{sym, ◌∙◌, ◌≡◌}
use native.Mathlib.Omega.{arith}
use lib.ListN.{length, length-append}
use Rattle.rules.specs.Rules.{Size}
use Rattle.records.specs.Rows.{RecordAt, field}
use Rattle.records.proofs.Cases.{lt?}
use Rattle.search.specs.Seek.{Good, at}
use Rattle.search.proofs.Entries.{row_inside}
use Rattle.search.proofs.Walks.{good, sound}
use Rattle.arena.specs.Times.{is_code, times}
use Rattle.arena.proofs.Times.{is_code_one, is_code_row, times_append}
use Rattle.side.specs.Levels.{Ladder, ups}
use Rattle.side.specs.Read.{free_in, levels_in}
use Rattle.ledger.specs.declared.OrderBook.{OrderBook}
use Rattle.ranks.specs.Ranks.{Parted, SideRight}
use Rattle.table.specs.Entries.{found_among, taken_in}
use Rattle.whole.specs.Whole.{Lengths, Limits, WholeStorage, resting_in}
use Rattle.whole.proofs.Counting.{all_long, all_once, code_row}
use Rattle.whole.proofs.Entries.{count_entries, entries_count}
use Rattle.whole.proofs.Sides.{Each, ladder_sided, side_bottom, side_once, side_top, sided_busy, sided_each, sided_ladder}
use Rattle.whole.proofs.Spare.{Spared, spared_once}

-- the form that is decided
pub record Sums (z : Size) (b : OrderBook) (rs bd ak se : List ℕ) : Type 0 where
  pub lengths : Lengths z rs bd ak se
  pub limits : Limits z b
  pub bids : SideRight rs bd b.bids
  pub asks : SideRight rs ak b.asks
  pub parted : Parted bd ak b.bids b.asks
  pub sum : length (ups (levels_in rs bd b.bids)) + length (ups (levels_in rs ak b.asks)) ≡ b.resting
  pub spare : Spared rs b.free (free_in rs b.free)
  pub left : length (free_in rs b.free) ≡ z.orders - b.resting
  pub entries : found_among se rs (resting_in b rs bd ak) ≡ taken_in se

-- no code twice: prices lie apart, and a free place has nothing
module _ (n : ℕ) (b : OrderBook) (rs bd ak : List ℕ) (long : length rs ≡ n * 5)
    (bs : Ladder rs bd b.bids (levels_in rs bd b.bids)) (as' : Ladder rs ak b.asks (levels_in rs ak b.asks))
    (be : Each rs (levels_in rs bd b.bids)) (ae : Each rs (levels_in rs ak b.asks))
    (gap : Parted bd ak b.bids b.asks) (sp : Spared rs b.free (free_in rs b.free)) where
  abbrev bc : List ℕ
  bc = ups (levels_in rs bd b.bids)

  abbrev ac : List ℕ
  ac = ups (levels_in rs ak b.asks)

  abbrev fc : List ℕ
  fc = free_in rs b.free

  resting_each : (c : ℕ) → 1 ≤ times c bc + times c ac → RecordAt rs c × (1 ≤ field rs 1 c)
  resting_each c h = ⊎_elim (λ (l : times c bc < 1). ae c (omega arith)) (λ (l : 1 ≤ times c bc). be c l) (lt? (times c bc) 1)

  resting_once : (c : ℕ) → times c bc + times c ac ≤ 1
  resting_once c =
      let x = side_once bs (λ y k. (be y k).0) c in
      let y = side_once as' (λ y k. (ae y k).0) c in
      ⊎_elim
      (λ (l : times c bc < 1). omega arith)
      (λ (l : 1 ≤ times c bc). ⊎_elim
      (λ (k : times c ac < 1). omega arith)
      (λ (k : 1 ≤ times c ac).
      let t = side_top bs c l in
      let u = side_bottom as' c k in
      absurd (let v : ⊥ = omega (arith, t.1, u.1, gap t.0 u.0) in v))
      (lt? (times c ac) 1))
      (lt? (times c bc) 1)

  pub codes_once : (c : ℕ) → times c bc + times c ac + times c fc ≤ is_code n c
  codes_once c =
      let r = resting_once c in
      let f = spared_once rs b.free c fc sp in
      ⊎_elim
      (λ (l : times c fc < 1). ⊎_elim
      (λ (k : times c bc + times c ac < 1). omega arith)
      (λ (k : 1 ≤ times c bc + times c ac). omega (arith, code_row n c rs long (resting_each c k).0))
      (lt? (times c bc + times c ac) 1))
      (λ (l : 1 ≤ times c fc). ⊎_elim
      (λ (k : times c bc + times c ac < 1). omega (arith, code_row n c rs long (sp.bare c l).row))
      (λ (k : 1 ≤ times c bc + times c ac). absurd (let v : ⊥ = omega (arith, (resting_each c k).1, (sp.bare c l).none) in v))
      (lt? (times c bc + times c ac) 1))
      (lt? (times c fc) 1)

module _ (z : Size) (b : OrderBook) (rs bd ak se : List ℕ) where
  abbrev bl : List ℕ
  bl = ups (levels_in rs bd b.bids)

  abbrev al : List ℕ
  al = ups (levels_in rs ak b.asks)

  abbrev fl : List ℕ
  fl = free_in rs b.free

  -- the codes of all lists together
  three : (c : ℕ) → times c ((bl ++ al) ++ fl) ≡ times c bl + times c al + times c fl
  three c = omega (arith, times_append c (bl ++ al) fl, times_append c bl al)

  long_three : length ((bl ++ al) ++ fl) ≡ length bl + length al + length fl
  long_three = omega (arith, length-append (bl ++ al) fl, length-append bl al)

  -- counting is enough
  pub whole : Sums z b rs bd ak se → WholeStorage z b rs bd ak se
  whole s =
      let l = s.lengths in
      let bs = sided_ladder rs bd b.bids s.bids (omega (arith, l.bids, s.limits.bids)) in
      let qs = sided_ladder rs ak b.asks s.asks (omega (arith, l.asks, s.limits.asks)) in
      let be = sided_each rs bd b.bids s.bids in
      let ae = sided_each rs ak b.asks s.asks in
      let most = codes_once z.orders b rs bd ak l.records bs qs be ae s.parted s.spare in
      let full : length ((bl ++ al) ++ fl) ≡ z.orders = omega (arith, long_three, s.sum, s.left, s.limits.orders) in
      let once : (c : ℕ) → times c (bl ++ al) + times c fl ≡ is_code z.orders c =
      λ c. sym (times_append c (bl ++ al) fl) ∙ all_once z.orders ((bl ++ al) ++ fl) (λ x. omega (arith, three x, most x)) full c in
      let each : (c : ℕ) → 1 ≤ times c (bl ++ al) → 1 ≤ field rs 1 c =
      λ c h. ⊎_elim (λ (k : times c bl < 1). (ae c (omega (arith, times_append c bl al))).1) (λ (k : 1 ≤ times c bl). (be c k).1) (lt? (times c bl) 1) in
      let rows : (c : ℕ) → 1 ≤ times c (bl ++ al) → RecordAt rs c = λ c h. is_code_row z.orders c rs l.records (omega (arith, once c)) in
      let few : (c : ℕ) → times c (bl ++ al) ≤ 1 = λ c. omega (arith, once c, is_code_one z.orders c) in
      let n = count_entries se rs (bl ++ al) (omega (arith, l.search, l.some)) rows few s.entries in
      let g : Good se rs = record { right = λ p h e. (row_inside (rows (at se p) (n p h e).0), (n p h e).1) } in
      let u = sound se rs g in
      record {
        lengths = l;
        limits = s.limits;
        count = omega (arith, s.sum, length-append bl al);
        some = each;
        once = once;
        bids = bs;
        asks = qs;
        bids_busy = sided_busy rs bd b.bids s.bids;
        asks_busy = sided_busy rs ak b.asks s.asks;
        apart = s.parted;
        free = s.spare.free;
        none = λ c h. (s.spare.bare c h).none;
        rests = λ p h e. (n p h e).0;
        only = u.one;
        near = u.near;
      }

  module _ (w : WholeStorage z b rs bd ak se) where
    -- a resting order is a record that has something
    pub rests_row : (c : ℕ) → 1 ≤ times c (resting_in b rs bd ak) → RecordAt rs c
    rests_row c h = is_code_row z.orders c rs w.lengths.records (omega (arith, w.once c))

    rests_once : (c : ℕ) → times c (resting_in b rs bd ak) ≤ 1
    rests_once c = omega (arith, w.once c, is_code_one z.orders c)

    bid_each : Each rs (levels_in rs bd b.bids)
    bid_each c h = let k : 1 ≤ times c (resting_in b rs bd ak) = omega (arith, times_append c bl al) in (rests_row c k, w.some c k)

    ask_each : Each rs (levels_in rs ak b.asks)
    ask_each c h = let k : 1 ≤ times c (resting_in b rs bd ak) = omega (arith, times_append c bl al) in (rests_row c k, w.some c k)

    free_row : (c : ℕ) → 1 ≤ times c fl → RecordAt rs c
    free_row c h = is_code_row z.orders c rs w.lengths.records (omega (arith, w.once c))

    -- the search is sound
    pub whole_good : Good se rs
    whole_good = good se rs (record { points = λ p h n. row_inside (rests_row (at se p) (w.rests p h n)); near = w.near; one = w.only })

    -- all records, in the three lists
    pub whole_full : length bl + length al + length fl ≡ z.orders
    whole_full = sym long_three ∙ all_long z.orders ((bl ++ al) ++ fl) (λ x. times_append x (bl ++ al) fl ∙ w.once x)

    -- and needed
    pub sums : Sums z b rs bd ak se
    sums = record {
      lengths = w.lengths;
      limits = w.limits;
      bids = ladder_sided rs bd b.bids w.bids w.bids_busy bid_each;
      asks = ladder_sided rs ak b.asks w.asks w.asks_busy ask_each;
      parted = w.apart;
      sum = omega (arith, w.count, length-append bl al);
      spare = record { free = w.free; bare = λ c h. record { row = free_row c h; none = w.none c h } };
      left = omega (arith, whole_full, w.count, length-append bl al, w.limits.orders);
      entries = entries_count se rs (bl ++ al) (omega (arith, w.lengths.search, w.lengths.some)) rests_row rests_once (λ p h n. (w.rests p h n, (whole_good.right p h n).1));
    }
