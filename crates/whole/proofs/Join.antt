-- A whole book gives the doors' invariant and the rules' whole book; and what a door leaves is whole again: its structure by the doors, the rest by the rules.
-- Assumes nothing.
use Prim.Native.Nat.{ℕ, ◌+◌, ◌-◌, ◌<◌, ◌≤◌}
use mathlib.Core.Bool.{false}
use mathlib.Core.List.{List, [], ◌++◌}
use mathlib.Core.Logic.{◌≢◌}
use mathlib.Core.Path.{ap, sym, ◌∙◌, ◌≡◌}
use native.Mathlib.Omega.{arith}
use lib.ListN.{length, length-append}
use borrow.Author.Tests.{lt-leb}
use Rattle.rules.specs.Rules.{Book, Size, ask, bid, levels, limit, opposite, own, within}
use Rattle.rules.specs.Whole.{All, Apart, Positive, Sorted, Whole, WholeBook, empty, seen, sorted[]}
use Rattle.records.specs.Rows.{field, record_count}
use Rattle.search.specs.Seek.{at, entry_for}
use Rattle.search.proofs.Walks.{held, own as own_place, sound}
use Rattle.arena.specs.Times.{is_code, times}
use Rattle.arena.proofs.Times.{times_append}
use Rattle.side.specs.Levels.{ups}
use Rattle.side.specs.Orders.{codes}
use Rattle.side.specs.Read.{free_in, levels_in}
use Rattle.side.specs.Stored.{Stored}
use Rattle.side.proofs.Orders.{codes_times}
use Rattle.ledger.specs.declared.OrderBook.{OrderBook}
use Rattle.ledger.specs.Desk.{LedgerIn, Leaves, stored_book, found}
use Rattle.ledger.specs.Doors.{ApartAt}
use Rattle.ledger.proofs.Apart.{apart_at}
use Rattle.whole.specs.Whole.{Lengths, WholeStorage, resting_in}
use Rattle.whole.proofs.Counting.{all_once}
use Rattle.whole.proofs.Desk.{desk_once, desk_prices, desk_resting, desk_sorted, row_order}
use Rattle.whole.proofs.Equal.{whole_full, whole_good}
use Rattle.whole.proofs.Orders.{all_at, all_of, split}
use Rattle.whole.proofs.Sides.{side_bottom, side_top}

-- as many records as the hall's orders
pub places_is : {z : Size} {rs bd ak se : List ℕ} → Lengths z rs bd ak se → record_count rs ≡ z.orders
places_is l = omega (arith, l.records)

module _ {z : Size} {b : OrderBook} {rs bd ak se : List ℕ} (w : WholeStorage z b rs bd ak se) where
  abbrev bc : List ℕ
  bc = ups (levels_in rs bd b.bids)

  abbrev ac : List ℕ
  ac = ups (levels_in rs ak b.asks)

  -- ## Down: the doors' invariant

  stored : Stored (record_count rs) rs bd ak b.bids b.asks b.free b.resting (levels_in rs bd b.bids) (levels_in rs ak b.asks) (free_in rs b.free)
  stored =
      let n : z.orders ≡ record_count rs = sym (places_is w.lengths) in
      record {
        rows = omega (arith, w.lengths.records, n);
        mine = w.bids;
        theirs = w.asks;
        free = w.free;
        none = w.none;
        once = λ x. let o : times x (resting_in b rs bd ak) + times x (free_in rs b.free) ≡ is_code (record_count rs) x = rw n at (w.once x) in omega (arith, times_append x bc ac);
        full = omega (arith, whole_full z b rs bd ak se w, n);
        rest = omega (arith, w.count, length-append bc ac);
      }

  pub whole_desk : LedgerIn rs bd ak se b.resting b.free b.bids b.asks
  whole_desk = record {
    stored = stored;
    busy = w.bids_busy;
    busy_two = w.asks_busy;
    good = whole_good z b rs bd ak se w;
    room = omega (arith, places_is w.lengths, w.lengths.search, w.lengths.some);
    held = λ x n.
        let h = (held se rs x (omega (arith, w.lengths.search, w.lengths.some)) n).0 in
        let r = w.rests h.place h.below (λ e. n (sym h.holds ∙ e)) in
        let q : 1 ≤ times (entry_for se rs x) (resting_in b rs bd ak) = rw h.holds at r in
        omega (arith, times_append (entry_for se rs x) bc ac);
  }

  -- what the search finds under an id rests, and has that id
  pub whole_found : (x : ℕ) → entry_for se rs x ≢ 0 → (1 ≤ times (entry_for se rs x) (resting_in b rs bd ak)) × (field rs 0 (entry_for se rs x) ≡ x)
  whole_found x n =
      let h = whole_desk.held x n in
      (omega (arith, times_append (entry_for se rs x) bc ac), (held se rs x (omega (arith, w.lengths.search, w.lengths.some)) n).1)

  -- ## Down: the rules' whole book

  -- no bid at or above an ask
  pub whole_apart : ApartAt rs (levels_in rs bd b.bids) (levels_in rs ak b.asks)
  whole_apart x y i j =
      let t = side_top w.bids x i in
      let u = side_bottom w.asks y j in
      omega (arith, t.1, u.1, w.apart t.0 u.0)

  bid_some : (x : ℕ) → 1 ≤ times x (codes bid (levels_in rs bd b.bids)) → 1 ≤ field rs 1 x
  bid_some x i = w.some x (omega (arith, times_append x bc ac, codes_times bid x (levels_in rs bd b.bids)))

  ask_some : (x : ℕ) → 1 ≤ times x (codes ask (levels_in rs ak b.asks)) → 1 ≤ field rs 1 x
  ask_some x i = w.some x (omega (arith, times_append x bc ac))

  orderly : Whole (stored_book rs bd ak se b.bids b.asks)
  orderly =
      let bw = levels_in rs bd b.bids in
      let aw = levels_in rs ak b.asks in
      record {
        sorted = desk_sorted whole_desk;
        positive = λ s. elim s as (λ k. Positive (own k (stored_book rs bd ak se b.bids b.asks))) [
          | bid ↦ all_of rs (found se rs) (λ m. 1 ≤ m.quantity) (codes bid bw) bid_some
          | ask ↦ all_of rs (found se rs) (λ m. 1 ≤ m.quantity) (codes ask aw) ask_some
        ];
        apart = λ s. elim s as (λ k. Apart k (own k (stored_book rs bd ak se b.bids b.asks)) (own (opposite k) (stored_book rs bd ak se b.bids b.asks))) [
          | bid ↦ all_of rs (found se rs) (λ m. All (λ n. within bid (limit m.price) n.price ≡ false) (own ask (stored_book rs bd ak se b.bids b.asks))) (codes bid bw)
              (λ x i. all_of rs (found se rs) (λ n. within bid (limit (field rs 2 x)) n.price ≡ false) (codes ask aw)
              (λ y j. lt-leb (field rs 2 y) (field rs 2 x) (whole_apart x y (omega (arith, codes_times bid x bw)) j)))
          | ask ↦ all_of rs (found se rs) (λ m. All (λ n. within ask (limit m.price) n.price ≡ false) (own bid (stored_book rs bd ak se b.bids b.asks))) (codes ask aw)
              (λ x i. all_of rs (found se rs) (λ n. within ask (limit (field rs 2 x)) n.price ≡ false) (codes bid bw)
              (λ y j. lt-leb (field rs 2 x) (field rs 2 y) (whole_apart y x (omega (arith, codes_times bid y bw)) i)))
        ];
      }

  pub whole_book : WholeBook z (stored_book rs bd ak se b.bids b.asks)
  whole_book = record {
    orderly = orderly;
    once = desk_once whole_desk;
    fits = record {
      orders = omega (arith, desk_resting whole_desk, w.limits.orders);
      prices = λ s. elim s as (λ k. length (levels (own k (stored_book rs bd ak se b.bids b.asks))) ≤ z.prices) [
        | bid ↦ omega (arith, desk_prices whole_desk bid, w.limits.bids)
        | ask ↦ omega (arith, desk_prices whole_desk ask, w.limits.asks)
      ];
    };
  }

-- ## Up: what a door leaves is whole again

module _ {z : Size} {b : OrderBook} {rs bd ak se : List ℕ} (l : Lengths z rs bd ak se) (d : LedgerIn rs bd ak se b.resting b.free b.bids b.asks) where
  abbrev bq : List ℕ
  bq = ups (levels_in rs bd b.bids)

  abbrev aq : List ℕ
  aq = ups (levels_in rs ak b.asks)

  abbrev fq : List ℕ
  fq = free_in rs b.free

  once_again : (c : ℕ) → times c (bq ++ aq) + times c fq ≡ is_code z.orders c
  once_again c =
      let n = places_is l in
      let o : (x : ℕ) → times x bq + times x aq + times x fq ≤ is_code z.orders x = λ x. omega (arith, d.stored.once x, ap (λ (m : ℕ). is_code m x) n) in
      let f : length ((bq ++ aq) ++ fq) ≡ z.orders = omega (arith, length-append (bq ++ aq) fq, length-append bq aq, d.stored.full, n) in
      sym (times_append c (bq ++ aq) fq) ∙ all_once z.orders ((bq ++ aq) ++ fq) (λ x. omega (arith, times_append x (bq ++ aq) fq, times_append x bq aq, o x)) f c

  rests_again : (p : ℕ) → p < length se → at se p ≢ 0 → 1 ≤ times (at se p) (bq ++ aq)
  rests_again p h n =
      let e = (own_place se rs (sound se rs d.good) p h n).1 in
      let k = d.held (field rs 0 (at se p)) (λ q. n (sym e ∙ q)) in
      let j : 1 ≤ times (at se p) bq + times (at se p) aq = rw e at k in
      omega (arith, times_append (at se p) bq aq)

  pub desk_whole : WholeBook z (stored_book rs bd ak se b.bids b.asks) → WholeStorage z b rs bd ak se
  desk_whole k =
      let bw = levels_in rs bd b.bids in
      let aw = levels_in rs ak b.asks in
      record {
        lengths = l;
        limits = record { orders = omega (arith, d.stored.rest, d.stored.full, places_is l); bids = omega (arith, d.stored.mine.room, l.bids); asks = omega (arith, d.stored.theirs.room, l.asks) };
        count = omega (arith, d.stored.rest, length-append bq aq);
        some = λ c h. split (1 ≤ field rs 1 c) c bq aq h
            (λ i. all_at rs (found se rs) (λ m. 1 ≤ m.quantity) (codes bid bw) c (k.orderly.positive bid) (omega (arith, codes_times bid c bw)))
            (λ i. all_at rs (found se rs) (λ m. 1 ≤ m.quantity) (codes ask aw) c (k.orderly.positive ask) i);
        once = once_again;
        bids = d.stored.mine;
        asks = d.stored.theirs;
        bids_busy = d.busy;
        asks_busy = d.busy_two;
        apart = λ h g.
            let x = row_order d.stored.mine d.busy (b.bids - 1) (omega arith) in
            let y = row_order d.stored.theirs d.busy_two 0 g in
            omega (arith, x.2, y.2, apart_at rs bd ak se b.bids b.asks k.orderly x.0 y.0 x.1 y.1);
        free = d.stored.free;
        none = d.stored.none;
        rests = rests_again;
        only = (sound se rs d.good).one;
        near = (sound se rs d.good).near;
      }

-- what a door leaves, of a book that the rules keep whole
pub leaves_whole : {z : Size} {b : OrderBook} {rs bd ak se : List ℕ} {k : Book (Unit {0})} → Lengths z rs bd ak se → Leaves k rs bd ak se b.resting b.free b.bids b.asks → WholeBook z k → WholeStorage z b rs bd ak se
leaves_whole l v h = desk_whole l v.desk (rw v.book h)

-- ## A fresh book

abbrev nothing : Book (Unit {0})
nothing = record { bids = []; asks = [] }

pub nothing_whole : (z : Size) → WholeBook {A = Unit {0}} z (record { bids = []; asks = [] })
unfolding seen levels
nothing_whole z = record {
  orderly = record {
    sorted = λ s. elim s as (λ k. Sorted {A = Unit {0}} k (own k nothing)) [ bid ↦ sorted[] | ask ↦ sorted[] ];
    positive = λ s. elim s as (λ k. Positive {A = Unit {0}} (own k nothing)) [ bid ↦ empty | ask ↦ empty ];
    apart = λ s. elim s as (λ k. Apart {A = Unit {0}} k (own k nothing) (own (opposite k) nothing)) [ bid ↦ empty | ask ↦ empty ];
  };
  once = λ i. omega arith;
  fits = record { orders = omega arith; prices = λ s. elim s as (λ k. length (levels {A = Unit {0}} (own k nothing)) ≤ z.prices) [ bid ↦ omega arith | ask ↦ omega arith ] };
}

pub fresh_whole : {z : Size} {b : OrderBook} {rs bd ak se : List ℕ} → Lengths z rs bd ak se → Leaves (record { bids = []; asks = [] }) rs bd ak se b.resting b.free b.bids b.asks → WholeStorage z b rs bd ak se
fresh_whole {z} l v = leaves_whole l v (nothing_whole z)
