-- What the parts of the check say of the whole book. Assumes nothing.
use Prim.Native.Nat.{◌+◌, ℕ, ◌-◌, ◌≤◌}
use mathlib.Core.Bool.{false, true}
use mathlib.Core.List.{List}
use mathlib.Core.Logic.{◌≢◌}
use mathlib.Core.Path.{sym, ◌∙◌, ◌≡◌}
use native.Mathlib.Omega.{arith}
use lib.ListN.{length}
use Rattle.rules.specs.Rules.{Size}
use Rattle.records.specs.Rows.{record_count}
use Rattle.ledger.specs.declared.OrderBook.{OrderBook}
use Rattle.side.specs.Levels.{ups}
use Rattle.side.specs.Read.{levels_in}
use Rattle.ranks.specs.declared.Tally.{Tally}
use Rattle.ranks.specs.Ranks.{Parted, SideCounts, SideRight}
use Rattle.ranks.proofs.Queues.{found_append, found_few}
use Rattle.table.specs.Entries.{found_among, taken_in}
use Rattle.whole.specs.Whole.{Lengths, Limits, WholeStorage, resting_in}
use Rattle.whole.specs.Spare.{idles}
use Rattle.whole.proofs.Equal.{sums, whole}
use Rattle.whole.proofs.Spare.{right_spare, spare_right}

module _ (z : Size) (b : OrderBook) (rs bd ak se : List ℕ) where
  -- a side whose count is wrong
  pub bids_wrong : (SideRight rs bd b.bids → length (ups (levels_in rs bd b.bids)) ≤ b.resting → ⊥) → WholeStorage z b rs bd ak se → ⊥
  bids_wrong h w = let s = sums z b rs bd ak se w in h s.bids (omega (arith, s.sum))

  module _ (x : Tally) (h : SideCounts se rs bd b.bids b.resting x) where
    pub asks_wrong : (SideRight rs ak b.asks → length (ups (levels_in rs ak b.asks)) ≤ b.resting - x.orders → ⊥) → WholeStorage z b rs bd ak se → ⊥
    asks_wrong k w = let s = sums z b rs bd ak se w in k s.asks (omega (arith, s.sum, h.orders))

  module _ (x y : Tally) (h : SideCounts se rs bd b.bids b.resting x) (k : SideCounts se rs ak b.asks (b.resting - x.orders) y) where
    pub asks_few : y.orders ≢ b.resting - x.orders → WholeStorage z b rs bd ak se → ⊥
    asks_few n w = let s = sums z b rs bd ak se w in n (omega (arith, k.orders, s.sum, h.orders))

    -- how many resting orders are found
    found_all : found_among se rs (resting_in b rs bd ak) ≡ x.found + y.found
    found_all = omega (arith, found_append se rs (ups (levels_in rs bd b.bids)) (ups (levels_in rs ak b.asks)), h.found, k.found)

    pub found_fits : x.found + y.found ≤ b.resting
    found_fits =
        omega (
          arith,
          found_few se rs (ups (levels_in rs bd b.bids)),
          found_few se rs (ups (levels_in rs ak b.asks)),
          h.orders,
          h.found,
          h.within,
          k.orders,
          k.found,
          k.within,
        )

    pub entries_wrong : taken_in se ≢ x.found + y.found → WholeStorage z b rs bd ak se → ⊥
    entries_wrong n w = n (sym (sums z b rs bd ak se w).entries ∙ found_all)

    pub verdict : y.orders ≡ b.resting - x.orders → Lengths z rs bd ak se → Limits z b → Parted bd ak b.bids b.asks → idles rs (z.orders - b.resting) b.free ≡ true → taken_in se ≡ x.found + y.found
        → WholeStorage z b rs bd ak se
    verdict e r m g f t =
        let n : record_count rs ≡ z.orders = omega (arith, r.records) in
        let p = spare_right rs (z.orders - b.resting) b.free (omega arith) f in
        whole z b rs bd ak se (record {
          lengths = r;
          limits = m;
          bids = h.right;
          asks = k.right;
          parted = g;
          sum = omega (arith, h.orders, h.within, k.orders);
          spare = p.0;
          left = p.1;
          entries = found_all ∙ sym t;
        })

  pub spare_wrong : idles rs (z.orders - b.resting) b.free ≡ false → WholeStorage z b rs bd ak se → ⊥
  spare_wrong e w = let s = sums z b rs bd ak se w in right_spare rs (z.orders - b.resting) b.free s.spare s.left e
