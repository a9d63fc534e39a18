-- The rows of a side as the check counts them, one after another. Assumes nothing.
use Prim.Native.Nat.{suc, zero, ℕ, ◌+◌, ◌-◌, ◌<◌, ◌≤◌}
use mathlib.Core.List.{List, append_assoc, append-nil, ◌++◌}
use mathlib.Core.Logic.{◌≢◌, ⊎_elim}
use mathlib.Core.Path.{ap, sym, ◌∙◌, ◌≡◌}
use native.Mathlib.Omega.{arith}
use lib.ListN.{length, length-append}
use Rattle.records.specs.Rows.{record_count}
use Rattle.records.proofs.Cases.{same?}
use Rattle.arena.specs.Free.{chain}
use Rattle.arena.specs.Links.{head_of, price_of, tail_of}
use Rattle.side.specs.Levels.{ups}
use Rattle.side.specs.Read.{levels_from, levels_in}
use Rattle.table.specs.Entries.{found_among}
use Rattle.ranks.specs.declared.Tally.{Tally}
use Rattle.ranks.specs.Ranks.{QueueAt, Rises, SideRight, Counts, walked}
use Rattle.ranks.proofs.Queues.{found_append, found_few, queue_walk, walk_queue}

-- ## The orders of the first rows

-- one row more
module _ (m : ℕ) (rs lv : List ℕ) where
  from_more : (i n : ℕ) → ups (levels_from m rs lv i (suc n)) ≡ ups (levels_from m rs lv i n) ++ chain m rs (head_of lv (i + n))
  from_more i zero =
      let e : i + 0 ≡ i = omega arith in
      rw e (append-nil (chain m rs (head_of lv i)))
  from_more i (suc n) =
      let e : suc i + n ≡ i + suc n = omega arith in
      ap (λ (l : List ℕ). chain m rs (head_of lv i) ++ l) (from_more (suc i) n)
      ∙ (sym (append_assoc (chain m rs (head_of lv i)) (ups (levels_from m rs lv (suc i) n)) (chain m rs (head_of lv (suc i + n))))
      ∙ ap (λ (k : ℕ). (chain m rs (head_of lv i) ++ ups (levels_from m rs lv (suc i) n)) ++ chain m rs (head_of lv k)) e)

module _ (rs lv : List ℕ) where
  ups_more : (n : ℕ) → ups (levels_in rs lv (n + 1)) ≡ ups (levels_in rs lv n) ++ chain (record_count rs) rs (head_of lv n)
  ups_more n =
      let e : n + 1 ≡ suc n = omega arith in
      let f : 0 + n ≡ n = omega arith in
      rw e (from_more (record_count rs) rs lv 0 n ∙ ap (λ (k : ℕ). ups (levels_in rs lv n) ++ chain (record_count rs) rs (head_of lv k)) f)

  levels_more : (n : ℕ) → length (ups (levels_in rs lv (n + 1))) ≡ length (ups (levels_in rs lv n)) + length (chain (record_count rs) rs (head_of lv n))
  levels_more n = ap length (ups_more n) ∙ length-append (ups (levels_in rs lv n)) (chain (record_count rs) rs (head_of lv n))

  found_more : (se : List ℕ) (n : ℕ) → found_among se rs (ups (levels_in rs lv (n + 1))) ≡ found_among se rs (ups (levels_in rs lv n)) + found_among se rs (chain (record_count rs) rs (head_of lv n))
  found_more se n = ap (found_among se rs) (ups_more n) ∙ found_append se rs (ups (levels_in rs lv n)) (chain (record_count rs) rs (head_of lv n))

  levels_first : (i n : ℕ) → i ≤ n → length (ups (levels_in rs lv i)) ≤ length (ups (levels_in rs lv n))
  levels_first i zero h = let e : i ≡ 0 = omega arith in rw e (omega arith)
  levels_first i (suc n) h =
      ⊎_elim
      (λ (e : i ≡ suc n). rw e (omega arith))
      (λ (k : i ≢ suc n).
      let e : n + 1 ≡ suc n = omega arith in
      let q : length (ups (levels_in rs lv (suc n))) ≡ length (ups (levels_in rs lv n)) + length (chain (record_count rs) rs (head_of lv n)) = rw e at (levels_more n) in
      omega (arith, levels_first i n (omega arith)))
      (same? i (suc n))

-- ## Counting row by row

module _ (rs lv : List ℕ) where
  side_more : (i : ℕ) → SideRight rs lv i → Rises lv i → QueueAt rs (price_of lv i) (head_of lv i) (tail_of lv i) → SideRight rs lv (i + 1)
  side_more i s u q = record {
    queue = λ j b. ⊎_elim (λ (w : j ≡ i). rw w q) (λ (w : j ≢ i). s.queue j (omega arith)) (same? j i);
    rises = λ j b. ⊎_elim (λ (w : j ≡ i). rw w u) (λ (w : j ≢ i). s.rises j (omega arith)) (same? j i);
  }

  -- a side that is right is counted
  pub side_counts : (i n most sum : ℕ) → i < n → most ≤ record_count rs → SideRight rs lv n → length (ups (levels_in rs lv n)) ≤ most → length (ups (levels_in rs lv i)) ≡ sum
      → walked rs (price_of lv i) (tail_of lv i) (most - sum) 0 (head_of lv i) 0 ≡ 0 → ⊥
  side_counts i n most sum h l s b e z =
      let q = s.queue i h in
      let w = queue_walk rs (price_of lv i) (head_of lv i) (tail_of lv i) (most - sum) (omega arith) q (omega (arith, levels_more rs lv i, levels_first rs lv (i + 1) n (omega arith))) in
      omega (arith, w, q.busy)

-- i rows of n are counted, with `sum` orders, `found` of them found
pub record Going (se rs lv : List ℕ) (n most sum found i : ℕ) : Type 0 where
  pub below : i ≤ n
  pub within : sum ≤ most
  pub side : SideRight rs lv i
  pub total : length (ups (levels_in rs lv i)) ≡ sum
  pub seen : found_among se rs (ups (levels_in rs lv i)) ≡ found

module _ (se rs lv : List ℕ) (n most : ℕ) where
  module _ (sum found i : ℕ) (g : Going se rs lv n most sum found i) where
    -- no more are found than there are
    pub going_few : found ≤ sum
    going_few = omega (arith, g.seen, g.total, found_few se rs (ups (levels_in rs lv i)))

    pub going_on : (q : Tally) → i < n → most ≤ record_count rs → Rises lv i → Counts se rs (price_of lv i) (head_of lv i) (tail_of lv i) (most - sum) q
        → Going se rs lv n most (sum + q.orders) (found + q.found) (i + 1)
    going_on q h l u e =
        let w = walk_queue rs (price_of lv i) (head_of lv i) (tail_of lv i) (most - sum) (omega arith) (omega (arith, e.orders, e.some)) in
        record {
          below = omega arith;
          within = omega (arith, e.within, g.within);
          side = side_more rs lv i g.side u w.queue;
          total = omega (arith, levels_more rs lv i, w.long, g.total, e.orders);
          seen = omega (arith, found_more rs lv se i, ap (found_among se rs) w.same, g.seen, e.found);
        }
