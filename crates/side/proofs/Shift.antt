-- The search for a price among level rows. Assumes nothing.
use Prim.Native.Nat.{suc, zero, ℕ, ◌*◌, ◌+◌, ◌/◌, ◌<◌, ◌≤◌}
use mathlib.Core.Bool.{false, true}
use mathlib.Core.List.{List, []}
use mathlib.Core.Logic.{⊎_elim}
use mathlib.Core.Path.{ap, ◌∙◌, ◌≡◌}
use native.Mathlib.Omega.{arith}
use lib.Dec.{ltb}
use lib.ListN.{drop, get_or, length, take}
use borrow.Author.Tests.{ltb-false, ltb-true}
use Rattle.std.specs.Simd.{first_chunks}
use Rattle.std.specs.List.Sorted.{IsNonDecreasingBy, IsPartitionPoint, IsPartitionedBy}
use Rattle.std.proofs.lemmas.List.{get_or-drop, get_or-take, length-drop, length-take-le}
use Rattle.std.proofs.lemmas.List.Sorted.{IsPartitionedBy-ltb}
use Rattle.records.proofs.Cases.{lt?}
use Rattle.arena.specs.Links.{price_of}
use Rattle.side.specs.Prices.{Bracket, Rising}

-- ## The search for a price

-- the rows, cut out as lists of three numbers
row_first : (k i : ℕ) (xs ds : List ℕ) → i < k → k * 3 ≤ length xs → get_or (get_or (first_chunks 3 k xs) i ds) 0 0 ≡ get_or xs (i * 3) 0
row_first zero i xs ds h l = absurd (let z : ⊥ = omega arith in z)
row_first (suc k) zero xs ds h l = get_or-take 3 xs 0 0 (omega arith)
row_first (suc k) (suc i) xs ds h l =
    let e : 3 + i * 3 ≡ suc i * 3 = omega arith in
    row_first k i (drop 3 xs) ds (omega arith) (omega (arith, length-drop 3 xs)) ∙ get_or-drop 3 xs (i * 3) 0 ∙ ap (λ (j : ℕ). get_or xs j 0) e

module _ (lv : List ℕ) (n p : ℕ) (all : List (List ℕ)) (s : Rising lv n) (e : all ≡ first_chunks 3 (length lv / 3) lv) (l : length all ≡ length lv / 3) where
  row_count : length (take n all) ≡ n
  row_count = length-take-le n all (omega (arith, s.room, l))

  price_at : (i : ℕ) (ds : List ℕ) → i < n → get_or (get_or (take n all) i ds) 0 0 ≡ price_of lv i
  price_at i ds h = ap (λ (y : List ℕ). get_or y 0 0) (get_or-take n all i ds h) ∙ rw e (row_first (length lv / 3) i lv ds (omega (arith, s.room)) (omega arith))

  rise : (i j : ℕ) → i ≤ j → j < n → price_of lv i ≤ price_of lv j
  rise i j h g = ⊎_elim (λ q. omega (arith, s.rise i j q g)) (λ q. let w : i ≡ j = omega arith in rw w (omega arith)) (lt? i j)

  rows_rise : IsNonDecreasingBy (λ (y : List ℕ). get_or y 0 0) (take n all)
  rows_rise i j ds h g =
      let b : j < n = omega (arith, row_count) in
      rw (price_at i ds (omega arith), price_at j ds b) (rise i j h b)

  pub rows_parted : IsPartitionedBy (λ (y : List ℕ). ltb (get_or y 0 0) p) (take n all)
  rows_parted = IsPartitionedBy-ltb (λ (y : List ℕ). get_or y 0 0) (take n all) p rows_rise

  pub bracket_at : (r : ℕ) → r ≤ length (take n all)
      → IsPartitionPoint (λ (y : List ℕ). ltb (get_or y 0 0) p ≡ true) (λ (y : List ℕ). ltb (get_or y 0 0) p ≡ false) (take n all) r → Bracket lv n p r r
  bracket_at r h t =
      let k : length (take n all) ≡ n = row_count in
      record {
        ordered = omega arith;
        within = omega arith;
        low = λ i g. rw (← price_at i [] (omega arith)) (ltb-true _ _ (t.0 i [] (omega arith) g));
        high = λ i g j. rw (← price_at i [] j) (ltb-false _ _ (t.1 i [] g (omega arith)));
      }
