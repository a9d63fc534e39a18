-- The levels as storage says them, row by row: how many, which, and in which of them an order is. Assumes nothing.
use Prim.Native.Nat.{ℕ, ◌+◌, ◌<◌, ◌≤◌}
use mathlib.Core.List.{List}
use mathlib.Core.Path.{ap, ◌∙◌, ◌≡◌}
use native.Mathlib.Omega.{arith}
use lib.ListN.{length}
use Rattle.records.specs.Rows.{record_count}
use Rattle.arena.specs.Free.{chain}
use Rattle.arena.specs.Links.{head_of, price_of}
use Rattle.arena.specs.Times.{times}
use Rattle.side.specs.Levels.{Lvl, nth, ups}
use Rattle.side.specs.Read.{levels_in}
use Rattle.side.proofs.Leaving.{stands}
use Rattle.side.proofs.Levels.{nth_times}
use Rattle.side.proofs.Own.{from_length, from_nth}

-- the level that row i stores
abbrev pub level_at : List ℕ → List ℕ → ℕ → Lvl
level_at rs lv i = record { price = price_of lv i; queue = chain (record_count rs) rs (head_of lv i) }

module _ (rs lv : List ℕ) where
  pub levels_length : (n : ℕ) → length (levels_in rs lv n) ≡ n
  levels_length n = from_length (record_count rs) rs lv 0 n

  pub levels_nth : (n i : ℕ) → i < n → nth (levels_in rs lv n) i ≡ level_at rs lv i
  levels_nth n i h =
      let e : 0 + i ≡ i = omega arith in
      from_nth (record_count rs) rs lv 0 n i h ∙ ap (level_at rs lv) e

  -- an order of the side is in one row's queue, and so is each order of a row on the side
  pub record InRow (n c : ℕ) : Type 0 where
    pub row : ℕ
    pub below : row < n
    pub inside : 1 ≤ times c (chain (record_count rs) rs (head_of lv row))

  pub in_row : (n c : ℕ) → 1 ≤ times c (ups (levels_in rs lv n)) → InRow n c
  in_row n c h =
      let s = stands (levels_in rs lv n) c h in
      let b : s.at < n = omega (arith, s.below, levels_length n) in
      record { row = s.at; below = b; inside = rw (← ap (λ (w : Lvl). w.queue) (levels_nth n s.at b)) s.inside }

  pub row_in : (n i c : ℕ) → i < n → 1 ≤ times c (chain (record_count rs) rs (head_of lv i)) → 1 ≤ times c (ups (levels_in rs lv n))
  row_in n i c h k =
      let e = ap (λ (w : Lvl). times c w.queue) (levels_nth n i h) in
      omega (arith, e, nth_times c (levels_in rs lv n) i (omega (arith, levels_length n)))
