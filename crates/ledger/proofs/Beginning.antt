-- A fresh book: every record free, every place of the search free. Assumes nothing.
use Prim.Native.Nat.{ℕ, ◌*◌, ◌<◌}
use mathlib.Core.List.{List, []}
use mathlib.Core.Path.{refl, ◌≡◌}
use native.Mathlib.Omega.{arith}
use lib.ListN.{get_or-replicate, length, length-replicate, replicate}
use Rattle.search.specs.Seek.{at}
use Rattle.search.proofs.Frame.{fresh, fresh_lookup}
use Rattle.arena.specs.Free.{Freed, down}
use Rattle.arena.proofs.Free.{down_code, down_length}
use Rattle.side.specs.Levels.{Ladder}
use Rattle.ledger.specs.Desk.{Leaves, Ledger}
use Rattle.ledger.proofs.Desk.{leaves}

-- a table of free places
free_place : (m p : ℕ) → p < length {A = ℕ} (replicate m 0) → at (replicate m 0) p ≡ 0
free_place m p h = get_or-replicate m p 0 0 (omega (arith, length-replicate {A = ℕ} m 0))

-- no rows, no levels
no_levels : (rs lv : List ℕ) → Ladder rs lv 0 []
no_levels rs lv = record {
  count = refl;
  room = omega arith;
  level = λ i g. absurd (let z : ⊥ = omega arith in z);
  rising = λ i j a b. absurd (let z : ⊥ = omega arith in z);
}

pub begun : (rs bd ak se : List ℕ) (n m : ℕ) → length rs ≡ n * 5 → n < m → Freed rs n → se ≡ replicate m 0 → Leaves (record { bids = []; asks = [] }) rs bd ak se 0 n 0 0
begun rs bd ak se n m e h s t =
    let l : n < length {A = ℕ} (replicate m 0) = omega (arith, length-replicate {A = ℕ} m 0) in
    let a : Ledger n rs bd ak (replicate m 0) 0 0 n 0 [] [] (down n) = record {
      stored = record {
        rows = e;
        mine = no_levels rs bd;
        theirs = no_levels rs ak;
        free = s.free;
        none = s.none;
        once = λ x. omega (arith, down_code n x);
        full = omega (arith, down_length n);
        rest = refl;
      };
      busy = tt;
      busy_two = tt;
      good = fresh (replicate m 0) rs (free_place m);
      room = l;
      held = λ x g. absurd (g (fresh_lookup (replicate m 0) rs (free_place m) x (omega arith)));
    } in
    rw t (leaves a refl)
