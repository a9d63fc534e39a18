-- The levels where an order comes to rest or leaves: none is empty, and what their codes are. Assumes nothing.
use Prim.Native.Nat.{ℕ, ◌+◌, ◌≤◌}
use mathlib.Core.Bool.{Bool, cond, false, true, ◌&&◌}
use mathlib.Core.List.{List, [], ◌++◌, ◌∷◌}
use mathlib.Core.Path.{refl, ◌≡◌}
use native.Mathlib.Omega.{arith}
use lib.Dec.{eqb, ltb}
use lib.ListN.{length-append}
use Rattle.rules.specs.Rules.{ask}
use Rattle.rules.specs.Whole.{one}
use Rattle.arena.specs.Ring.{cut}
use Rattle.arena.specs.Times.{times}
use Rattle.arena.proofs.Ring.{cut_times}
use Rattle.arena.proofs.Times.{times_append, times_snoc}
use Rattle.side.specs.Doors.{keep_level, resting, without}
use Rattle.side.specs.Levels.{Lvl, ups}
use Rattle.side.proofs.Orders.{without_codes}
use Rattle.ledger.specs.Desk.{Busy}

pub and_true : (b : Bool) → b && true ≡ b
and_true true = refl
and_true false = refl

pub and_false : (b : Bool) → b && false ≡ false
and_false true = refl
and_false false = refl

-- ## the lists
pub busy_without : (c : ℕ) (ws : List Lvl) → Busy ws → Busy (without c ws)
busy_without c [] b = tt
busy_without c (w ∷ ws) b = go (ltb 0 (times c w.queue)) (busy_without c ws b.1)
  where
    keep : (q : List ℕ) → Busy (keep_level w.price q ws)
    keep [] = b.1
    keep (x ∷ q) = (omega arith, b.1)

    go : (t : Bool) → Busy (without c ws) → Busy (cond t (keep_level w.price (cut c w.queue) ws) (w ∷ without c ws))
    go true k = keep (cut c w.queue)
    go false k = (b.0, k)

pub busy_resting : (c p : ℕ) (ws : List Lvl) → Busy ws → Busy (resting c p ws)
busy_resting c p [] b = (omega arith, tt)
busy_resting c p (w ∷ ws) b = go (ltb w.price p) (eqb w.price p) (busy_resting c p ws b.1)
  where
    go : (x y : Bool) → Busy (resting c p ws) → Busy (cond x (w ∷ resting c p ws) (cond y (record { price = w.price; queue = w.queue ++ c ∷ [] } ∷ ws) (record { price = p; queue = c ∷ [] } ∷ w ∷ ws)))
    go true y k = (b.0, k)
    go false true k = (omega (arith, length-append w.queue (c ∷ [])), b.1)
    go false false k = (omega arith, b)

pub resting_times : (x c p : ℕ) (ws : List Lvl) → times x (ups (resting c p ws)) ≡ times x (ups ws) + one (eqb x c)
resting_times x c p [] = omega arith
resting_times x c p (w ∷ ws) = go (ltb w.price p) (eqb w.price p) (resting_times x c p ws)
  where
    go : (a b : Bool) → times x (ups (resting c p ws)) ≡ times x (ups ws) + one (eqb x c)
        → times x (ups (cond a (w ∷ resting c p ws) (cond b (record { price = w.price; queue = w.queue ++ c ∷ [] } ∷ ws) (record { price = p; queue = c ∷ [] } ∷ w ∷ ws)))) ≡ times x (w.queue ++ ups ws) + one (eqb x c)
    go true b k = omega (arith, times_append x w.queue (ups (resting c p ws)), times_append x w.queue (ups ws))
    go false true k = omega (arith, times_append x (w.queue ++ c ∷ []) (ups ws), times_append x w.queue (ups ws), times_snoc x w.queue c)
    go false false k = omega (arith, times_append x w.queue (ups ws))

pub without_times : (x c : ℕ) (ws : List Lvl) → 1 ≤ times c (ups ws) → times c (ups ws) ≤ 1 → times x (ups (without c ws)) + one (eqb x c) ≡ times x (ups ws)
without_times x c ws h o = rw (without_codes ask c ws h o) (cut_times c x (ups ws) h)
