-- The lists of levels and of free places are those that storage says: it admits no others. Assumes nothing.
use Prim.Native.Nat.{suc, zero, ℕ, ◌*◌, ◌+◌, ◌<◌, ◌≤◌}
use mathlib.Core.List.{List}
use mathlib.Core.Path.{ap, refl, sym, ◌∙◌, ◌≡◌}
use native.Mathlib.Omega.{arith}
use lib.Dec.{eqb}
use lib.ListN.{get_or, length}
use lib.Seq.{ext_get_or}
use Rattle.rules.specs.Whole.{one}
use Rattle.arena.specs.Free.{chain}
use Rattle.arena.specs.Links.{link}
use Rattle.arena.specs.Times.{times}
use Rattle.arena.proofs.Free.{chain_chain, run_chain}
use Rattle.arena.proofs.Times.{one_self}
use Rattle.side.specs.Levels.{Ladder, Lvl, empty, nth, ups}
use Rattle.side.specs.Read.{levels_from, levels_of}
use Rattle.side.specs.Stored.{Stored}
use Rattle.side.proofs.Levels.{nth_times, with_length}
use Rattle.side.proofs.Stored.{at_most_one}

-- how many levels are read from row i on, and level j of them
pub from_length : (m : ℕ) (rs lv : List ℕ) (i n : ℕ) → length (levels_from m rs lv i n) ≡ n
from_length m rs lv i zero = refl
from_length m rs lv i (suc n) = ap suc (from_length m rs lv (suc i) n)

pub from_nth : (m : ℕ) (rs lv : List ℕ) (i n j : ℕ) → j < n → nth (levels_from m rs lv i n) j ≡ record { price = get_or lv ((i + j) * 3) 0; queue = chain m rs (get_or lv ((i + j) * 3 + 1) 0) }
from_nth m rs lv i zero j h = absurd (let g : ⊥ = omega arith in g)
from_nth m rs lv i (suc n) zero h = let e : i + 0 ≡ i = omega arith in rw e
from_nth m rs lv i (suc n) (suc j) h =
    let e : i + suc j ≡ suc i + j = omega arith in
    from_nth m rs lv (suc i) n j (omega arith) ∙ ap (λ (k : ℕ). record { price = get_or lv (k * 3) 0; queue = chain m rs (get_or lv (k * 3 + 1) 0) }) (sym e)

nth_length : (ws : List Lvl) (k : ℕ) → k < length ws → length (nth ws k).queue ≤ length (ups ws)
nth_length ws k h = omega (arith, with_length ws k (empty 0) h)

lvl_same : (p q : ℕ) (a b : List ℕ) → p ≡ q → a ≡ b → ◌≡◌ {A = Lvl} (record { price = p; queue = a }) (record { price = q; queue = b })
lvl_same p q a b e f = λ k. record { price = e k; queue = f k }

pub side_own : {rs lv : List ℕ} {n : ℕ} {ws : List Lvl} (m : ℕ) → Ladder rs lv n ws → ((x : ℕ) → one (eqb x 0) + times x (ups ws) ≤ 1) → length (ups ws) ≤ m → ws ≡ levels_of m rs lv n
side_own {rs} {lv} {n} {ws} m s o h = ext_get_or (empty 0) ws (levels_of m rs lv n) (s.count ∙ sym (from_length m rs lv 0 n))
    (λ i g. let j : i < n = omega (arith, s.count) in
    let v = s.level i j in
    let e : nth ws i ≡ record { price = get_or lv (i * 3) 0; queue = chain m rs (get_or lv (i * 3 + 1) 0) } =
    lvl_same (nth ws i).price (get_or lv (i * 3) 0) (nth ws i).queue (chain m rs (get_or lv (i * 3 + 1) 0)) (sym v.price)
    (run_chain rs (get_or lv (i * 3 + 1) 0) (link rs 4 (get_or lv (i * 3 + 2) 0)) m 0 (nth ws i).queue v.ring (omega (arith, o 0, one_self 0, nth_times 0 ws i g)) (omega (arith, nth_length ws i g))) in
    let z : i ≡ 0 + i = omega arith in
    e ∙ (ap (λ (k : ℕ). record { price = get_or lv (k * 3) 0; queue = chain m rs (get_or lv (k * 3 + 1) 0) }) z ∙ sym (from_nth m rs lv 0 n i j)))

-- all that Stored admits
module _ {n : ℕ} {rs lv ov : List ℕ} {s t f r : ℕ} {ws vs : List Lvl} {fr : List ℕ} (w : Stored n rs lv ov s t f r ws vs fr) where
  pub own_one : ws ≡ levels_of n rs lv s
  own_one = side_own n w.mine (λ x. omega (arith, at_most_one w x)) (omega (arith, w.full))

  pub own_two : vs ≡ levels_of n rs ov t
  own_two = side_own n w.theirs (λ x. omega (arith, at_most_one w x)) (omega (arith, w.full))

  pub own_free : fr ≡ chain n rs f
  own_free = chain_chain rs n f fr w.free (omega (arith, at_most_one w 0, one_self 0)) (omega (arith, w.full))
