-- The levels of a side as a list: counts, a level that is replaced, and records that change elsewhere. Assumes nothing.
use Prim.Native.Nat.{suc, zero, ℕ, ◌+◌, ◌<◌, ◌≤◌}
use mathlib.Core.List.{List, [], ◌∷◌}
use mathlib.Core.Logic.{◌≢◌}
use mathlib.Core.Path.{ap, refl, sym, ◌∙◌, ◌≡◌}
use native.Mathlib.Omega.{arith}
use lib.Dec.{eqb}
use lib.ListN.{length, length-append, length-set, set}
use lib.Seq.{get_or-set_other}
use Rattle.rules.specs.Whole.{one}
use Rattle.records.specs.Rows.{RecordAt, field}
use Rattle.arena.specs.Links.{link, link_rs, untied}
use Rattle.arena.specs.Times.{times}
use Rattle.arena.proofs.Links.{link_frame, tie_field, tie_record}
use Rattle.arena.proofs.Ring.{run_frame}
use Rattle.arena.proofs.Times.{one_other, times_append}
use Rattle.side.specs.Levels.{Ladder, LevelStored, Lvl, downs, empty, nth, ups}

-- the levels with the queue q at level k
abbrev pub with : List Lvl → ℕ → List ℕ → List Lvl
with ws k q = set ws k (record { price = (nth ws k).price; queue = q })

pub downs_times : (x : ℕ) (ws : List Lvl) → times x (downs ws) ≡ times x (ups ws)
downs_times x [] = refl
downs_times x (w ∷ ws) = omega (arith, times_append x w.queue (ups ws), times_append x (downs ws) w.queue, downs_times x ws)

pub with_times : (x : ℕ) (ws : List Lvl) (k : ℕ) (v : Lvl) → k < length ws → times x (ups (set ws k v)) + times x (nth ws k).queue ≡ times x (ups ws) + times x v.queue
with_times x [] k v h = absurd (let z : ⊥ = omega arith in z)
with_times x (w ∷ ws) zero v h = omega (arith, times_append x w.queue (ups ws), times_append x v.queue (ups ws))
with_times x (w ∷ ws) (suc k) v h = omega (arith, times_append x w.queue (ups ws), times_append x w.queue (ups (set ws k v)), with_times x ws k v (omega arith))

pub with_length : (ws : List Lvl) (k : ℕ) (v : Lvl) → k < length ws → length (ups (set ws k v)) + length (nth ws k).queue ≡ length (ups ws) + length v.queue
with_length [] k v h = absurd (let z : ⊥ = omega arith in z)
with_length (w ∷ ws) zero v h = omega (arith, length-append w.queue (ups ws), length-append v.queue (ups ws))
with_length (w ∷ ws) (suc k) v h = omega (arith, length-append w.queue (ups ws), length-append w.queue (ups (set ws k v)), with_length ws k v (omega arith))

pub nth_times : (x : ℕ) (ws : List Lvl) (k : ℕ) → k < length ws → times x (nth ws k).queue ≤ times x (ups ws)
nth_times x ws k h = omega (arith, with_times x ws k (empty 0) h)

pub two_times : (x : ℕ) (ws : List Lvl) (i j : ℕ) → i < length ws → j < length ws → j ≢ i → times x (nth ws i).queue + times x (nth ws j).queue ≤ times x (ups ws)
two_times x ws i j h g n =
    let e : nth (set ws i (empty 0)) j ≡ nth ws j = get_or-set_other ws i j (empty 0) (empty 0) n in
    omega (arith, with_times x ws i (empty 0) h, nth_times x (set ws i (empty 0)) j (omega (arith, length-set ws i (empty 0))), ap (λ (w : Lvl). times x w.queue) e)

-- what a level reads of the records
pub record Agree (rs ss : List ℕ) (x : ℕ) : Type 0 where
  pub price : field rs 2 x ≡ field ss 2 x
  pub next : field rs 3 x ≡ field ss 3 x
  pub prev : field rs 4 x ≡ field ss 4 x

pub level_frame : {rs : List ℕ} (ss : List ℕ) {p h t : ℕ} {w : Lvl} → ((x : ℕ) → 1 ≤ times x w.queue → Agree rs ss x) → LevelStored rs p h t w → LevelStored ss p h t w
level_frame {rs} ss {p} {h} {t} {w} a v = record {
  price = v.price;
  ring = run_frame (link rs 3 h) (link rs 4 t) (link ss 3 h) (link ss 4 t) 0 w.queue 0
      (link_frame rs ss 3 h w.queue (λ x i. (a x i).next))
      (λ x i. link_frame rs ss 4 t w.queue (λ y j. (a y j).prev) x (omega arith)) v.ring;
  priced = λ x i. sym (a x i).price ∙ v.priced x i;
}

-- its nodes: 0 and its codes, each once
pub record Nodes (rs : List ℕ) (ws : List Lvl) : Type 0 where
  pub once : (x : ℕ) → one (eqb x 0) + times x (ups ws) ≤ 1
  pub rows : (x : ℕ) → 1 ≤ times x (ups ws) → RecordAt rs x

pub side_frame : {rs : List ℕ} (ss : List ℕ) {lv : List ℕ} {n : ℕ} {ws : List Lvl} → ((x : ℕ) → 1 ≤ times x (ups ws) → Agree rs ss x) → Ladder rs lv n ws → Ladder ss lv n ws
side_frame ss {ws = ws} a s = record {
  count = s.count;
  room = s.room;
  level = λ i h. level_frame ss (λ x j. a x (omega (arith, nth_times x ws i (omega (arith, s.count))))) (s.level i h);
  rising = s.rising;
}

-- a node of a queue is 0 or a row
pub node_row : {rs : List ℕ} {ws : List Lvl} (k x : ℕ) → Nodes rs ws → k < length ws → 1 ≤ times x (nth ws k).queue + one (eqb x 0) → 1 ≤ x → RecordAt rs x
node_row {ws = ws} k x v h i p = v.rows x (omega (arith, nth_times x ws k h, one_other x 0 (omega arith)))

pub untied_agree : (rs : List ℕ) (p n x : ℕ) → 1 ≤ x → (1 ≤ p → x ≢ p) → (1 ≤ n → x ≢ n) → Agree rs (untied rs p n) x
untied_agree rs p n x i a b = record {
  price = sym (tie_field (link_rs rs 3 p n) 4 2 n p x (omega arith) (omega arith) (omega arith) ∙ tie_field rs 3 2 p n x (omega arith) (omega arith) (omega arith));
  next = sym (tie_field (link_rs rs 3 p n) 4 3 n p x (omega arith) (omega arith) (omega arith) ∙ tie_record rs 3 p n x (omega arith) i a);
  prev = sym (tie_record (link_rs rs 3 p n) 4 n p x (omega arith) i b ∙ tie_field rs 3 4 p n x (omega arith) (omega arith) (omega arith));
}

pub with_price : (ws : List Lvl) (k i : ℕ) (q : List ℕ) → (nth (with ws k q) i).price ≡ (nth ws i).price
with_price [] k i q = refl
with_price (w ∷ ws) zero zero q = refl
with_price (w ∷ ws) zero (suc i) q = refl
with_price (w ∷ ws) (suc k) zero q = refl
with_price (w ∷ ws) (suc k) (suc i) q = with_price ws k i q
