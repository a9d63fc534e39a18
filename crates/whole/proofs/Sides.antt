-- The rows of a side as the check counts them are those of the doors; no order is on a side twice, and its prices lie between its ends. Assumes nothing.
use Prim.Native.Nat.{suc, zero, ℕ, ◌*◌, ◌-◌, ◌<◌, ◌≤◌}
use mathlib.Core.List.{List, [], ◌∷◌}
use mathlib.Core.Logic.{◌≢◌, ⊎_elim}
use mathlib.Core.Path.{ap, refl, ◌≡◌}
use native.Mathlib.Omega.{arith}
use lib.ListN.{length}
use Rattle.records.specs.Rows.{RecordAt, field}
use Rattle.records.proofs.Cases.{lt?, same?}
use Rattle.arena.specs.Links.{head_of, link, price_of, tail_of}
use Rattle.arena.specs.Ring.{Run}
use Rattle.arena.specs.Times.{times}
use Rattle.arena.proofs.Once.{Ending, ending_once}
use Rattle.arena.proofs.Times.{one_self, times_append}
use Rattle.side.specs.Levels.{Ladder, LevelStored, Lvl, nth, ups}
use Rattle.side.specs.Read.{levels_in}
use Rattle.side.proofs.Leaving.{stands}
use Rattle.side.proofs.Levels.{nth_times}
use Rattle.side.proofs.Orders.{Tiers, side_tiers}
use Rattle.ledger.specs.Desk.{Busy}
use Rattle.ledger.proofs.Best.{busy_at}
use Rattle.ranks.specs.Ranks.{SideRight}
use Rattle.whole.proofs.Levels.{in_row, level_at, levels_length, levels_nth, row_in}

-- ## As the doors have it

-- each order of a side is in range and has something
abbrev pub Each : List ℕ → List Lvl → Type 0
Each rs ws = (c : ℕ) → 1 ≤ times c (ups ws) → RecordAt rs c × (1 ≤ field rs 1 c)

module _ (rs lv : List ℕ) (n : ℕ) (s : SideRight rs lv n) where
  mono : (i j : ℕ) → i < j → j < n → price_of lv i < price_of lv j
  mono i zero h k = absurd (let z : ⊥ = omega arith in z)
  mono i (suc j) h k =
      let d : suc j - 1 ≡ j = omega arith in
      let up : price_of lv j < price_of lv (suc j) = rw d at (s.rises (suc j) k (omega arith)) in
      ⊎_elim (λ (q : i ≡ j). rw q up) (λ (q : i ≢ j). omega (arith, mono i j (omega arith) (omega arith))) (same? i j)

  pub sided_ladder : n * 3 ≤ length lv → Ladder rs lv n (levels_in rs lv n)
  sided_ladder r = record {
    count = levels_length rs lv n;
    room = r;
    level = λ i h.
        let q = s.queue i h in
        rw (levels_nth rs lv n i h) (record { price = refl; ring = q.ring; priced = λ x k. (q.under x k).own });
    rising = λ i j h k. rw (levels_nth rs lv n i (omega arith), levels_nth rs lv n j k) (mono i j h k);
  }

  pub sided_each : Each rs (levels_in rs lv n)
  sided_each c h =
      let r = in_row rs lv n c h in
      let u = (s.queue r.row r.below).under c r.inside in
      (u.row, u.some)

  pub sided_busy : Busy (levels_in rs lv n)
  sided_busy = busy_of (levels_in rs lv n) (λ i h. let k : i < n = omega (arith, levels_length rs lv n) in rw (levels_nth rs lv n i k) (s.queue i k).busy)
    where
      busy_of : (ws : List Lvl) → ((i : ℕ) → i < length ws → 1 ≤ length (nth ws i).queue) → Busy ws
      busy_of [] h = tt
      busy_of (w ∷ ws) h = (h 0 (omega arith), busy_of ws (λ i k. h (suc i) (omega arith)))

pub ladder_sided : (rs lv : List ℕ) (n : ℕ) → Ladder rs lv n (levels_in rs lv n) → Busy (levels_in rs lv n) → Each rs (levels_in rs lv n) → SideRight rs lv n
ladder_sided rs lv n a b e = record {
  queue = λ i h.
      let v : LevelStored rs (price_of lv i) (head_of lv i) (tail_of lv i) (level_at rs lv i) = rw (levels_nth rs lv n i h) at (a.level i h) in
      record {
        ring = v.ring;
        busy = rw (levels_nth rs lv n i h) at (busy_at (levels_in rs lv n) i b (omega (arith, levels_length rs lv n)));
        under = λ c k. let u = e c (row_in rs lv n i c h k) in record { row = u.0; some = u.1; own = v.priced c k };
      };
  rises = λ i h l.
      let r : (nth (levels_in rs lv n) (i - 1)).price < (nth (levels_in rs lv n) i).price = a.rising (i - 1) i (omega arith) h in
      rw (levels_nth rs lv n (i - 1) (omega arith), levels_nth rs lv n i h) at r;
}

-- ## No order twice

-- in a queue
ring_ending : (rs : List ℕ) (head : ℕ) (B : ℕ → ℕ) (p : ℕ) (l : List ℕ) → Run (link rs 3 head) B p l 0 → ((x : ℕ) → 1 ≤ times x l → 1 ≤ x) → Ending (field rs 3) (link rs 3 head p) l
ring_ending rs head B p [] r h = r.0
ring_ending rs head B p (zero ∷ l) r h = absurd (let z : ⊥ = omega (arith, h 0 (omega (arith, one_self 0))) in z)
ring_ending rs head B p (suc i ∷ l) r h = (r.0, omega arith, ring_ending rs head B (suc i) l r.2 (λ x j. h x (omega arith)))

queue_once : (rs : List ℕ) (head : ℕ) (B : ℕ → ℕ) (l : List ℕ) (x : ℕ) → Run (link rs 3 head) B 0 l 0 → ((y : ℕ) → 1 ≤ times y l → 1 ≤ y) → times x l ≤ 1
queue_once rs head B l x r h = ending_once (field rs 3) head x l (ring_ending rs head B 0 l r h)

-- on a side: prices differ from row to row, and a queue has no order twice
tiers_once : (rs : List ℕ) (ws : List Lvl) (c : ℕ) → Tiers rs ws → ((i : ℕ) → i < length ws → times c (nth ws i).queue ≤ 1) → times c (ups ws) ≤ 1
tiers_once rs [] c t h = omega arith
tiers_once rs (w ∷ ws) c t h =
    ⊎_elim
    (λ (a : times c w.queue < 1). omega (arith, times_append c w.queue (ups ws), tiers_once rs ws c t.2 (λ i k. h (suc i) (omega arith))))
    (λ (a : 1 ≤ times c w.queue). ⊎_elim
    (λ (b : times c (ups ws) < 1). omega (arith, times_append c w.queue (ups ws), h 0 (omega arith)))
    (λ (b : 1 ≤ times c (ups ws)). absurd (let z : ⊥ = omega (arith, t.0 c a, t.1 c b) in z))
    (lt? (times c (ups ws)) 1))
    (lt? (times c w.queue) 1)

module _ {rs lv : List ℕ} {n : ℕ} {ws : List Lvl} (a : Ladder rs lv n ws) (rows : (c : ℕ) → 1 ≤ times c (ups ws) → RecordAt rs c) where
  pub side_once : (c : ℕ) → times c (ups ws) ≤ 1
  side_once c = tiers_once rs ws c (side_tiers a) (λ i h.
      let v = a.level i (omega (arith, a.count)) in
      queue_once rs (head_of lv i) (link rs 4 (tail_of lv i)) (nth ws i).queue c v.ring (λ y k. (rows y (omega (arith, nth_times y ws i h))).some))

-- ## The ends of a side

module _ {rs lv : List ℕ} {n : ℕ} {ws : List Lvl} (a : Ladder rs lv n ws) (c : ℕ) (h : 1 ≤ times c (ups ws)) where
  pub side_top : (1 ≤ n) × (field rs 2 c ≤ price_of lv (n - 1))
  side_top =
      let s = stands ws c h in
      let k : s.at < n = omega (arith, s.below, a.count) in
      let v = a.level s.at k in (
        omega arith,
        ⊎_elim
            (λ (l : s.at < n - 1). omega (arith, v.priced c s.inside, a.rising s.at (n - 1) l (omega arith), (a.level (n - 1) (omega arith)).price))
            (λ (l : n - 1 ≤ s.at). let e : s.at ≡ n - 1 = omega arith in omega (arith, v.priced c s.inside, v.price, ap (price_of lv) e))
            (lt? s.at (n - 1)),
      )

  pub side_bottom : (1 ≤ n) × (price_of lv 0 ≤ field rs 2 c)
  side_bottom =
      let s = stands ws c h in
      let k : s.at < n = omega (arith, s.below, a.count) in
      let v = a.level s.at k in (
        omega arith,
        ⊎_elim
            (λ (l : 0 < s.at). omega (arith, v.priced c s.inside, a.rising 0 s.at l k, (a.level 0 (omega arith)).price))
            (λ (l : s.at ≤ 0). let e : s.at ≡ 0 = omega arith in omega (arith, v.priced c s.inside, v.price, ap (price_of lv) e))
            (lt? 0 s.at),
      )
