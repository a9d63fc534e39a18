-- A side that stands: its rows, as a walk reads them. Assumes nothing.
use Prim.Native.Nat.{ℕ, ◌+◌, ◌<◌, ◌≤◌}
use mathlib.Core.List.{List}
use mathlib.Core.Path.{ap, ◌∙◌, ◌≡◌}
use native.Mathlib.Omega.{arith}
use lib.ListN.{length}
use Rattle.records.specs.Rows.{RecordAt, record_count}
use Rattle.arena.specs.Links.{head_of, link, tail_of}
use Rattle.arena.specs.Times.{times}
use Rattle.side.specs.Levels.{Lvl, nth}
use Rattle.side.specs.Read.{levels_in}
use Rattle.side.specs.Prices.{Rising}
use Rattle.side.proofs.Levels.{nth_times}
use Rattle.side.proofs.Own.{from_nth}
use Rattle.depth.specs.Sides.{QueueIn, Standing, queue_in}
use Rattle.depth.proofs.Queues.{ring_ends}

module _ {rs lv : List ℕ} {n : ℕ} (s : Standing rs lv n) where
  abbrev ws : List Lvl
  ws = levels_in rs lv n

  pub some_row : (i : ℕ) → i < n → i < length ws
  some_row i h = omega (arith, s.ladder.count)

  row_queue : (i : ℕ) → i < n → (nth ws i).queue ≡ queue_in rs (head_of lv i)
  row_queue i h =
      let e : 0 + i ≡ i = omega arith in
      ap (λ (w : Lvl). w.queue) (from_nth (record_count rs) rs lv 0 n i h) ∙ ap (λ (k : ℕ). queue_in rs (head_of lv k)) e

  row_rows : (i : ℕ) → i < n → (x : ℕ) → 1 ≤ times x (nth ws i).queue → RecordAt rs x
  row_rows i h x j = s.rows x (omega (arith, nth_times x ws i (some_row i h)))

  -- the queue of row i
  pub queue_at : (i : ℕ) → i < n → QueueIn rs (head_of lv i)
  queue_at i h =
      let e = row_queue i h in
      let v = s.ladder.level i h in
      record {
        ends = rw e at (ring_ends (link rs 4 (tail_of lv i)) (head_of lv i) 0 (nth ws i).queue v.ring (row_rows i h));
        rows = λ x j. row_rows i h x (rw e j);
      }

  -- the rows as the search for a price sees them
  pub rising : Rising lv n
  rising = record {
    room = s.ladder.room;
    rise = λ i j a b. rw ((s.ladder.level i (omega arith)).price, (s.ladder.level j b).price) (s.ladder.rising i j a b);
  }
