-- The stored book from its other side, and its search over records that changed. Assumes nothing.
use Prim.Native.Nat.{ℕ, ◌*◌, ◌+◌, ◌<◌, ◌≤◌}
use mathlib.Core.Bool.{true}
use mathlib.Core.List.{List}
use mathlib.Core.Path.{sym, ◌∙◌, ◌≡◌}
use native.Mathlib.Omega.{arith}
use lib.ListN.{length}
use Rattle.records.specs.Rows.{RecordAt, field, record_count}
use Rattle.records.proofs.Rows.{row_length}
use Rattle.search.specs.Seek.{Good, at, inside, entry_for}
use Rattle.search.proofs.Entries.{row_inside}
use Rattle.search.proofs.Frame.{frame, frame_lookup}
use Rattle.search.proofs.Walks.{own, sound}
use Rattle.arena.specs.Times.{times}
use Rattle.side.specs.Levels.{Lvl, ups}
use Rattle.side.proofs.Stored.{row_of, swapped}
use Rattle.ledger.specs.Desk.{Ledger}

pub all_swapped : {n : ℕ} {rs lv ov se : List ℕ} {s t f r : ℕ} {ws vs : List Lvl} {fr : List ℕ} → Ledger n rs lv ov se s t f r ws vs fr → Ledger n rs ov lv se t s f r vs ws fr
all_swapped a = record { stored = swapped a.stored; busy = a.busy_two; busy_two = a.busy; good = a.good; room = a.room; held = λ x h. omega (arith, a.held x h) }

-- ## the search over records that changed
module _ {n : ℕ} {rs lv ov se : List ℕ} {s t f r : ℕ} {ws vs : List Lvl} {fr : List ℕ} (a : Ledger n rs lv ov se s t f r ws vs fr) where
  rows_of : (js : List ℕ) → length js ≡ n * 5 → record_count js ≡ n
  rows_of js e = omega (arith, e)

  pub roomy : (js : List ℕ) → length js ≡ n * 5 → record_count js < length se
  roomy js e = rw (rows_of js e) a.room

  in_row : (js : List ℕ) → length js ≡ n * 5 → (x : ℕ) → RecordAt rs x → inside js x ≡ true
  in_row js e x h = row_inside (row_length js (e ∙ sym a.stored.rows) h)

  -- what an entry stands for rests
  entry_rests : (p : ℕ) → p < length se → (at se p ≡ 0 → ⊥) → 1 ≤ times (at se p) (ups ws) + times (at se p) (ups vs)
  entry_rests p h d =
      let e = (own se rs (sound se rs a.good) p h d).1 in
      rw e at (a.held (field rs 0 (at se p)) (λ z. d (sym e ∙ z)))

  -- the ids of resting records are as they were
  module _ (js : List ℕ) (long : length js ≡ n * 5) (same : (x : ℕ) → 1 ≤ times x (ups ws) + times x (ups vs) → field js 0 x ≡ field rs 0 x) where
    kept_entries : (p : ℕ) → p < length se → (at se p ≡ 0 → ⊥) → (inside js (at se p) ≡ true) × (field js 0 (at se p) ≡ field rs 0 (at se p))
    kept_entries p h d =
        let i = entry_rests p h d in
        (in_row js long (at se p) (row_of a.stored (at se p) (omega arith)), same (at se p) i)

    pub good_frame : Good se js
    good_frame = frame se rs js kept_entries a.good

    pub look_frame : (x : ℕ) → entry_for se js x ≡ entry_for se rs x
    look_frame x = frame_lookup se rs js kept_entries a.good x (omega (arith, a.room))

-- ## the rows of its codes
pub row_in : {n : ℕ} {rs lv ov se : List ℕ} {s t f r : ℕ} {ws vs : List Lvl} {fr : List ℕ} (a : Ledger n rs lv ov se s t f r ws vs fr) (js : List ℕ) (c : ℕ) → length js ≡ n * 5 → 1 ≤ times c (ups ws) + times c (ups vs) + times c fr → RecordAt js c
row_in a js c e i = row_length js (e ∙ sym a.stored.rows) (row_of a.stored c i)
