-- What the stored book says of its codes; and the stored book once a record has left its queue. Assumes nothing.
use Prim.Native.Nat.{ℕ, ◌*◌, ◌+◌, ◌-◌, ◌<◌, ◌≤◌}
use mathlib.Core.Bool.{Bool, false, true}
use mathlib.Core.List.{List, ◌∷◌}
use mathlib.Core.Logic.{◌≢◌}
use mathlib.Core.Path.{ap, refl, sym, ◌∙◌, ◌≡◌}
use native.Mathlib.Omega.{arith}
use lib.Dec.{eqb}
use lib.ListN.{length, length-set}
use borrow.Author.Tests.{eqb-false, eqb-true}
use Rattle.rules.specs.Whole.{one}
use Rattle.records.specs.Rows.{RecordAt, field, put}
use Rattle.records.proofs.Rows.{field_column, field_same, row_length}
use Rattle.arena.specs.Free.{returned}
use Rattle.arena.specs.Links.{link_lv, link_rs, untied}
use Rattle.arena.specs.Ring.{cut}
use Rattle.arena.specs.Times.{times}
use Rattle.arena.proofs.Free.{chain_frame, given_length, given_other}
use Rattle.arena.proofs.Links.{tie_rs_length, untied_field}
use Rattle.arena.proofs.Ring.{cut_length, cut_times}
use Rattle.arena.proofs.Times.{is_code_one, is_code_row, one_self}
use Rattle.side.specs.Levels.{Lvl, nth, ups}
use Rattle.side.specs.Prices.{Rising}
use Rattle.side.specs.Stored.{Stored}
use Rattle.side.proofs.Levels.{Agree, Nodes, nth_times, side_frame, with, with_length, with_times}
use Rattle.side.proofs.Unlinked.{unlink_agree, unlink_side}

pub swapped : {n : ℕ} {rs lv ov : List ℕ} {s t f r : ℕ} {ws vs : List Lvl} {fr : List ℕ} → Stored n rs lv ov s t f r ws vs fr → Stored n rs ov lv t s f r vs ws fr
swapped w = record {
  rows = w.rows;
  mine = w.theirs;
  theirs = w.mine;
  free = w.free;
  none = w.none;
  once = λ x. omega (arith, w.once x);
  full = omega (arith, w.full);
  rest = omega (arith, w.rest);
}

module _ {n : ℕ} {rs lv ov : List ℕ} {s t f r : ℕ} {ws vs : List Lvl} {fr : List ℕ} (w : Stored n rs lv ov s t f r ws vs fr) where
  pub row_of : (x : ℕ) → 1 ≤ times x (ups ws) + times x (ups vs) + times x fr → RecordAt rs x
  row_of x i = is_code_row n x rs w.rows (omega (arith, w.once x))

  pub at_most_one : (x : ℕ) → one (eqb x 0) + (times x (ups ws) + times x (ups vs) + times x fr) ≤ 1
  at_most_one x = omega (arith, w.once x, is_code_one n x)

  pub nodes : Nodes rs ws
  nodes = record { once = λ x. omega (arith, at_most_one x); rows = λ x i. row_of x (omega arith) }

  -- the rows as the search for a price sees them
  pub rising : Rising lv s
  rising = record {
    room = w.mine.room;
    rise = λ i j a b. rw ((w.mine.level i (omega arith)).price, (w.mine.level j b).price) (w.mine.rising i j a b);
  }

-- ## c out of row k's queue, and back to the free chain
module _ {n : ℕ} {rs lv ov : List ℕ} {s t f r : ℕ} {ws vs : List Lvl} {fr : List ℕ} (k c : ℕ) (w : Stored n rs lv ov s t f r ws vs fr)
    (ks : k < s) (inn : 1 ≤ times c (nth ws k).queue) where
  abbrev pc : ℕ
  pc = field rs 4 c

  abbrev nc : ℕ
  nc = field rs 3 c

  abbrev r₂ : List ℕ
  r₂ = untied rs pc nc

  abbrev r₃ : List ℕ
  r₃ = returned r₂ c f

  abbrev l₂ : List ℕ
  l₂ = link_lv (link_lv lv (k * 3 + 1) pc nc) (k * 3 + 2) nc pc

  abbrev w₂ : List Lvl
  w₂ = with ws k (cut c (nth ws k).queue)

  kw : k < length ws
  kw = omega (arith, w.mine.count)

  row : RecordAt rs c
  row = row_of w c (omega (arith, nth_times c ws k kw))

  long₂ : length r₂ ≡ length rs
  long₂ = tie_rs_length (link_rs rs 3 pc nc) 4 nc pc ∙ tie_rs_length rs 3 pc nc

  long : length r₃ ≡ length rs
  long = given_length r₂ c f ∙ long₂

  row₂ : RecordAt r₂ c
  row₂ = row_length r₂ long₂ row

  row₁₂ : RecordAt (put r₂ 1 c 0) c
  row₁₂ = row_length (put r₂ 1 c 0) (length-set r₂ ((c - 1) * 5 + 1) 0) row₂

  pub gone_times : (x : ℕ) → times x (ups w₂) + one (eqb x c) ≡ times x (ups ws)
  gone_times x = omega (arith, with_times x ws k (record { price = (nth ws k).price; queue = cut c (nth ws k).queue }) kw, cut_times c x (nth ws k).queue inn)

  pub gone_length : length (ups w₂) + 1 ≡ length (ups ws)
  gone_length = omega (arith, with_length ws k (record { price = (nth ws k).price; queue = cut c (nth ws k).queue }) kw, cut_length c (nth ws k).queue inn)

  -- FRAME: columns 0, 1, 2 of every record but c; all that a level reads of a record that is not in this queue
  pub keeps : (g x : ℕ) → g < 3 → 1 ≤ x → x ≢ c → field r₃ g x ≡ field rs g x
  keeps g x h i d = given_other r₂ g c f x (omega arith) row.some i d ∙ untied_field rs g pc nc x h

  agree₂ : (x : ℕ) → 1 ≤ x → x ≢ c → Agree r₂ r₃ x
  agree₂ x i d = record { price = sym (given_other r₂ 2 c f x (omega arith) row.some i d); next = sym (given_other r₂ 3 c f x (omega arith) row.some i d); prev = sym (given_other r₂ 4 c f x (omega arith) row.some i d) }

  apart_c : (x : ℕ) → 1 ≤ times x (ups vs) + times x fr → x ≢ c
  apart_c x i e = omega (arith, at_most_one w c, nth_times c ws k kw, ap (λ (m : ℕ). times m (ups vs) + times m fr) e)

  agree : (x : ℕ) → 1 ≤ times x (ups vs) + times x fr → Agree rs r₃ x
  agree x i =
      let a = unlink_agree k c w.mine (nodes w) ks inn x (row_of w x (omega arith)).some (omega (arith, at_most_one w x, nth_times x ws k kw)) in
      let b = agree₂ x (row_of w x (omega arith)).some (apart_c x i) in
      record { price = a.price ∙ b.price; next = a.next ∙ b.next; prev = a.prev ∙ b.prev }

  pub discard_stored : Stored n r₃ l₂ ov s t c (r - 1) w₂ vs (c ∷ fr)
  discard_stored = record {
    rows = long ∙ w.rows;
    mine = side_frame r₃ (λ x i. agree₂ x (row_of w x (omega (arith, gone_times x))).some
        (λ e. omega (arith, gone_times c, one_self c, at_most_one w c, ap (λ (m : ℕ). times m (ups w₂)) e))) (unlink_side k c w.mine (nodes w) ks inn);
    theirs = side_frame r₃ (λ x i. agree x (omega arith)) w.theirs;
    free = (refl, rw (field_same (put r₂ 1 c 0) 3 c f (omega arith) row₁₂) (chain_frame rs r₃ f fr (λ x i. (agree x (omega arith)).next) w.free));
    none = λ x i. zero_q x i (eqb x c) refl;
    once = λ x. omega (arith, w.once x, gone_times x);
    full = omega (arith, w.full, gone_length);
    rest = omega (arith, w.rest, gone_length);
  }
    where
      zero_q : (x : ℕ) → 1 ≤ times x (c ∷ fr) → (b : Bool) → eqb x c ≡ b → field r₃ 1 x ≡ 0
      zero_q x i true e = rw (eqb-true x c e) (field_column (put r₂ 1 c 0) 3 1 c c f (omega arith) (omega arith) (omega arith) ∙ field_same r₂ 1 c 0 (omega arith) row₂)
      zero_q x i false e =
          let j : 1 ≤ times x fr = omega (arith, ap one e) in
          keeps 1 x (omega arith) (row_of w x (omega arith)).some (eqb-false x c e) ∙ w.none x j
