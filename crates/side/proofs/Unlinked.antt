-- A record taken out of a level's queue. Assumes nothing.
use Prim.Native.Nat.{ℕ, ◌*◌, ◌+◌, ◌<◌, ◌≤◌}
use mathlib.Core.Bool.{Bool, false, true}
use mathlib.Core.List.{List}
use mathlib.Core.Logic.{◌≢◌}
use mathlib.Core.Path.{ap, refl, ◌∙◌, ◌≡◌}
use native.Mathlib.Omega.{arith}
use lib.Dec.{eqb}
use lib.ListN.{get_or, length-set}
use lib.Seq.{get_or-set_other, get_or-set_same}
use borrow.Author.Tests.{eqb-false, eqb-true}
use Rattle.rules.specs.Whole.{one}
use Rattle.records.specs.Rows.{RecordAt, field}
use Rattle.arena.specs.Links.{link, link_lv, link_rs, untied}
use Rattle.arena.specs.Ring.{Run, cut}
use Rattle.arena.specs.Times.{times}
use Rattle.arena.proofs.Links.{link_some, tie_column, tie_field, tie_lv_length, tie_off, tie_row, tie_rs_length, tie_same}
use Rattle.arena.proofs.Ring.{after_in, before_in, cut_times, unlink_run}
use Rattle.arena.proofs.Times.{one_other}
use Rattle.side.specs.Levels.{Ladder, LevelStored, Lvl, empty, nth}
use Rattle.side.proofs.Levels.{Agree, Nodes, level_frame, node_row, nth_times, two_times, untied_agree, with, with_price}

-- ## c out of row k's queue
module _ {rs lv : List ℕ} {n : ℕ} {ws : List Lvl} (k c : ℕ) (s : Ladder rs lv n ws) (v : Nodes rs ws) (kn : k < n) (inn : 1 ≤ times c (nth ws k).queue) where
  abbrev pc : ℕ
  pc = field rs 4 c

  abbrev nc : ℕ
  nc = field rs 3 c

  abbrev l₁ : List ℕ
  l₁ = link_lv lv (k * 3 + 1) pc nc

  abbrev l₂ : List ℕ
  l₂ = link_lv l₁ (k * 3 + 2) nc pc

  abbrev r₁ : List ℕ
  r₁ = link_rs rs 3 pc nc

  abbrev r₂ : List ℕ
  r₂ = untied rs pc nc

  some_c : 1 ≤ c
  some_c = (v.rows c (omega (arith, nth_times c ws k (omega (arith, s.count))))).some

  pub before_node : 1 ≤ times pc (nth ws k).queue + one (eqb pc 0)
  before_node =
      omega (arith, rw (link_some rs 4 (get_or lv (k * 3 + 2) 0) c some_c) at (before_in (link rs 3 (get_or lv (k * 3 + 1) 0)) (link rs 4 (get_or lv (k * 3 + 2) 0)) 0 (nth ws k).queue 0 c (omega arith) (s.level k kn).ring))

  pub after_node : 1 ≤ times nc (nth ws k).queue + one (eqb nc 0)
  after_node =
      omega (arith, rw (link_some rs 3 (get_or lv (k * 3 + 1) 0) c some_c) at (after_in (link rs 3 (get_or lv (k * 3 + 1) 0)) (link rs 4 (get_or lv (k * 3 + 2) 0)) 0 (nth ws k).queue 0 c (omega arith) (s.level k kn).ring))

  pub row_p : 1 ≤ pc → RecordAt rs pc
  row_p h = node_row k pc v (omega (arith, s.count)) before_node h

  pub row_n : 1 ≤ nc → RecordAt rs nc
  row_n h = node_row k nc v (omega (arith, s.count)) after_node h

  abbrev F : ℕ → ℕ
  F = link rs 3 (get_or lv (k * 3 + 1) 0)

  abbrev B : ℕ → ℕ
  B = link rs 4 (get_or lv (k * 3 + 2) 0)

  abbrev G : ℕ → ℕ
  G = link r₂ 3 (get_or l₂ (k * 3 + 1) 0)

  abbrev C : ℕ → ℕ
  C = link r₂ 4 (get_or l₂ (k * 3 + 2) 0)

  G_is : (x : ℕ) → G x ≡ link r₁ 3 (get_or l₁ (k * 3 + 1) 0) x
  G_is x = tie_column r₁ l₁ 4 3 (k * 3 + 2) (k * 3 + 1) nc pc x (omega arith) (omega arith) (omega arith) (omega arith)

  B_is : (x : ℕ) → link r₁ 4 (get_or l₁ (k * 3 + 2) 0) x ≡ B x
  B_is x = tie_column rs lv 3 4 (k * 3 + 1) (k * 3 + 2) pc nc x (omega arith) (omega arith) (omega arith) (omega arith)

  row_n₁ : 1 ≤ nc → RecordAt r₁ nc
  row_n₁ h = let r = row_n h in record { some = r.some; inside = omega (arith, r.inside, tie_rs_length rs 3 pc nc) }

  cut_f : G (B c) ≡ F c
  cut_f = rw (link_some rs 4 (get_or lv (k * 3 + 2) 0) c some_c, link_some rs 3 (get_or lv (k * 3 + 1) 0) c some_c)
      (G_is pc ∙ tie_same rs lv 3 (k * 3 + 1) pc nc (omega arith) (omega (arith, s.room)) row_p)

  cut_b : C (F c) ≡ B c
  cut_b = rw (link_some rs 4 (get_or lv (k * 3 + 2) 0) c some_c, link_some rs 3 (get_or lv (k * 3 + 1) 0) c some_c)
      (tie_same r₁ l₁ 4 (k * 3 + 2) nc pc (omega arith) (omega (arith, s.room, tie_lv_length lv (k * 3 + 1) pc nc)) row_n₁)

  off_f : (x : ℕ) → x ≢ B c → G x ≡ F x
  off_f x d = G_is x ∙ tie_off rs lv 3 (k * 3 + 1) pc nc x (omega arith) (rw (link_some rs 4 (get_or lv (k * 3 + 2) 0) c some_c) at d)

  off_b : (x : ℕ) → x ≢ F c → C x ≡ B x
  off_b x d = tie_off r₁ l₁ 4 (k * 3 + 2) nc pc x (omega arith) (rw (link_some rs 3 (get_or lv (k * 3 + 1) 0) c some_c) at d) ∙ B_is x

  own_ring : Run G C 0 (cut c (nth ws k).queue) 0
  own_ring = unlink_run F B G C c cut_f cut_b off_f off_b 0 (nth ws k).queue 0 inn
      (λ x. omega (arith, v.once x, nth_times x ws k (omega (arith, s.count))))
      (λ x. omega (arith, v.once x, nth_times x ws k (omega (arith, s.count)))) (s.level k kn).ring

  -- FRAME: a record that is not in this queue keeps its price and its links
  pub unlink_agree : (x : ℕ) → 1 ≤ x → times x (nth ws k).queue ≡ 0 → Agree rs r₂ x
  unlink_agree x i z = untied_agree rs pc nc x i
      (λ h e. omega (arith, before_node, one_other pc 0 (omega arith), ap (λ (m : ℕ). times m (nth ws k).queue) e))
      (λ h e. omega (arith, after_node, one_other nc 0 (omega arith), ap (λ (m : ℕ). times m (nth ws k).queue) e))

  pub unlink_side : Ladder r₂ l₂ n (with ws k (cut c (nth ws k).queue))
  unlink_side = record {
    count = length-set ws k _ ∙ s.count;
    room = omega (arith, s.room, tie_lv_length lv (k * 3 + 1) pc nc, tie_lv_length l₁ (k * 3 + 2) nc pc);
    level = λ i h. go i h (eqb i k) refl;
    rising = λ i j a b. rw (with_price ws k i (cut c (nth ws k).queue), with_price ws k j (cut c (nth ws k).queue)) (s.rising i j a b);
  }
    where
      away : (i j : ℕ) → i ≢ k → j < 3 → get_or l₂ (i * 3 + j) 0 ≡ get_or lv (i * 3 + j) 0
      away i j d h = tie_row l₁ (k * 3 + 2) (i * 3 + j) nc pc (omega arith) ∙ tie_row lv (k * 3 + 1) (i * 3 + j) pc nc (omega arith)

      go : (i : ℕ) → i < n → (t : Bool) → eqb i k ≡ t → LevelStored r₂ (get_or l₂ (i * 3) 0) (get_or l₂ (i * 3 + 1) 0) (get_or l₂ (i * 3 + 2) 0) (nth (with ws k (cut c (nth ws k).queue)) i)
      go i h true e =
          let z : i ≡ k = eqb-true i k e in
          rw (z, get_or-set_same ws k (record { price = (nth ws k).price; queue = cut c (nth ws k).queue }) (empty 0) (omega (arith, s.count)))
          (record {
            price = tie_row l₁ (k * 3 + 2) (k * 3) nc pc (omega arith) ∙ (tie_row lv (k * 3 + 1) (k * 3) pc nc (omega arith) ∙ (s.level k kn).price);
            ring = own_ring;
            priced = λ x j. (tie_field r₁ 4 2 nc pc x (omega arith) (omega arith) (omega arith) ∙ tie_field rs 3 2 pc nc x (omega arith) (omega arith) (omega arith))
                ∙ (s.level k kn).priced x (omega (arith, cut_times c x (nth ws k).queue inn));
          })
      go i h false e =
          let d : i ≢ k = eqb-false i k e in
          let y : i * 3 + 0 ≡ i * 3 = omega arith in
          let y₀ : get_or l₂ (i * 3) 0 ≡ get_or lv (i * 3) 0 = rw y at (away i 0 d (omega arith)) in
          rw (y₀, away i 1 d (omega arith), away i 2 d (omega arith), get_or-set_other ws k i (record { price = (nth ws k).price; queue = cut c (nth ws k).queue }) (empty 0) d)
          (level_frame r₂ (λ x j. unlink_agree x (v.rows x (omega (arith, nth_times x ws i (omega (arith, s.count))))).some
          (omega (arith, v.once x, two_times x ws k i (omega (arith, s.count)) (omega (arith, s.count)) d))) (s.level i h))
