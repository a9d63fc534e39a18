-- A record put behind the last of a level's queue. Assumes nothing.
use Prim.Native.Nat.{suc, zero, ℕ, ◌*◌, ◌+◌, ◌-◌, ◌<◌, ◌≤◌}
use mathlib.Core.Bool.{Bool, false, true}
use mathlib.Core.List.{List, [], ◌++◌, ◌∷◌}
use mathlib.Core.Logic.{◌≢◌}
use mathlib.Core.Path.{ap, refl, sym, ◌∙◌, ◌≡◌}
use native.Mathlib.Omega.{arith}
use lib.Dec.{eqb}
use lib.ListN.{get_or, length, length-set, set}
use lib.Seq.{get_or-set_other, get_or-set_same}
use borrow.Author.Tests.{eqb-false, eqb-true}
use Rattle.rules.specs.Whole.{one}
use Rattle.records.specs.Rows.{RecordAt, field, put}
use Rattle.records.proofs.Rows.{field_column, field_record, field_same}
use Rattle.arena.specs.Links.{appended, link, link_lv, link_rs}
use Rattle.arena.specs.Ring.{Run}
use Rattle.arena.specs.Times.{times}
use Rattle.arena.proofs.Links.{appended_field, link_some, tie_field, tie_lv_length, tie_off, tie_record, tie_row, tie_rs_length, tie_same}
use Rattle.arena.proofs.Ring.{append_run, before_in}
use Rattle.arena.proofs.Times.{one_other, one_self, times_snoc}
use Rattle.side.specs.Levels.{Ladder, LevelStored, Lvl, empty, nth, ups}
use Rattle.side.proofs.Levels.{Agree, Nodes, level_frame, node_row, nth_times, two_times, with, with_price}

pub appended_agree : (rs : List ℕ) (t c x : ℕ) → 1 ≤ x → 1 ≤ c → x ≢ c → (1 ≤ t → x ≢ t) → Agree rs (appended rs t c) x
appended_agree rs t c x i j a b = record {
  price = sym (field_record (put (link_rs rs 3 t c) 3 c 0) 4 2 c x t (omega arith) (omega arith) j i a ∙ (field_record (link_rs rs 3 t c) 3 2 c x 0 (omega arith) (omega arith) j i a ∙ tie_field rs 3 2 t c x (omega arith) (omega arith) (omega arith)));
  next = sym (field_record (put (link_rs rs 3 t c) 3 c 0) 4 3 c x t (omega arith) (omega arith) j i a ∙ (field_record (link_rs rs 3 t c) 3 3 c x 0 (omega arith) (omega arith) j i a ∙ tie_record rs 3 t c x (omega arith) i b));
  prev = sym (field_record (put (link_rs rs 3 t c) 3 c 0) 4 4 c x t (omega arith) (omega arith) j i a ∙ (field_record (link_rs rs 3 t c) 3 4 c x 0 (omega arith) (omega arith) j i a ∙ tie_field rs 3 4 t c x (omega arith) (omega arith) (omega arith)));
}

module _ {rs lv : List ℕ} {n : ℕ} {ws : List Lvl} (k c : ℕ) (s : Ladder rs lv n ws) (v : Nodes rs ws) (kn : k < n) (new : times c (ups ws) ≡ 0) (row : RecordAt rs c) (same : field rs 2 c ≡ (nth ws k).price) where
  abbrev tc : ℕ
  tc = get_or lv (k * 3 + 2) 0

  abbrev l₁ : List ℕ
  l₁ = link_lv lv (k * 3 + 1) tc c

  abbrev l₂ : List ℕ
  l₂ = set l₁ (k * 3 + 2) c

  abbrev r₁ : List ℕ
  r₁ = link_rs rs 3 tc c

  abbrev r₂ : List ℕ
  r₂ = appended rs tc c

  abbrev F : ℕ → ℕ
  F = link rs 3 (get_or lv (k * 3 + 1) 0)

  abbrev B : ℕ → ℕ
  B = link rs 4 (get_or lv (k * 3 + 2) 0)

  abbrev G : ℕ → ℕ
  G = link r₂ 3 (get_or l₂ (k * 3 + 1) 0)

  abbrev C : ℕ → ℕ
  C = link r₂ 4 (get_or l₂ (k * 3 + 2) 0)

  kw : k < length ws
  kw = omega (arith, s.count)

  pub last_node : 1 ≤ times tc (nth ws k).queue + one (eqb tc 0)
  last_node = omega (arith, before_in F B 0 (nth ws k).queue 0 0 (omega (arith, one_self 0)) (s.level k kn).ring)

  pub row_t : 1 ≤ tc → RecordAt rs tc
  row_t h = node_row k tc v kw last_node h

  tc≢c : tc ≢ c
  tc≢c e = omega (arith, last_node, row.some, nth_times c ws k kw, one_other c 0 (omega (arith, row.some)), ap (λ (m : ℕ). times m (nth ws k).queue + one (eqb m 0)) e)

  row₁ : RecordAt r₁ c
  row₁ = record { some = row.some; inside = omega (arith, row.inside, tie_rs_length rs 3 tc c) }

  row₁₂ : RecordAt (put r₁ 3 c 0) c
  row₁₂ = record { some = row.some; inside = omega (arith, row₁.inside, length-set r₁ ((c - 1) * 5 + 3) 0) }

  G_is : (x : ℕ) → x ≢ c → G x ≡ link r₁ 3 (get_or l₁ (k * 3 + 1) 0) x
  G_is zero d = get_or-set_other l₁ (k * 3 + 2) (k * 3 + 1) c 0 (omega arith)
  G_is (suc r) d = field_column (put r₁ 3 c 0) 4 3 c (suc r) tc (omega arith) (omega arith) (omega arith) ∙ field_record r₁ 3 3 c (suc r) 0 (omega arith) (omega arith) row.some (omega arith) d

  tie_f : G tc ≡ c
  tie_f = G_is tc tc≢c ∙ tie_same rs lv 3 (k * 3 + 1) tc c (omega arith) (omega (arith, s.room)) row_t

  end_f : G c ≡ 0
  end_f = link_some r₂ 3 (get_or l₂ (k * 3 + 1) 0) c row.some ∙ (field_column (put r₁ 3 c 0) 4 3 c c tc (omega arith) (omega arith) (omega arith) ∙ field_same r₁ 3 c 0 (omega arith) row₁)

  tie_b : C c ≡ tc
  tie_b = link_some r₂ 4 (get_or l₂ (k * 3 + 2) 0) c row.some ∙ field_same (put r₁ 3 c 0) 4 c tc (omega arith) row₁₂

  end_b : C 0 ≡ c
  end_b = get_or-set_same l₁ (k * 3 + 2) c 0 (omega (arith, s.room, tie_lv_length lv (k * 3 + 1) tc c))

  off_f : (x : ℕ) → x ≢ tc → x ≢ c → G x ≡ F x
  off_f x d e = G_is x e ∙ tie_off rs lv 3 (k * 3 + 1) tc c x (omega arith) d

  off_b : (x : ℕ) → x ≢ 0 → x ≢ c → C x ≡ B x
  off_b zero d e = absurd (d refl)
  off_b (suc r) d e = field_record (put r₁ 3 c 0) 4 4 c (suc r) tc (omega arith) (omega arith) row.some (omega arith) e
      ∙ (field_column r₁ 3 4 c (suc r) 0 (omega arith) (omega arith) (omega arith) ∙ tie_field rs 3 4 tc c (suc r) (omega arith) (omega arith) (omega arith))

  own_ring : Run G C 0 ((nth ws k).queue ++ c ∷ []) 0
  own_ring = append_run F B G C c 0 tie_f end_f tie_b end_b off_f off_b 0 (nth ws k).queue
      (omega (arith, nth_times c ws k kw, one_other c 0 (omega (arith, row.some))))
      (λ x. omega (arith, v.once x, nth_times x ws k kw)) (λ x. omega (arith, v.once x, nth_times x ws k kw)) (s.level k kn).ring

  -- FRAME: a record that is neither c nor in this queue keeps its price and its links
  pub append_agree : (x : ℕ) → 1 ≤ x → x ≢ c → times x (nth ws k).queue ≡ 0 → Agree rs r₂ x
  append_agree x i d z = appended_agree rs tc c x i row.some d
      (λ h e. omega (arith, last_node, one_other tc 0 (omega arith), ap (λ (m : ℕ). times m (nth ws k).queue) e))

  pub append_side : Ladder r₂ l₂ n (with ws k ((nth ws k).queue ++ c ∷ []))
  append_side = record {
    count = length-set ws k _ ∙ s.count;
    room = omega (arith, s.room, tie_lv_length lv (k * 3 + 1) tc c, length-set l₁ (k * 3 + 2) c);
    level = λ i h. go i h (eqb i k) refl;
    rising = λ i j a b. rw (with_price ws k i ((nth ws k).queue ++ c ∷ []), with_price ws k j ((nth ws k).queue ++ c ∷ [])) (s.rising i j a b);
  }
    where
      away : (i j : ℕ) → i ≢ k → j < 3 → get_or l₂ (i * 3 + j) 0 ≡ get_or lv (i * 3 + j) 0
      away i j d h = get_or-set_other l₁ (k * 3 + 2) (i * 3 + j) c 0 (omega arith) ∙ tie_row lv (k * 3 + 1) (i * 3 + j) tc c (omega arith)

      cases : (x : ℕ) (t : Bool) → eqb x c ≡ t → 1 ≤ times x ((nth ws k).queue ++ c ∷ []) → field r₂ 2 x ≡ (nth ws k).price
      cases x true e i = rw (eqb-true x c e) (appended_field rs 2 tc c c (omega arith) ∙ same)
      cases x false e i = appended_field rs 2 tc c x (omega arith) ∙ (s.level k kn).priced x (omega (arith, times_snoc x (nth ws k).queue c, ap one e))

      go : (i : ℕ) → i < n → (t : Bool) → eqb i k ≡ t → LevelStored r₂ (get_or l₂ (i * 3) 0) (get_or l₂ (i * 3 + 1) 0) (get_or l₂ (i * 3 + 2) 0) (nth (with ws k ((nth ws k).queue ++ c ∷ [])) i)
      go i h true e =
          let z : i ≡ k = eqb-true i k e in
          rw (z, get_or-set_same ws k (record { price = (nth ws k).price; queue = (nth ws k).queue ++ c ∷ [] }) (empty 0) kw)
          (record {
            price = get_or-set_other l₁ (k * 3 + 2) (k * 3) c 0 (omega arith) ∙ (tie_row lv (k * 3 + 1) (k * 3) tc c (omega arith) ∙ (s.level k kn).price);
            ring = own_ring;
            priced = λ x j. cases x (eqb x c) refl j;
          })
      go i h false e =
          let d : i ≢ k = eqb-false i k e in
          let y : i * 3 + 0 ≡ i * 3 = omega arith in
          let y₀ : get_or l₂ (i * 3) 0 ≡ get_or lv (i * 3) 0 = rw y at (away i 0 d (omega arith)) in
          rw (y₀, away i 1 d (omega arith), away i 2 d (omega arith), get_or-set_other ws k i (record { price = (nth ws k).price; queue = (nth ws k).queue ++ c ∷ [] }) (empty 0) d)
          (level_frame r₂ (λ x j. append_agree x (v.rows x (omega (arith, nth_times x ws i (omega (arith, s.count))))).some
          (λ q. omega (arith, nth_times c ws i (omega (arith, s.count)), ap (λ (m : ℕ). times m (nth ws i).queue) q))
          (omega (arith, v.once x, two_times x ws k i kw (omega (arith, s.count)) d))) (s.level i h))
