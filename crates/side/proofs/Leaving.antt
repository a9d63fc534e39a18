-- From storage to the list of levels: a code leaves. Assumes nothing.
use Prim.Native.Nat.{suc, zero, ℕ, ◌*◌, ◌+◌, ◌-◌, ◌<◌, ◌≤◌}
use mathlib.Core.Bool.{Bool, false, true}
use mathlib.Core.List.{List, [], ◌∷◌}
use mathlib.Core.Logic.{◌≢◌, ⊎_elim}
use mathlib.Core.Path.{ap, refl, sym, ◌∙◌, ◌≡◌}
use native.Mathlib.Omega.{arith}
use lib.Dec.{ltb}
use lib.ListN.{get_or, length}
use lib.Seq.{get_or-set_same}
use borrow.Author.Tests.{eq-eqb, le-ltb, lt-ltb, ltb-false, ltb-true}
use Rattle.rules.specs.Whole.{one}
use Rattle.records.specs.Rows.{RecordAt, field, put}
use Rattle.records.proofs.Cases.{lt?}
use Rattle.records.proofs.Rows.{field_column}
use Rattle.arena.specs.Free.{returned}
use Rattle.arena.specs.Links.{link, link_lv, untied}
use Rattle.arena.specs.Ring.{Run, cut}
use Rattle.arena.specs.Times.{times}
use Rattle.arena.proofs.Links.{tie_lv_length, untied_field}
use Rattle.arena.proofs.Times.{one_self, times_append}
use Rattle.side.specs.Doors.{CanDiscard, Discards, keep_level, without}
use Rattle.side.specs.Levels.{LevelStored, Lvl, empty, nth, ups}
use Rattle.side.specs.Prices.{Bracket, Closed}
use Rattle.side.specs.Stored.{Stored}
use Rattle.side.proofs.Ladder.{shut, shut_side, shut_ups}
use Rattle.side.proofs.Levels.{nth_times, with}
use Rattle.side.proofs.Stored.{at_most_one, discard_stored, keeps, nodes, row_of}
use Rattle.side.proofs.Unlinked.{row_n, row_p}

-- ## a code leaves
abbrev pub tidy_by : List ℕ → List Lvl → ℕ → List Lvl
tidy_by [] ws k = shut ws k
tidy_by (x ∷ q) ws k = ws

abbrev pub gone : List Lvl → ℕ → ℕ → List Lvl
gone ws k c = tidy_by (cut c (nth ws k).queue) (with ws k (cut c (nth ws k).queue)) k

pub gone_is : (ws : List Lvl) (k c : ℕ) → k < length ws → 1 ≤ times c (nth ws k).queue → times c (ups ws) ≤ 1 → gone ws k c ≡ without c ws
gone_is [] k c h i o = absurd (let z : ⊥ = omega arith in z)
gone_is (w ∷ ws) zero c h i o = rw (lt-ltb 0 (times c w.queue) i) (go (cut c w.queue))
  where
    go : (q : List ℕ) → tidy_by q (record { price = w.price; queue = q } ∷ ws) 0 ≡ keep_level w.price q ws
    go [] = refl
    go (x ∷ q) = refl
gone_is (w ∷ ws) (suc k) c h i o =
    let z : times c w.queue ≡ 0 = omega (arith, times_append c w.queue (ups ws), nth_times c ws k (omega arith)) in
    rw (le-ltb 0 (times c w.queue) (omega arith))
    (go (cut c (nth ws k).queue) ∙ ap (λ (l : List Lvl). w ∷ l) (gone_is ws k c (omega arith) i (omega (arith, times_append c w.queue (ups ws)))))
  where
    go : (q : List ℕ) → tidy_by q (w ∷ with ws k q) (suc k) ≡ w ∷ tidy_by q (with ws k q) k
    go [] = refl
    go (x ∷ q) = refl

-- where a code of the side stands
pub record Stands (ws : List Lvl) (c : ℕ) : Type 0 where
  pub at : ℕ
  pub below : at < length ws
  pub inside : 1 ≤ times c (nth ws at).queue

pub stands : (ws : List Lvl) (c : ℕ) → 1 ≤ times c (ups ws) → Stands ws c
stands [] c h = absurd (let z : ⊥ = omega arith in z)
stands (w ∷ ws) c h = go (ltb 0 (times c w.queue)) refl (stands ws c)
  where
    go : (b : Bool) → ltb 0 (times c w.queue) ≡ b → (1 ≤ times c (ups ws) → Stands ws c) → Stands (w ∷ ws) c
    go true e k = record { at = 0; below = omega arith; inside = ltb-true 0 (times c w.queue) e }
    go false e k =
        let s = k (omega (arith, times_append c w.queue (ups ws), ltb-false 0 (times c w.queue) e)) in
        record { at = suc s.at; below = omega (arith, s.below); inside = s.inside }

module _ {n : ℕ} {rs lv ov : List ℕ} {s t f r : ℕ} {ws vs : List Lvl} {fr : List ℕ} (k c : ℕ) (w : Stored n rs lv ov s t f r ws vs fr) (i : 1 ≤ times c (ups ws)) (b : Bracket lv s (field rs 2 c) k k) where
  found_row : (j : ℕ) → j < s → 1 ≤ times c (nth ws j).queue → j ≡ k
  found_row j h g =
      let e : field rs 2 c ≡ (nth ws j).price = (w.mine.level j h).priced c g in
      let d : get_or lv (j * 3) 0 ≡ (nth ws j).price = (w.mine.level j h).price in
      ⊎_elim (λ q. absurd (let z : ⊥ = omega (arith, b.low j q) in z))
      (λ q. ⊎_elim (λ p. absurd (let z : ⊥ = omega (arith, b.high k (omega arith) (omega arith), w.mine.rising k j p h, (w.mine.level k (omega arith)).price) in z)) (λ p. omega arith) (lt? k j)) (lt? j k)

  pub in_row : (k < s) × (1 ≤ times c (nth ws k).queue)
  in_row =
      let v = stands ws c i in
      let h : v.at < s = omega (arith, v.below, w.mine.count) in
      let e : v.at ≡ k = found_row v.at h v.inside in
      (rw e at h, rw e at v.inside)

-- the head says whether the queue is empty
pub head_none : {rs : List ℕ} {p h t : ℕ} {w : Lvl} → LevelStored rs p h t w → times 0 w.queue ≡ 0 → h ≡ 0 → w.queue ≡ []
head_none {rs} {p} {h} {t} {w} v z e = go w.queue v.ring z
  where
    go : (q : List ℕ) → Run (link rs 3 h) (link rs 4 t) 0 q 0 → times 0 q ≡ 0 → q ≡ []
    go [] r y = refl
    go (x ∷ q) r y = absurd (let g : 0 ≡ x = sym e ∙ r.0 in let m : ⊥ = omega (arith, ap one (eq-eqb 0 x g)) in m)

pub head_some : {rs : List ℕ} {p h t : ℕ} {w : Lvl} → LevelStored rs p h t w → h ≢ 0 → (x : ℕ) × (q : List ℕ) × (w.queue ≡ x ∷ q)
head_some {rs} {p} {h} {t} {w} v d = go w.queue v.ring
  where
    go : (q : List ℕ) → Run (link rs 3 h) (link rs 4 t) 0 q 0 → (x : ℕ) × (l : List ℕ) × (q ≡ x ∷ l)
    go [] r = absurd (d r.0)
    go (x ∷ q) r = (x, q, refl)

pub shut_stored : {n : ℕ} {rs lv ov : List ℕ} {s t f r : ℕ} {ws vs : List Lvl} {fr : List ℕ} (lw : List ℕ) (k : ℕ) → Stored n rs lv ov s t f r ws vs fr → k < s
    → (nth ws k).queue ≡ [] → Closed lv (k * 3) ((s - 1) * 3) lw → Stored n rs lw ov (s - 1) t f r (shut ws k) vs fr
shut_stored {ws = ws} {vs = vs} {fr = fr} lw k w h e o = record {
  rows = w.rows;
  mine = shut_side lw k w.mine h o;
  theirs = w.theirs;
  free = w.free;
  none = w.none;
  once = λ x. rw (shut_ups ws k e) (w.once x);
  full = rw (shut_ups ws k e) w.full;
  rest = rw (shut_ups ws k e) w.rest;
}

tidy_some : (q : List ℕ) (ws : List Lvl) (k x : ℕ) (l : List ℕ) → q ≡ x ∷ l → tidy_by q ws k ≡ ws
tidy_some q ws k x l e = rw e

tidy_none : (q : List ℕ) (ws : List Lvl) (k : ℕ) → q ≡ [] → tidy_by q ws k ≡ shut ws k
tidy_none q ws k e = rw e

module _ {n : ℕ} {rs lv ov : List ℕ} {s t f r : ℕ} {ws vs : List Lvl} {fr : List ℕ} (k c : ℕ) (w : Stored n rs lv ov s t f r ws vs fr) (i : 1 ≤ times c (ups ws)) (b : Bracket lv s (field rs 2 c) k k) where
  abbrev pc : ℕ
  pc = field rs 4 c

  abbrev nc : ℕ
  nc = field rs 3 c

  abbrev r₃ : List ℕ
  r₃ = returned (untied rs pc nc) c f

  abbrev l₂ : List ℕ
  l₂ = link_lv (link_lv lv (k * 3 + 1) pc nc) (k * 3 + 2) nc pc

  abbrev w₂ : List Lvl
  w₂ = with ws k (cut c (nth ws k).queue)

  kw : k < length ws
  kw = omega (arith, (in_row k c w i b).0, w.mine.count)

  mid : Stored n r₃ l₂ ov s t c (r - 1) w₂ vs (c ∷ fr)
  mid = discard_stored k c w (in_row k c w i b).0 (in_row k c w i b).1

  queue₂ : (nth w₂ k).queue ≡ cut c (nth ws k).queue
  queue₂ = ap (λ (v : Lvl). v.queue) (get_or-set_same ws k (record { price = (nth ws k).price; queue = cut c (nth ws k).queue }) (empty 0) kw)

  gone₂ : gone ws k c ≡ without c ws
  gone₂ = gone_is ws k c kw (in_row k c w i b).1 (omega (arith, at_most_one w c))

  pub discard_keep : get_or l₂ (k * 3 + 1) 0 ≢ 0 → Stored n r₃ l₂ ov s t c (r - 1) (without c ws) vs (c ∷ fr)
  discard_keep h =
      let g = head_some (mid.mine.level k (in_row k c w i b).0) h in
      let e : without c ws ≡ w₂ = sym gone₂ ∙ tidy_some (cut c (nth ws k).queue) w₂ k g.0 g.1 (sym queue₂ ∙ g.2) in
      rw e mid

  pub discard_shut : (lw : List ℕ) → get_or l₂ (k * 3 + 1) 0 ≡ 0 → Closed l₂ (k * 3) ((s - 1) * 3) lw → Stored n r₃ lw ov (s - 1) t c (r - 1) (without c ws) vs (c ∷ fr)
  discard_shut lw h o =
      let m = head_none (mid.mine.level k (in_row k c w i b).0) (omega (arith, at_most_one mid 0, one_self 0, nth_times 0 w₂ k (omega (arith, mid.mine.count, (in_row k c w i b).0)))) h in
      let e : without c ws ≡ shut w₂ k = sym gone₂ ∙ tidy_none (cut c (nth ws k).queue) w₂ k (sym queue₂ ∙ m) in
      rw e (shut_stored lw k mid (in_row k c w i b).0 m o)

  pub discard_fields : (g x : ℕ) → g < 3 → 1 ≤ x → x ≢ c → field r₃ g x ≡ field rs g x
  discard_fields = keeps k c w (in_row k c w i b).0 (in_row k c w i b).1

pub discard_ids : (rs : List ℕ) (p n c f x : ℕ) → field (returned (untied rs p n) c f) 0 x ≡ field rs 0 x
discard_ids rs p n c f x =
    field_column (put (untied rs p n) 1 c 0) 3 0 c x f (omega arith) (omega arith) (omega arith) ∙ (field_column (untied rs p n) 1 0 c x 0 (omega arith) (omega arith) (omega arith) ∙ untied_field rs 0 p n x (omega arith))

-- as the code asks it: h is what is required, then what each call ensures
module _ {rs lv : List ℕ} {s f c : ℕ} (h : CanDiscard rs lv s f c) {p k : ℕ} (ep : p ≡ field rs 2 c) (b : Bracket lv s p k k) where
  b' : Bracket lv s (field rs 2 c) k k
  b' = rw ep at b

  pub unlink_needs : (k * 3 + 2 < length lv) × RecordAt rs c × (1 ≤ field rs 4 c → RecordAt rs (field rs 4 c)) × (1 ≤ field rs 3 c → RecordAt rs (field rs 3 c))
  unlink_needs =
      let w = h.stored in
      let m = in_row k c w h.inside b' in
      (omega (arith, w.mine.room), row_of w c (omega (arith, h.inside)), row_p k c w.mine (nodes w) m.0 m.1, row_n k c w.mine (nodes w) m.0 m.1)

  pub shut_needs : {l₁ : List ℕ} → l₁ ≡ link_lv (link_lv lv (k * 3 + 1) (field rs 4 c) (field rs 3 c)) (k * 3 + 2) (field rs 3 c) (field rs 4 c) → (k < s) × (s * 3 ≤ length l₁)
  shut_needs e = (
    (in_row k c h.stored h.inside b').0,
    omega (arith, h.stored.mine.room, ap length e, tie_lv_length lv (k * 3 + 1) (field rs 4 c) (field rs 3 c), tie_lv_length (link_lv lv (k * 3 + 1) (field rs 4 c) (field rs 3 c)) (k * 3 + 2) (field rs 3 c) (field rs 4 c)),
  )

  module _ {r₁ r₂ l₁ : List ℕ} (e₁ : r₁ ≡ untied rs (field rs 4 c) (field rs 3 c))
      (d₁ : l₁ ≡ link_lv (link_lv lv (k * 3 + 1) (field rs 4 c) (field rs 3 c)) (k * 3 + 2) (field rs 3 c) (field rs 4 c)) (e₂ : r₂ ≡ returned r₁ c f) where
    e₃ : r₂ ≡ returned (untied rs (field rs 4 c) (field rs 3 c)) c f
    e₃ = e₂ ∙ ap (λ (x : List ℕ). returned x c f) e₁

    pub discards_keep : get_or l₁ (k * 3 + 1) 0 ≢ 0 → Discards rs lv s f c r₂ l₁ s c
    discards_keep z = rw (e₃, d₁) (record {
      stored = λ {n} {ov} {t} {r} {ws} {vs} {fr} w i. discard_keep k c w i b' (rw d₁ at z);
      fields = discard_fields k c h.stored h.inside b';
      ids = discard_ids rs (field rs 4 c) (field rs 3 c) c f;
    })

    pub discards_shut : (lw : List ℕ) → get_or l₁ (k * 3 + 1) 0 ≡ 0 → Closed l₁ (k * 3) ((s - 1) * 3) lw → Discards rs lv s f c r₂ lw (s - 1) c
    discards_shut lw z o = rw e₃ (record {
      stored = λ {n} {ov} {t} {r} {ws} {vs} {fr} w i. discard_shut k c w i b' lw (rw d₁ at z) (rw d₁ at o);
      fields = discard_fields k c h.stored h.inside b';
      ids = discard_ids rs (field rs 4 c) (field rs 3 c) c f;
    })
