-- From storage to the list of levels: a free record is written and put behind all others at its price. Assumes nothing.
use Prim.Native.Nat.{suc, zero, ℕ, ◌*◌, ◌+◌, ◌-◌, ◌<◌, ◌≤◌}
use mathlib.Core.List.{List, [], ◌++◌, ◌∷◌}
use mathlib.Core.Logic.{◌≢◌, ⊎_elim}
use mathlib.Core.Path.{ap, refl, sym, ◌∙◌, ◌≡◌}
use native.Mathlib.Omega.{arith}
use lib.Dec.{eqb}
use lib.ListN.{get_or, length, length-append, length-set, set}
use borrow.Author.Tests.{eq-eqb, le-ltb, lt-ltb, ne_eqb}
use Rattle.rules.specs.Whole.{one}
use Rattle.records.specs.Rows.{RecordAt, field, put}
use Rattle.records.proofs.Cases.{lt?}
use Rattle.records.proofs.Rows.{field_column, field_same, row_length}
use Rattle.arena.specs.Free.{record_written}
use Rattle.arena.specs.Links.{appended, link_lv}
use Rattle.arena.specs.Times.{times}
use Rattle.arena.proofs.Free.{chain_frame, written_length, written_other}
use Rattle.arena.proofs.Links.{appended_field, appended_length}
use Rattle.arena.proofs.Times.{one_self, times_snoc}
use Rattle.side.specs.Doors.{CanRest, Rests, resting}
use Rattle.side.specs.Levels.{Ladder, Lvl, nth, ups}
use Rattle.side.specs.Prices.{Bracket, Ready, new, old}
use Rattle.side.specs.Stored.{Stored}
use Rattle.side.proofs.Appended.{append_agree, append_side, row_t}
use Rattle.side.proofs.Ladder.{gap, open_at, open_side, open_ups}
use Rattle.side.proofs.Levels.{Agree, Nodes, nth_times, side_frame, with, with_length, with_times}
use Rattle.side.proofs.Stored.{at_most_one, row_of}

pub rested_old : (ws : List Lvl) (k c p : ℕ) → k < length ws → ((i : ℕ) → i < k → (nth ws i).price < p) → (nth ws k).price ≡ p → with ws k ((nth ws k).queue ++ c ∷ []) ≡ resting c p ws
rested_old [] k c p h l e = absurd (let z : ⊥ = omega arith in z)
rested_old (w ∷ ws) zero c p h l e = rw (le-ltb w.price p (omega arith), eq-eqb w.price p e)
rested_old (w ∷ ws) (suc k) c p h l e = rw (lt-ltb w.price p (l 0 (omega arith)), rested_old ws k c p (omega arith) (λ i g. l (suc i) (omega arith)) e)

pub rested_new : (ws : List Lvl) (k c p : ℕ) → k ≤ length ws → ((i : ℕ) → i < k → (nth ws i).price < p) → (k < length ws → p < (nth ws k).price)
    → with (gap ws k p) k ((nth (gap ws k p) k).queue ++ c ∷ []) ≡ resting c p ws
rested_new [] zero c p h l g = refl
rested_new (w ∷ ws) zero c p h l g =
    let o : p < w.price = g (omega arith) in
    rw (le-ltb w.price p (omega arith), ne_eqb w.price p (omega arith))
rested_new [] (suc k) c p h l g = absurd (let z : ⊥ = omega arith in z)
rested_new (w ∷ ws) (suc k) c p h l g = rw (lt-ltb w.price p (l 0 (omega arith)), rested_new ws k c p (omega arith) (λ i a. l (suc i) (omega arith)) (λ a. g (omega arith)))

module _ {n : ℕ} {rs lv ov : List ℕ} {s t c r : ℕ} {ws vs : List Lvl} {fr : List ℕ} (id q p k : ℕ) (w : Stored n rs lv ov s t c r ws vs (c ∷ fr)) where
  abbrev r₁ : List ℕ
  r₁ = record_written rs c id q p

  once_c : times c (ups ws) + times c (ups vs) + times c fr ≡ 0
  once_c = omega (arith, at_most_one w c, one_self c)

  pub row : RecordAt rs c
  row = row_of w c (omega (arith, one_self c))

  pub row₁ : RecordAt r₁ c
  row₁ = row_length r₁ (written_length rs c id q p) row

  price₁ : field r₁ 2 c ≡ p
  price₁ = field_same (put (put rs 0 c id) 1 c q) 2 c p (omega arith) (row_length _ (length-set (put rs 0 c id) ((c - 1) * 5 + 1) q ∙ length-set rs ((c - 1) * 5 + 0) id) row)

  agree₁ : (x : ℕ) → 1 ≤ times x (ups ws) + times x (ups vs) + times x fr → Agree rs r₁ x
  agree₁ x i =
      let d : x ≢ c = λ e. omega (arith, once_c, ap (λ (m : ℕ). times m (ups ws) + times m (ups vs) + times m fr) e) in
      let a : 1 ≤ x = (row_of w x (omega arith)).some in
      record { price = sym (written_other rs 2 c id q p x (omega arith) row.some a d); next = sym (written_other rs 3 c id q p x (omega arith) row.some a d); prev = sym (written_other rs 4 c id q p x (omega arith) row.some a d) }

  pub side₁ : Ladder r₁ lv s ws
  side₁ = side_frame r₁ (λ x i. agree₁ x (omega arith)) w.mine

  -- with the row there: us is ws, or ws with an empty level
  module _ {m : ℕ} {lw : List ℕ} {us : List Lvl} (a : Ladder r₁ lw m us) (e : ups us ≡ ups ws) (km : k < m) (pk : (nth us k).price ≡ p) where
    abbrev tc : ℕ
    tc = get_or lw (k * 3 + 2) 0

    abbrev r₂ : List ℕ
    r₂ = appended r₁ tc c

    abbrev l₂ : List ℕ
    l₂ = set (link_lv lw (k * 3 + 1) tc c) (k * 3 + 2) c

    abbrev u₂ : List Lvl
    u₂ = with us k ((nth us k).queue ++ c ∷ [])

    ku : k < length us
    ku = omega (arith, a.count)

    nodes₁ : Nodes r₁ us
    nodes₁ = record { once = λ x. rw e (omega (arith, at_most_one w x)); rows = λ x i. row_length r₁ (written_length rs c id q p) (row_of w x (omega (arith, rw e at i))) }

    new_c : times c (ups us) ≡ 0
    new_c = rw e (omega (arith, once_c))

    pub append_needs : (k * 3 + 2 < length lw) × RecordAt r₁ c × (1 ≤ tc → RecordAt r₁ tc)
    append_needs = (omega (arith, a.room), row₁, row_t k c a nodes₁ km new_c row₁ (price₁ ∙ sym pk))

    more_times : (x : ℕ) → times x (ups u₂) ≡ times x (ups ws) + one (eqb x c)
    more_times x = omega (arith, with_times x us k (record { price = (nth us k).price; queue = (nth us k).queue ++ c ∷ [] }) ku, times_snoc x (nth us k).queue c, ap (times x) e)

    more_length : length (ups u₂) ≡ length (ups ws) + 1
    more_length = omega (arith, with_length us k (record { price = (nth us k).price; queue = (nth us k).queue ++ c ∷ [] }) ku, length-append (nth us k).queue (c ∷ []), ap (λ (l : List ℕ). length l) e)

    off_c : (x : ℕ) → 1 ≤ times x (ups vs) + times x fr → x ≢ c
    off_c x i y = omega (arith, once_c, ap (λ (j : ℕ). times j (ups vs) + times j fr) y)

    agree : (x : ℕ) → 1 ≤ times x (ups vs) + times x fr → Agree rs r₂ x
    agree x i =
        let f = agree₁ x (omega arith) in
        let g = append_agree k c a nodes₁ km new_c row₁ (price₁ ∙ sym pk) x (row_of w x (omega arith)).some (off_c x i)
        (omega (arith, at_most_one w x, nth_times x us k ku, ap (times x) e)) in
        record { price = f.price ∙ g.price; next = f.next ∙ g.next; prev = f.prev ∙ g.prev }

    -- FRAME
    pub keeps : (g x : ℕ) → g < 3 → 1 ≤ x → x ≢ c → field r₂ g x ≡ field rs g x
    keeps g x h i d = appended_field r₁ g tc c x h ∙ written_other rs g c id q p x (omega arith) row.some i d

    pub own_id : field r₂ 0 c ≡ id
    own_id = appended_field r₁ 0 tc c c (omega arith) ∙ (field_column (put (put rs 0 c id) 1 c q) 2 0 c c p (omega arith) (omega arith) (omega arith)
        ∙ (field_column (put rs 0 c id) 1 0 c c q (omega arith) (omega arith) (omega arith) ∙ field_same rs 0 c id (omega arith) row))

    pub own_quantity : field r₂ 1 c ≡ q
    own_quantity = appended_field r₁ 1 tc c c (omega arith) ∙ (field_column (put (put rs 0 c id) 1 c q) 2 1 c c p (omega arith) (omega arith) (omega arith)
        ∙ field_same (put rs 0 c id) 1 c q (omega arith) (row_length _ (length-set rs ((c - 1) * 5 + 0) id) row))

    pub own_price : field r₂ 2 c ≡ p
    own_price = appended_field r₁ 2 tc c c (omega arith) ∙ price₁

    pub rest_stored : Stored n r₂ l₂ ov m t (field rs 3 c) (r + 1) u₂ vs fr
    rest_stored = record {
      rows = appended_length r₁ tc c ∙ (written_length rs c id q p ∙ w.rows);
      mine = append_side k c a nodes₁ km new_c row₁ (price₁ ∙ sym pk);
      theirs = side_frame r₂ (λ x i. agree x (omega arith)) w.theirs;
      free = chain_frame rs r₂ (field rs 3 c) fr (λ x i. (agree x (omega arith)).next) w.free.1;
      none = λ x i. keeps 1 x (omega arith) (row_of w x (omega arith)).some (off_c x (omega arith)) ∙ w.none x (omega arith);
      once = λ x. omega (arith, w.once x, more_times x);
      full = omega (arith, w.full, more_length);
      rest = omega (arith, w.rest, more_length);
    }

  -- the row is made ready
  module _ (b : Bracket lv s p k k) where
    low : (i : ℕ) → i < k → (nth ws i).price < p
    low i h = omega (arith, b.low i h, (w.mine.level i (omega (arith, b.within))).price)

    high : (k < s → get_or lv (k * 3) 0 ≢ p) → (i : ℕ) → k ≤ i → i < s → p < (nth ws i).price
    high d i h g =
        let e = (w.mine.level i g).price in
        let f = (w.mine.level k (omega arith)).price in
        ⊎_elim (λ z. omega (arith, b.high k (omega arith) (omega arith), w.mine.rising k i z g))
        (λ z. let y : i ≡ k = omega arith in let o : get_or lv (i * 3) 0 ≢ p = rw y (d (omega arith)) in omega (arith, b.high i h g)) (lt? k i)

    module _ {m : ℕ} {lw : List ℕ} where
      -- the levels that the row stands among
      abbrev amid : Ready lv s k p m lw → List Lvl
      amid (old x y z u) = ws
      amid (new x y z u) = gap ws k p

      pub ready_side : (h : Ready lv s k p m lw) → Ladder r₁ lw m (amid h)
      ready_side (old x y z u) = rw (x, y) side₁
      ready_side (new x y z u) = rw x (open_side lw k p side₁ b.within y u low (high z))

      pub ready_ups : (h : Ready lv s k p m lw) → ups (amid h) ≡ ups ws
      ready_ups (old x y z u) = refl
      ready_ups (new x y z u) = open_ups ws k p

      pub ready_in : (h : Ready lv s k p m lw) → k < m
      ready_in (old x y z u) = omega arith
      ready_in (new x y z u) = omega (arith, b.within)

      pub ready_price : (h : Ready lv s k p m lw) → (nth (amid h) k).price ≡ p
      ready_price (old x y z u) = sym (w.mine.level k z).price ∙ u
      ready_price (new x y z u) = ap (λ (v : Lvl). v.price) (open_at ws k p (omega (arith, b.within, w.mine.count)))

      pub ready_is : (h : Ready lv s k p m lw) → with (amid h) k ((nth (amid h) k).queue ++ c ∷ []) ≡ resting c p ws
      ready_is (old x y z u) = rested_old ws k c p (omega (arith, w.mine.count)) low (sym (w.mine.level k z).price ∙ u)
      ready_is (new x y z u) = rested_new ws k c p (omega (arith, b.within, w.mine.count)) low (λ g. high z k (omega arith) (omega (arith, w.mine.count)))

module _ {rs lv : List ℕ} {s c p : ℕ} (h : CanRest rs lv s c p) (id q : ℕ) {k : ℕ} (b : Bracket lv s p k k) where
  module _ {m : ℕ} {r₁ lw : List ℕ} (e₁ : r₁ ≡ record_written rs c id q p) (y : Ready lv s k p m lw) where
    pub append_asks : (k * 3 + 2 < length lw) × RecordAt r₁ c × (1 ≤ get_or lw (k * 3 + 2) 0 → RecordAt r₁ (get_or lw (k * 3 + 2) 0))
    append_asks = rw e₁ (let w = h.stored in append_needs id q p k w (ready_side id q p k w b y) (ready_ups id q p k w b y) (ready_in id q p k w b y) (ready_price id q p k w b y))

    pub rests : {r₂ l₂ : List ℕ} {f : ℕ} → f ≡ field rs 3 c → r₂ ≡ appended r₁ (get_or lw (k * 3 + 2) 0) c → l₂ ≡ set (link_lv lw (k * 3 + 1) (get_or lw (k * 3 + 2) 0) c) (k * 3 + 2) c → Rests rs lv s c id q p r₂ l₂ m f
    rests ef e₂ d₂ =
        let g : r₁ ≡ record_written rs c id q p = e₁ in
        let e₃ = e₂ ∙ ap (λ (x : List ℕ). appended x (get_or lw (k * 3 + 2) 0) c) e₁ in
        let w₀ = h.stored in
        rw (e₃, d₂, ef) (record {
          stored = λ {n} {ov} {t} {r} {ws} {vs} {fr} w. rw (← ready_is id q p k w b y) (rest_stored id q p k w (ready_side id q p k w b y) (ready_ups id q p k w b y) (ready_in id q p k w b y) (ready_price id q p k w b y));
          fields = keeps id q p k w₀ (ready_side id q p k w₀ b y) (ready_ups id q p k w₀ b y) (ready_in id q p k w₀ b y) (ready_price id q p k w₀ b y);
          named = own_id id q p k w₀ (ready_side id q p k w₀ b y) (ready_ups id q p k w₀ b y) (ready_in id q p k w₀ b y) (ready_price id q p k w₀ b y);
          holding = own_quantity id q p k w₀ (ready_side id q p k w₀ b y) (ready_ups id q p k w₀ b y) (ready_in id q p k w₀ b y) (ready_price id q p k w₀ b y);
          priced = own_price id q p k w₀ (ready_side id q p k w₀ b y) (ready_ups id q p k w₀ b y) (ready_in id q p k w₀ b y) (ready_price id q p k w₀ b y);
        })
