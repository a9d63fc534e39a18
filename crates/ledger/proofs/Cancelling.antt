-- A cancel takes out the order that the search finds, and no other. Assumes nothing.
use Prim.Native.Nat.{ℕ, ◌*◌, ◌+◌, ◌-◌, ◌<◌, ◌≤◌}
use mathlib.Core.Bool.{Bool, cond, false, not, true, ◌&&◌}
use mathlib.Core.List.{List, [], ◌∷◌}
use mathlib.Core.Logic.{◌≢◌, ◌⊎◌, ⊎_elim}
use mathlib.Core.Path.{ap, refl, subst, sym, ◌∙◌, ◌≡◌}
use native.Mathlib.Omega.{arith}
use lib.Dec.{eqb, ltb}
use lib.ListN.{get_or, length}
use borrow.Author.Tests.{eq-eqb, eqb-false, eqb-true, ltb-false, ltb-true}
use Rattle.rules.specs.Rules.{Order, Side, also, ask, bid, keep, only, stays}
use Rattle.rules.specs.Whole.{one}
use Rattle.records.specs.Rows.{RecordAt, field}
use Rattle.records.proofs.Cases.{lt?}
use Rattle.search.specs.Seek.{entry_for}
use Rattle.search.proofs.Entries.{found_at}
use Rattle.arena.specs.Ring.{cut}
use Rattle.arena.specs.Times.{times}
use Rattle.arena.proofs.Times.{one_self}
use Rattle.side.specs.Levels.{Lvl, nth, ups}
use Rattle.side.specs.Orders.{codes, order_at, orders}
use Rattle.side.specs.Read.{levels_in}
use Rattle.side.proofs.Leaving.{stands}
use Rattle.side.proofs.Levels.{nth_times}
use Rattle.side.proofs.Orders.{codes_times}
use Rattle.side.proofs.Stored.{at_most_one, row_of}
use Rattle.ledger.specs.Stock.{Stock}
use Rattle.ledger.specs.Desk.{LeavesAs, LedgerIn, Leaves, Tidy, read_book, stored_book, found}
use Rattle.ledger.specs.Doors.{ApartAt, ApartIn, On, RestsOn, SideTold, drop_in, dropped}
use Rattle.ledger.proofs.Best.{busy_at, some_of}

-- of these codes only c may be the one found under id
module _ (rs : List ℕ) (fnd : ℕ → Bool) (id c : ℕ) (this : (x : ℕ) → fnd x ≡ true → field rs 0 x ≡ id → x ≡ c) where
  -- where c is not
  keep_none : (l : List ℕ) → times c l ≡ 0 → keep (stays id) (orders rs fnd l) ≡ orders rs fnd l
  unfolding keep
  keep_none [] h = refl
  keep_none (x ∷ l) h = go (fnd x) refl (eqb (field rs 0 x) id) refl (keep_none l (omega arith))
    where
      go : (a : Bool) → fnd x ≡ a → (b : Bool) → eqb (field rs 0 x) id ≡ b → keep (stays id) (orders rs fnd l) ≡ orders rs fnd l
          → also (not (a && b)) (order_at rs fnd x) (keep (stays id) (orders rs fnd l)) ≡ order_at rs fnd x ∷ orders rs fnd l
      go true e true f k = absurd (let z : x ≡ c = this x e (eqb-true (field rs 0 x) id f) in let y : ⊥ = omega (arith, h, one_self c, ap (λ (m : ℕ). one (eqb c m)) z) in y)
      go true e false f k = ap (λ (m : List (Order (Unit {0}))). order_at rs fnd x ∷ m) k
      go false e b f k = ap (λ (m : List (Order (Unit {0}))). order_at rs fnd x ∷ m) k

  -- where it is, once
  keep_cut : (l : List ℕ) → fnd c ≡ true → field rs 0 c ≡ id → 1 ≤ times c l → times c l ≤ 1 → keep (stays id) (orders rs fnd l) ≡ orders rs fnd (cut c l)
  unfolding keep
  keep_cut [] p q h o = absurd (let z : ⊥ = omega arith in z)
  keep_cut (x ∷ l) p q h o = go (eqb c x) refl (fnd x) refl (eqb (field rs 0 x) id) refl (keep_cut l p q)
    where
      go : (t : Bool) → eqb c x ≡ t → (a : Bool) → fnd x ≡ a → (b : Bool) → eqb (field rs 0 x) id ≡ b
          → (1 ≤ times c l → times c l ≤ 1 → keep (stays id) (orders rs fnd l) ≡ orders rs fnd (cut c l))
          → also (not (a && b)) (order_at rs fnd x) (keep (stays id) (orders rs fnd l)) ≡ orders rs fnd (cond t l (x ∷ cut c l))
      go true e true f true g k = keep_none l (omega (arith, ap one e))
      go true e true f false g k = absurd (eqb-false (field rs 0 x) id g (ap (field rs 0) (sym (eqb-true c x e)) ∙ q))
      go true e false f b g k = absurd (let z : ◌≡◌ {A = Bool} true false = sym p ∙ (ap fnd (eqb-true c x e) ∙ f) in let y : ◌≡◌ {A = ℕ} 0 1 = cc in let v : ⊥ = omega arith in v)
      go false e true f true g k = absurd (eqb-false c x e (sym (this x f (eqb-true (field rs 0 x) id g))))
      go false e true f false g k = ap (λ (m : List (Order (Unit {0}))). order_at rs fnd x ∷ m) (k (omega (arith, ap one e)) (omega arith))
      go false e false f b g k = ap (λ (m : List (Order (Unit {0}))). order_at rs fnd x ∷ m) (k (omega (arith, ap one e)) (omega arith))

module _ {rs bd ak se : List ℕ} {r f nb na : ℕ} (w : LedgerIn rs bd ak se r f nb na) where
  abbrev bw : List Lvl
  bw = levels_in rs bd nb

  abbrev aw : List Lvl
  aw = levels_in rs ak na

  this_one : (id c : ℕ) → entry_for se rs id ≡ c → (x : ℕ) → found se rs x ≡ true → field rs 0 x ≡ id → x ≡ c
  this_one id c e x p q = sym (eqb-true (entry_for se rs (field rs 0 x)) x p) ∙ (ap (entry_for se rs) q ∙ e)

  -- nothing is found: nothing leaves
  pub cancel_none : (id : ℕ) → entry_for se rs id ≡ 0 → Leaves (only (stays id) (stored_book rs bd ak se nb na)) rs bd ak se r f nb na
  unfolding only
  cancel_none id e = record {
    desk = w;
    book = λ k. record {
      bids = sym (keep_none rs (found se rs) id 0 (this_one id 0 e) (codes bid bw) (omega (arith, codes_times bid 0 bw, at_most_one w.stored 0, one_self 0))) k;
      asks = sym (keep_none rs (found se rs) id 0 (this_one id 0 e) (codes ask aw) (omega (arith, at_most_one w.stored 0, one_self 0))) k;
    };
  }

  -- the found record has the id
  pub cancel_drops : (sd : Side) (id c : ℕ) → entry_for se rs id ≡ c → field rs 0 c ≡ id → On sd c bw aw → drop_in sd c rs se bw aw ≡ only (stays id) (stored_book rs bd ak se nb na)
  unfolding only
  cancel_drops ask id c e q i =
      let p : found se rs c ≡ true = eq-eqb (entry_for se rs (field rs 0 c)) c (ap (entry_for se rs) q ∙ e) in
      λ k. record {
        bids = sym (keep_none rs (found se rs) id c (this_one id c e) (codes bid bw) (omega (arith, codes_times bid c bw, at_most_one w.stored c))) k;
        asks = sym (keep_cut rs (found se rs) id c (this_one id c e) (codes ask aw) p q i (omega (arith, at_most_one w.stored c))) k;
      }
  cancel_drops bid id c e q i =
      let p : found se rs c ≡ true = eq-eqb (entry_for se rs (field rs 0 c)) c (ap (entry_for se rs) q ∙ e) in
      λ k. record {
        bids = sym (keep_cut rs (found se rs) id c (this_one id c e) (codes bid bw) p q (omega (arith, codes_times bid c bw)) (omega (arith, codes_times bid c bw, at_most_one w.stored c))) k;
        asks = sym (keep_none rs (found se rs) id c (this_one id c e) (codes ask aw) (omega (arith, at_most_one w.stored c))) k;
      }

  -- the side of a resting code, by the highest bid
  pub bid_low : (c : ℕ) → 1 ≤ times c (ups bw) → (1 ≤ nb) × (field rs 2 c ≤ get_or bd ((nb - 1) * 3) 0)
  bid_low c i =
      let s = w.stored.mine in
      let v = stands bw c i in
      let h : v.at < nb = omega (arith, v.below, s.count) in (
        omega arith,
        ⊎_elim (λ z. omega (arith, (s.level v.at h).priced c v.inside, s.rising v.at (nb - 1) z (omega arith), (s.level (nb - 1) (omega arith)).price))
            (λ z. let y : v.at ≡ nb - 1 = omega arith in omega (arith, (s.level v.at h).priced c v.inside, (s.level v.at h).price, ap (λ (m : ℕ). get_or bd (m * 3) 0) y)) (lt? v.at (nb - 1)),
      )

  pub ask_high : (c : ℕ) → ApartAt rs bw aw → 1 ≤ times c (ups aw) → 1 ≤ nb → get_or bd ((nb - 1) * 3) 0 < field rs 2 c
  ask_high c p i h =
      let s = w.stored.mine in
      let k : nb - 1 < length bw = omega (arith, s.count) in
      let x = some_of (nth bw (nb - 1)).queue (busy_at bw (nb - 1) w.busy k) in
      omega (arith, p x.0 c (omega (arith, x.1, nth_times x.0 bw (nb - 1) k)) i, (s.level (nb - 1) (omega arith)).priced x.0 x.1, (s.level (nb - 1) (omega arith)).price)

  pub on_ask_lem : (c : ℕ) → 1 ≤ times c (ups bw) + times c (ups aw) → (nb ≡ 0) ⊎ (get_or bd ((nb - 1) * 3) 0 < field rs 2 c) → On ask c bw aw
  on_ask_lem c i h = go (ltb 0 (times c (ups bw))) refl
    where
      go : (t : Bool) → ltb 0 (times c (ups bw)) ≡ t → 1 ≤ times c (ups aw)
      go true e = let b = bid_low c (ltb-true 0 (times c (ups bw)) e) in ⊎_elim (λ z. absurd (let y : ⊥ = omega arith in y)) (λ z. absurd (let y : ⊥ = omega arith in y)) h
      go false e = omega (arith, ltb-false 0 (times c (ups bw)) e)

  pub on_bid_lem : (c : ℕ) → ApartAt rs bw aw → 1 ≤ times c (ups bw) + times c (ups aw) → 1 ≤ nb → field rs 2 c ≤ get_or bd ((nb - 1) * 3) 0 → On bid c bw aw
  on_bid_lem c p i h l = go (ltb 0 (times c (ups aw))) refl
    where
      go : (t : Bool) → ltb 0 (times c (ups aw)) ≡ t → 1 ≤ times c (ups bw)
      go true e = absurd (let z = ask_high c p (ltb-true 0 (times c (ups aw)) e) h in let y : ⊥ = omega arith in y)
      go false e = omega (arith, ltb-false 0 (times c (ups aw)) e)

  pub on_told : (sd : Side) (c : ℕ) → ApartAt rs bw aw → 1 ≤ times c (ups bw) + times c (ups aw) → SideTold sd rs bd nb c → On sd c bw aw
  on_told ask c p i t = on_ask_lem c i t
  on_told bid c p i t = on_bid_lem c p i t.0 t.1

  module _ (id : ℕ) {c : ℕ} (e : c ≡ entry_for se rs id) (d : c ≢ 0) where
    pub found_rests : 1 ≤ times c (ups bw) + times c (ups aw)
    found_rests = rw e (w.held id (λ z. d (e ∙ z)))

    pub found_row : RecordAt rs c
    found_row = row_of w.stored c (omega (arith, found_rests))

    found_id : field rs 0 c ≡ id
    found_id = ap (field rs 0) e ∙ (found_at se rs (omega (arith, w.room)) id (λ z. d (e ∙ z))).1

    pub cancel_done : (sd : Side) → On sd c bw aw → {rs' bd' ak' se' : List ℕ} {r' f' nb' na' : ℕ} → Leaves (drop_in sd c rs se bw aw) rs' bd' ak' se' r' f' nb' na'
        → Leaves (only (stays id) (stored_book rs bd ak se nb na)) rs' bd' ak' se' r' f' nb' na'
    cancel_done sd i l = record { desk = l.desk; book = l.book ∙ cancel_drops sd id c (sym e) found_id i }

-- ## As the code asks it: what was looked up in v, which is k as it stands
module _ {v k : Stock} (e : v ≡ k) (w : Tidy k) (id : ℕ) {c : ℕ} (f : c ≡ entry_for v.search v.records id) where
  entry : c ≡ entry_for k.search k.records id
  entry = subst (λ (x : Stock). c ≡ entry_for x.search x.records id) e f

  pub none_leaves : c ≡ 0 → LeavesAs (only (stays id) (read_book k)) k
  none_leaves z = cancel_none w id (sym entry ∙ z)

  module _ (d : c ≢ 0) where
    module _ (a : ApartIn k) (sd : Side) (t : SideTold sd v.records v.bids v.book.bids c) where
      pub told_rests : RestsOn sd c k
      told_rests = on_told w sd c a (found_rests w id entry d) (subst (λ (x : Stock). SideTold sd x.records x.bids x.book.bids c) e t)

      pub found_leaves : (k' : Stock) → LeavesAs (dropped sd c k) k' → LeavesAs (only (stays id) (read_book k)) k'
      found_leaves k' l = cancel_done w id entry d sd told_rests l
