-- An order comes to rest on one side: its record is written, then the search finds it under its id. Assumes nothing.
use Prim.Native.Nat.{ℕ, ◌+◌, ◌<◌, ◌≤◌}
use mathlib.Core.Bool.{Bool, false, not, true, ◌&&◌}
use mathlib.Core.List.{List, map, ◌∷◌}
use mathlib.Core.Logic.{◌≢◌}
use mathlib.Core.Path.{ap, refl, sym, ◌∙◌, ◌≡◌}
use native.Mathlib.Omega.{arith}
use lib.Dec.{eqb}
use lib.ListN.{length}
use borrow.Author.Tests.{eq-eqb, eqb-false, eqb-true, ne_eqb}
use Rattle.rules.specs.Rules.{Order, Side, hide, place}
use Rattle.records.specs.Rows.{field}
use Rattle.search.specs.Seek.{Entered, entering, entry_for}
use Rattle.search.proofs.Entering.{entered, entering_length}
use Rattle.arena.specs.Times.{times}
use Rattle.arena.proofs.Times.{one_self}
use Rattle.side.specs.Doors.{Rests, resting}
use Rattle.side.specs.Levels.{Lvl, ups}
use Rattle.side.specs.Orders.{codes, order_at, orders}
use Rattle.side.specs.Stored.{Stored}
use Rattle.side.proofs.Orders.{Tiers, codes_times, orders_hide, place_codes, side_tiers, tiers_frame}
use Rattle.side.proofs.Stored.{at_most_one, row_of}
use Rattle.ledger.specs.Desk.{Ledger, found}
use Rattle.ledger.specs.Doors.{CanJoin, Joins, rested}
use Rattle.ledger.proofs.Frame.{good_frame, look_frame, roomy, row_in}
use Rattle.ledger.proofs.Lists.{and_false, and_true, busy_resting, resting_times}

-- ## c comes to rest on side sd
module _ {n : ℕ} {rs lv ov se : List ℕ} {s t c r : ℕ} {ws vs : List Lvl} {fr : List ℕ} (a : Ledger n rs lv ov se s t c r ws vs (c ∷ fr))
    {id q p s' f' : ℕ} {rs' lv' : List ℕ} (d : Rests rs lv s c id q p rs' lv' s' f') where
  after : Stored n rs' lv' ov s' t f' (r + 1) (resting c p ws) vs fr
  after = d.stored a.stored

  free_c : times c (ups ws) + times c (ups vs) + times c fr ≡ 0
  free_c = omega (arith, at_most_one a.stored c, one_self c)

  some : (x : ℕ) → 1 ≤ times x (ups ws) + times x (ups vs) → 1 ≤ x
  some x i = (row_of a.stored x (omega arith)).some

  off : (x : ℕ) → 1 ≤ times x (ups ws) + times x (ups vs) → x ≢ c
  off x i e = omega (arith, free_c, ap (λ (m : ℕ). times m (ups ws) + times m (ups vs)) e)

  same : (g x : ℕ) → g < 3 → 1 ≤ times x (ups ws) + times x (ups vs) → field rs' g x ≡ field rs g x
  same g x h i = d.fields g x h (some x i) (off x i)

  enters : Entered se rs' id c (entering se rs' id c)
  enters =
      entered se rs' id c (good_frame a rs' after.rows (λ x i. same 0 x (omega arith) i)) (roomy a rs' after.rows)
      (row_in a rs' c after.rows (omega (arith, one_self c))) d.named

  looks : (x : ℕ) → (x ≡ id → ⊥) → entry_for (entering se rs' id c) rs' x ≡ entry_for se rs x
  looks x h = enters.others x h ∙ look_frame a rs' after.rows (λ y i. same 0 y (omega arith) i) x

  look_id : entry_for (entering se rs' id c) rs' id ≡ c
  look_id = enters.found

  long_se : length (entering se rs' id c) ≡ length se
  long_se = entering_length se rs' id c

  pub rest_all : Ledger n rs' lv' ov (entering se rs' id c) s' t f' (r + 1) (resting c p ws) vs fr
  rest_all = record {
    stored = after;
    busy = busy_resting c p ws a.busy;
    busy_two = a.busy_two;
    good = enters.good;
    room = omega (arith, a.room, long_se);
    held = λ x h. go x h (eqb x id) refl;
  }
    where
      go : (x : ℕ) → (entry_for (entering se rs' id c) rs' x ≡ 0 → ⊥) → (b : Bool) → eqb x id ≡ b
          → 1 ≤ times (entry_for (entering se rs' id c) rs' x) (ups (resting c p ws)) + times (entry_for (entering se rs' id c) rs' x) (ups vs)
      go x h true e =
          let z : entry_for (entering se rs' id c) rs' x ≡ c = ap (entry_for (entering se rs' id c) rs') (eqb-true x id e) ∙ look_id in
          rw z (omega (arith, resting_times c c p ws, one_self c))
      go x h false e =
          let z = looks x (eqb-false x id e) in
          rw z (omega (arith, a.held x (λ y. h (z ∙ y)), resting_times (entry_for se rs x) c p ws))

  -- who is found then
  found_then : (x : ℕ) → 1 ≤ times x (ups ws) + times x (ups vs) → found (entering se rs' id c) rs' x ≡ found se rs x && not (eqb (field rs 0 x) id)
  found_then x i = go (eqb (field rs 0 x) id) refl
    where
      go : (b : Bool) → eqb (field rs 0 x) id ≡ b → found (entering se rs' id c) rs' x ≡ found se rs x && not b
      go true e =
          let z : field rs' 0 x ≡ id = same 0 x (omega arith) i ∙ eqb-true (field rs 0 x) id e in
          let y : entry_for (entering se rs' id c) rs' (field rs' 0 x) ≡ c = ap (entry_for (entering se rs' id c) rs') z ∙ look_id in
          rw y (ne_eqb c x (λ o. off x i (sym o)) ∙ sym (and_false (found se rs x)))
      go false e =
          let y : entry_for (entering se rs' id c) rs' (field rs' 0 x) ≡ entry_for se rs (field rs 0 x) =
          ap (entry_for (entering se rs' id c) rs') (same 0 x (omega arith) i) ∙ looks (field rs 0 x) (eqb-false (field rs 0 x) id e) in
          rw y (sym (and_true (found se rs x)))

  new_order : order_at rs' (found (entering se rs' id c) rs') c ≡ record { id = id; quantity = q; price = p; found = true; tag = tt }
  new_order =
      let y : entry_for (entering se rs' id c) rs' (field rs' 0 c) ≡ c = ap (entry_for (entering se rs' id c) rs') d.named ∙ look_id in
      let z : found (entering se rs' id c) rs' c ≡ true = eq-eqb (entry_for (entering se rs' id c) rs' (field rs' 0 c)) c y in
      λ k. record { id = d.named k; quantity = d.holding k; price = d.priced k; found = z k; tag = tt }

  pub rest_own : (sd : Side) → orders rs' (found (entering se rs' id c) rs') (codes sd (resting c p ws)) ≡ rested sd id q p (orders rs (found se rs) (codes sd ws))
  rest_own sd =
      place_codes sd rs' (found (entering se rs' id c) rs') c p ws d.priced (tiers_same ws (λ x i. same 2 x (omega arith) (omega arith)) (side_tiers a.stored.mine))
      ∙ (ap (λ (o : Order (Unit {0})). place sd o (orders rs' (found (entering se rs' id c) rs') (codes sd ws))) new_order
      ∙ ap (place sd (record { id = id; quantity = q; price = p; found = true; tag = tt }))
      (orders_hide rs rs' (found se rs) (found (entering se rs' id c) rs') id (codes sd ws) (λ g x h i. same g x h (omega (arith, codes_times sd x ws))) (λ x i. found_then x (omega (arith, codes_times sd x ws)))))
    where
      tiers_same : (us : List Lvl) → ((x : ℕ) → 1 ≤ times x (ups us) → field rs' 2 x ≡ field rs 2 x) → Tiers rs us → Tiers rs' us
      tiers_same us e t = tiers_frame rs rs' us e t

  pub rest_other : (sd : Side) → orders rs' (found (entering se rs' id c) rs') (codes sd vs) ≡ map (hide id) (orders rs (found se rs) (codes sd vs))
  rest_other sd = orders_hide rs rs' (found se rs) (found (entering se rs' id c) rs') id (codes sd vs) (λ g x h i. same g x h (omega (arith, codes_times sd x vs))) (λ x i. found_then x (omega (arith, codes_times sd x vs)))

module _ {rs lv se : List ℕ} {s c p : ℕ} (h : CanJoin rs lv se s c p) where
  module _ {id q s' f' : ℕ} {rs' lv' : List ℕ} (d : Rests rs lv s c id q p rs' lv' s' f') where
    pub joins : {se' : List ℕ} → se' ≡ entering se rs' id c → Joins rs lv se s c id q p rs' lv' se' s' f'
    joins e = rw e (record {
      all = λ {n} {ov} {t} {r} {ws} {vs} {fr} a. rest_all a d;
      own = λ {n} {ov} {t} {r} {ws} {vs} {fr} a sd. rest_own a d sd;
      other = λ {n} {ov} {t} {r} {ws} {vs} {fr} a sd. rest_other a d sd;
    })
