-- An order leaves one side: first the search forgets it, then its record is given back. Assumes nothing.
use Prim.Native.Nat.{ℕ, ◌+◌, ◌-◌, ◌<◌, ◌≤◌}
use mathlib.Core.Bool.{Bool, false, true}
use mathlib.Core.List.{List, ◌∷◌}
use mathlib.Core.Logic.{inl, inr, ◌≢◌, ◌⊎◌, ⊎_elim}
use mathlib.Core.Path.{ap, refl, sym, ◌∙◌, ◌≡◌}
use native.Mathlib.Omega.{arith}
use lib.Dec.{eqb}
use lib.ListN.{length}
use borrow.Author.Tests.{eqb-false, eqb-true, ne_eqb}
use Rattle.rules.specs.Rules.{Side}
use Rattle.records.specs.Rows.{RecordAt, field}
use Rattle.search.specs.Seek.{Forgotten, Pointing, forgetting, entry_for}
use Rattle.search.proofs.Entries.{pointing}
use Rattle.search.proofs.Forgetting.{forgetting_length, forgotten}
use Rattle.arena.specs.Ring.{cut}
use Rattle.arena.specs.Times.{times}
use Rattle.arena.proofs.Ring.{cut_times}
use Rattle.arena.proofs.Times.{one_other, one_self}
use Rattle.side.specs.Doors.{Discards, without}
use Rattle.side.specs.Levels.{Lvl, ups}
use Rattle.side.specs.Orders.{codes, orders}
use Rattle.side.specs.Stored.{Stored}
use Rattle.side.proofs.Orders.{codes_times, orders_frame, without_codes}
use Rattle.side.proofs.Stored.{at_most_one, row_of}
use Rattle.ledger.specs.Desk.{Ledger, found}
use Rattle.ledger.specs.Doors.{CanQuit, Quits}
use Rattle.ledger.proofs.Frame.{good_frame, look_frame, roomy}
use Rattle.ledger.proofs.Lists.{busy_without, without_times}

-- ## c leaves: first the search forgets it, then its record is given back
module _ {n : ℕ} {rs lv ov se : List ℕ} {s t f r : ℕ} {ws vs : List Lvl} {fr : List ℕ} (a : Ledger n rs lv ov se s t f r ws vs fr)
    {c s' f' : ℕ} {rs' lv' se' : List ℕ} (i : 1 ≤ times c (ups ws)) (o : Forgotten se rs c se') (long : length se' ≡ length se) (d : Discards rs lv s f c rs' lv' s' f') where
  left : Stored n rs' lv' ov s' t f' (r - 1) (without c ws) vs (c ∷ fr)
  left = d.stored a.stored i

  one_c : times c (ups ws) ≤ 1
  one_c = omega (arith, at_most_one a.stored c)

  -- what is found after the search forgot c
  forgot : (x : ℕ) → ((entry_for se rs x ≡ c) × (entry_for se' rs x ≡ 0)) ⊎ ((entry_for se rs x ≡ c → ⊥) × (entry_for se' rs x ≡ entry_for se rs x))
  forgot x = go (eqb (entry_for se rs x) c) refl
    where
      go : (b : Bool) → eqb (entry_for se rs x) c ≡ b → ((entry_for se rs x ≡ c) × (entry_for se' rs x ≡ 0)) ⊎ ((entry_for se rs x ≡ c → ⊥) × (entry_for se' rs x ≡ entry_for se rs x))
      go true e = let z = eqb-true (entry_for se rs x) c e in inl (z, o.gone x z)
      go false e = let z = eqb-false (entry_for se rs x) c e in inr (z, o.others x z)

  mid : Ledger n rs lv ov se' s t f r ws vs fr
  mid = record {
    stored = a.stored;
    busy = a.busy;
    busy_two = a.busy_two;
    good = o.good;
    room = omega (arith, a.room);
    held = λ x h. ⊎_elim (λ z. absurd (h z.1)) (λ z. rw z.1 (a.held x (λ y. h (z.1 ∙ y)))) (forgot x);
  }

  looks_d : (x : ℕ) → entry_for se' rs' x ≡ entry_for se' rs x
  looks_d x = look_frame mid rs' left.rows (λ y j. d.ids y) x

  pub discard_all : Ledger n rs' lv' ov se' s' t f' (r - 1) (without c ws) vs (c ∷ fr)
  discard_all = record {
    stored = left;
    busy = busy_without c ws a.busy;
    busy_two = a.busy_two;
    good = good_frame mid rs' left.rows (λ y j. d.ids y);
    room = omega (arith, a.room);
    held = λ x h. rw (looks_d x) (⊎_elim (λ z. absurd (h (looks_d x ∙ z.1)))
        (λ z. rw z.1 (omega (arith, a.held x (λ y. h (looks_d x ∙ (z.1 ∙ y))), without_times (entry_for se rs x) c ws i one_c, one_other (entry_for se rs x) c z.0))) (forgot x));
  }

  found_left : (x : ℕ) → 1 ≤ times x (ups ws) + times x (ups vs) → x ≢ c → found se' rs' x ≡ found se rs x
  found_left x j e =
      let y : entry_for se' rs' (field rs' 0 x) ≡ entry_for se' rs (field rs 0 x) = ap (entry_for se' rs') (d.ids x) ∙ looks_d (field rs 0 x) in
      let p : 1 ≤ x = (row_of a.stored x (omega arith)).some in
      rw y (⊎_elim (λ z. rw (z.0, z.1) (ne_eqb 0 x (λ q. omega arith) ∙ sym (ne_eqb c x (λ q. e (sym q))))) (λ z. rw z.1 refl) (forgot (field rs 0 x)))

  pub discard_own : (sd : Side) → orders rs' (found se' rs') (codes sd (without c ws)) ≡ orders rs (found se rs) (cut c (codes sd ws))
  discard_own sd =
      let h : 1 ≤ times c (codes sd ws) = omega (arith, codes_times sd c ws) in
      ap (orders rs' (found se' rs')) (without_codes sd c ws i one_c)
      ∙ orders_frame rs rs' (found se rs) (found se' rs') (cut c (codes sd ws))
      (λ g x l j. d.fields g x l (row_of a.stored x (omega (arith, cut_times c x (codes sd ws) h, codes_times sd x ws))).some (off_c h x j))
      (λ x j. found_left x (omega (arith, cut_times c x (codes sd ws) h, codes_times sd x ws)) (off_c h x j))
    where
      off_c : 1 ≤ times c (codes sd ws) → (x : ℕ) → 1 ≤ times x (cut c (codes sd ws)) → x ≢ c
      off_c h x j e = omega (arith, cut_times c c (codes sd ws) h, codes_times sd c ws, one_c, one_self c, ap (λ (m : ℕ). times m (cut c (codes sd ws))) e)

  pub discard_other : (sd : Side) → orders rs' (found se' rs') (codes sd vs) ≡ orders rs (found se rs) (codes sd vs)
  discard_other sd = orders_frame rs rs' (found se rs) (found se' rs') (codes sd vs)
      (λ g x l j. d.fields g x l (row_of a.stored x (omega (arith, codes_times sd x vs))).some (off_c x j))
      (λ x j. found_left x (omega (arith, codes_times sd x vs)) (off_c x j))
    where
      off_c : (x : ℕ) → 1 ≤ times x (codes sd vs) → x ≢ c
      off_c x j e = omega (arith, codes_times sd c vs, at_most_one a.stored c, ap (λ (m : ℕ). times m (codes sd vs)) e)

module _ {rs lv se : List ℕ} {s f c : ℕ} (h : CanQuit rs lv se s f c) where
  pub quit_needs : Pointing se rs × (0 < length se) × RecordAt rs c
  quit_needs = (pointing h.all.good, omega (arith, h.all.room), row_of h.all.stored c (omega (arith, h.inside)))

  pub quits : {s' f' : ℕ} {rs' lv' se' : List ℕ} → se' ≡ forgetting se rs c → Discards rs lv s f c rs' lv' s' f' → Quits rs lv se s f c rs' lv' se' s' f'
  quits e d =
      let o : Forgotten se rs c (forgetting se rs c) = forgotten se rs c h.all.good (roomy h.all rs h.all.stored.rows) quit_needs.2 in
      let l = forgetting_length se rs c in
      rw e (record {
        all = λ {n} {ov} {t} {r} {ws} {vs} {fr} a i. discard_all a i o l d;
        own = λ {n} {ov} {t} {r} {ws} {vs} {fr} a i sd. discard_own a i o l d sd;
        other = λ {n} {ov} {t} {r} {ws} {vs} {fr} a i sd. discard_other a i o l d sd;
      })
