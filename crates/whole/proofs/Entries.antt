-- The entries of the search, by counting: each is one of some records exactly where as many of these are found as places are taken. Assumes nothing.
use Prim.Native.Nat.{suc, zero, ℕ, ◌+◌, ◌<◌, ◌≤◌}
use mathlib.Core.Bool.{Bool, cond, false, not, true}
use mathlib.Core.List.{List, [], ◌∷◌}
use mathlib.Core.Logic.{inl, inr, ◌≢◌, ◌⊎◌, ⊎_elim}
use mathlib.Core.Path.{ap, refl, sym, ◌∙◌, ◌≡◌}
use native.Mathlib.Omega.{arith}
use lib.Dec.{eqb}
use lib.ListN.{length}
use borrow.Author.Tests.{eq-eqb, eqb-false, eqb-true}
use Rattle.rules.specs.Whole.{one}
use Rattle.records.specs.Rows.{RecordAt, field}
use Rattle.records.proofs.Cases.{lt?, same?}
use Rattle.search.specs.Seek.{Good, at, entry_for, sought}
use Rattle.search.proofs.Entries.{found_at, row_inside, sought_lt}
use Rattle.search.proofs.Walks.{own, sound}
use Rattle.arena.specs.Ring.{cut}
use Rattle.arena.specs.Times.{times}
use Rattle.arena.proofs.Ring.{cut_length, cut_times}
use Rattle.arena.proofs.Times.{one_other, one_self, times_length}
use Rattle.table.specs.Entries.{found_among, taken_in, taken_to}

-- ## One list within another: it is no longer, and as long only where it has all
pub within_length : (l m : List ℕ) → ((x : ℕ) → times x l ≤ times x m) → length l ≤ length m
within_length [] m h = omega arith
within_length (c ∷ l) m h =
    let i : 1 ≤ times c m = omega (arith, h c, one_self c) in
    omega (arith, cut_length c m i, within_length l (cut c m) (λ x. omega (arith, cut_times c x m i, h x)))

pub within_all : (l m : List ℕ) → ((x : ℕ) → times x l ≤ times x m) → length l ≡ length m → (x : ℕ) → times x m ≤ times x l
within_all [] m h e x = omega (arith, times_length x m)
within_all (c ∷ l) m h e x =
    let i : 1 ≤ times c m = omega (arith, h c, one_self c) in
    omega (arith, cut_times c x m i, within_all l (cut c m) (λ y. omega (arith, cut_times c y m i, h y)) (omega (arith, cut_length c m i)) x)

-- ## The taken places among the first k
module _ (se : List ℕ) where
  abbrev taken : ℕ → List ℕ
  taken zero = []
  taken (suc k) = cond (eqb (at se k) 0) (taken k) (k ∷ taken k)

  taken_length : (k : ℕ) → length (taken k) ≡ taken_to se k
  taken_length zero = refl
  taken_length (suc k) = go (eqb (at se k) 0) (taken_length k)
    where
      go : (t : Bool) → length (taken k) ≡ taken_to se k → length (cond t (taken k) (k ∷ taken k)) ≡ one (not t) + taken_to se k
      go true h = omega arith
      go false h = omega arith

  -- whether x is one of them: if so l has it once, and else not
  abbrev Told : ℕ → ℕ → List ℕ → Type 0
  Told k x l = ((x < k) × (at se x ≢ 0) × (times x l ≡ 1)) ⊎ ((x < k → at se x ≡ 0) × (times x l ≡ 0))

  taken_told : (k x : ℕ) → Told k x (taken k)
  taken_told zero x = inr (λ h. absurd (let z : ⊥ = omega arith in z), refl)
  taken_told (suc k) x = go (eqb (at se k) 0) refl (taken_told k x)
    where
      go : (t : Bool) → eqb (at se k) 0 ≡ t → Told k x (taken k) → Told (suc k) x (cond t (taken k) (k ∷ taken k))
      go true e w =
          ⊎_elim
          (λ v. inl (omega (arith, v.0), v.1, v.2))
          (λ v. inr (λ h. ⊎_elim (λ (s : x ≡ k). ap (at se) s ∙ eqb-true (at se k) 0 e) (λ (s : x ≢ k). v.0 (omega arith)) (same? x k), v.1))
          w
      go false e w =
          ⊎_elim
          (λ v. inl (omega (arith, v.0), v.1, omega (arith, v.2, one_other x k (omega (arith, v.0)))))
          (λ v. ⊎_elim
          (λ (s : x ≡ k). inl (omega arith, (λ z. eqb-false (at se k) 0 e (ap (at se) (sym s) ∙ z)), omega (arith, v.1, ap one (eq-eqb x k s))))
          (λ (s : x ≢ k). inr (λ h. v.0 (omega arith), omega (arith, v.1, one_other x k s)))
          (same? x k))
          w

-- ## The places of those of a list that the search finds
module _ (se rs : List ℕ) where
  abbrev place : ℕ → ℕ
  place c = (sought se rs (field rs 0 c)).place

  abbrev found : ℕ → Bool
  found c = eqb (entry_for se rs (field rs 0 c)) c

  abbrev places : List ℕ → List ℕ
  places [] = []
  places (c ∷ l) = cond (found c) (place c ∷ places l) (places l)

  places_length : (l : List ℕ) → length (places l) ≡ found_among se rs l
  places_length [] = refl
  places_length (c ∷ l) = go (found c) (places_length l)
    where
      go : (t : Bool) → length (places l) ≡ found_among se rs l → length (cond t (place c ∷ places l) (places l)) ≡ one t + found_among se rs l
      go true h = omega arith
      go false h = omega arith

  -- one of l that is found: so its place is there
  places_has : (l : List ℕ) (c : ℕ) → 1 ≤ times c l → found c ≡ true → 1 ≤ times (place c) (places l)
  places_has [] c i f = absurd (let z : ⊥ = omega arith in z)
  places_has (d ∷ l) c i f =
      ⊎_elim
      (λ (e : c ≡ d). let g : found d ≡ true = rw e at f in rw g (omega (arith, ap one (eq-eqb _ _ (ap place e)))))
      (λ (e : c ≢ d). go (found d) (places_has l c (omega (arith, one_other c d e)) f))
      (same? c d)
    where
      go : (t : Bool) → 1 ≤ times (place c) (places l) → 1 ≤ times (place c) (cond t (place d ∷ places l) (places l))
      go true h = omega arith
      go false h = h

  module _ (some : 0 < length se) where
    abbrev Rows : List ℕ → Type 0
    Rows l = (c : ℕ) → 1 ≤ times c l → RecordAt rs c

    -- what is found stands at its place
    stands : (c : ℕ) → RecordAt rs c → found c ≡ true → at se (place c) ≡ c
    stands c r f =
        let e : entry_for se rs (field rs 0 c) ≡ c = eqb-true _ _ f in
        (found_at se rs some (field rs 0 c) (λ z. omega (arith, r.some, e, z))).0 ∙ e

    -- a place is there no more often than its entry is in l
    places_few : (l : List ℕ) → Rows l → (x : ℕ) → times x (places l) ≤ times (at se x) l
    places_few [] rows x = omega arith
    places_few (c ∷ l) rows x = go (found c) refl (places_few l (λ d i. rows d (omega arith)) x)
      where
        go : (t : Bool) → found c ≡ t → times x (places l) ≤ times (at se x) l
            → times x (cond t (place c ∷ places l) (places l)) ≤ one (eqb (at se x) c) + times (at se x) l
        go true f h =
            ⊎_elim
            (λ (e : x ≡ place c).
            let k : at se x ≡ c = ap (at se) e ∙ stands c (rows c (omega (arith, one_self c))) f in
            omega (arith, ap one (eq-eqb x (place c) e), ap one (eq-eqb (at se x) c k)))
            (λ (e : x ≢ place c). omega (arith, one_other x (place c) e))
            (same? x (place c))
        go false f h = omega arith

    -- and it is where the search for its entry's id ends
    places_in : (l : List ℕ) → Rows l → (x : ℕ) → 1 ≤ times x (places l) → (x < length se) × (place (at se x) ≡ x)
    places_in [] rows x i = absurd (let z : ⊥ = omega arith in z)
    places_in (c ∷ l) rows x i = go (found c) refl i (places_in l (λ d j. rows d (omega arith)) x)
      where
        go : (t : Bool) → found c ≡ t → 1 ≤ times x (cond t (place c ∷ places l) (places l))
            → (1 ≤ times x (places l) → (x < length se) × (place (at se x) ≡ x))
            → (x < length se) × (place (at se x) ≡ x)
        go true f j h =
            ⊎_elim
            (λ (e : x ≡ place c). (
              rw e (sought_lt se rs (field rs 0 c) some),
              ap place (ap (at se) e ∙ stands c (rows c (omega (arith, one_self c))) f) ∙ sym e,
            ))
            (λ (e : x ≢ place c). h (omega (arith, one_other x (place c) e)))
            (same? x (place c))
        go false f j h = h j

-- ## Each entry of the search is one of l, and the search for its id ends there
abbrev pub Entries : List ℕ → List ℕ → List ℕ → Type 0
Entries se rs l = (p : ℕ) → p < length se → at se p ≢ 0 → (1 ≤ times (at se p) l) × ((sought se rs (field rs 0 (at se p))).place ≡ p)

module _ (se rs l : List ℕ) (some : 0 < length se) (rows : (c : ℕ) → 1 ≤ times c l → RecordAt rs c) (once : (c : ℕ) → times c l ≤ 1) where
  -- the places of those found are taken
  places_taken : (x : ℕ) → times x (places se rs l) ≤ times x (taken se (length se))
  places_taken x =
      let few = places_few se rs some l rows x in
      ⊎_elim
      (λ v. omega (arith, v.2, once (at se x)))
      (λ v. ⊎_elim
      (λ (h : times x (places se rs l) < 1). omega arith)
      (λ (h : 1 ≤ times x (places se rs l)).
      absurd (let z : ⊥ = omega (arith, v.0 (places_in se rs some l rows x h).0, (rows (at se x) (omega arith)).some) in z))
      (lt? (times x (places se rs l)) 1))
      (taken_told se (length se) x)

  -- and every taken place is one of theirs, where each entry is one of l
  taken_places : Entries se rs l → (x : ℕ) → times x (taken se (length se)) ≤ times x (places se rs l)
  taken_places e x =
      let g : Good se rs = record { right = λ p h n. (row_inside (rows (at se p) (e p h n).0), (e p h n).1) } in
      ⊎_elim
      (λ v.
      let i = e x v.0 v.1 in
      let f : found se rs (at se x) ≡ true = eq-eqb _ _ (own se rs (sound se rs g) x v.0 v.1).1 in
      let h : 1 ≤ times x (places se rs l) = rw i.1 at (places_has se rs l (at se x) i.0 f) in
      omega (arith, v.2))
      (λ v. omega (arith, v.1))
      (taken_told se (length se) x)

  pub entries_count : Entries se rs l → found_among se rs l ≡ taken_in se
  entries_count e =
      omega (
        arith,
        places_length se rs l,
        taken_length se (length se),
        within_length (places se rs l) (taken se (length se)) places_taken,
        within_length (taken se (length se)) (places se rs l) (taken_places e),
      )

  pub count_entries : found_among se rs l ≡ taken_in se → Entries se rs l
  count_entries q p h n =
      let e : length (places se rs l) ≡ length (taken se (length se)) = omega (arith, places_length se rs l, taken_length se (length se), q) in
      let a = within_all (places se rs l) (taken se (length se)) places_taken e p in
      ⊎_elim
      (λ v.
      let i : 1 ≤ times p (places se rs l) = omega (arith, v.2, a) in
      (omega (arith, places_few se rs some l rows p), (places_in se rs some l rows p i).1))
      (λ v. absurd (n (v.0 h)))
      (taken_told se (length se) p)
