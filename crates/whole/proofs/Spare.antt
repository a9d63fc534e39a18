-- The walk of the free places: what it counts is right, and what is right is counted. Assumes nothing.
use Prim.Native.Nat.{suc, zero, ℕ, ◌+◌, ◌-◌, ◌<◌, ◌≤◌}
use mathlib.Core.Bool.{false, true}
use mathlib.Core.List.{List, [], ◌∷◌}
use mathlib.Core.Logic.{◌≢◌, ⊎_elim}
use mathlib.Core.Path.{refl, sym, ◌∙◌, ◌≡◌}
use native.Mathlib.Omega.{arith}
use lib.Dec.{eqb, leb}
use lib.ListN.{length}
use borrow.Author.Tests.{eq-eqb, eqb-true, le-leb, leb-true, lt-leb, ne_eqb}
use Rattle.records.specs.Rows.{RecordAt, field, record_count}
use Rattle.records.proofs.Cases.{by, tell}
use Rattle.records.proofs.Rows.{places_row, row_places}
use Rattle.arena.specs.Free.{Chain, chain}
use Rattle.arena.specs.Times.{times}
use Rattle.arena.proofs.Free.{chain_chain}
use Rattle.arena.proofs.Once.{Ending, ending_once}
use Rattle.arena.proofs.Times.{one_self}
use Rattle.whole.specs.Spare.{idle, idles}
use Rattle.ranks.proofs.Queues.{chain_some, each_more}

-- a free place
pub record Bare (rs : List ℕ) (c : ℕ) : Type 0 where
  pub row : RecordAt rs c
  pub none : field rs 1 c ≡ 0

-- the free places are l
pub record Spared (rs : List ℕ) (f : ℕ) (l : List ℕ) : Type 0 where
  pub free : Chain rs f l
  pub bare : (x : ℕ) → 1 ≤ times x l → Bare rs x

module _ (rs : List ℕ) where
  idle_out : (c : ℕ) → record_count rs < c → idle rs c ≡ false
  unfolding idle
  idle_out c h = rw (lt-leb c (record_count rs) h)

  idle_last : (c : ℕ) → c ≤ record_count rs → idle rs c ≡ eqb (field rs 1 c) 0
  unfolding idle
  idle_last c h = rw (le-leb c (record_count rs) h)

  idle_is : (c : ℕ) → idle rs c ≡ true → (c ≤ record_count rs) × (field rs 1 c ≡ 0)
  unfolding idle
  idle_is c h =
      ⊎_elim
      (λ (a : leb c (record_count rs) ≡ true). (leb-true _ _ a, eqb-true _ _ (cc)))
      (λ (a : leb c (record_count rs) ≡ false). absurd (tell (idle rs c) h (cc)))
      (by (leb c (record_count rs)))

  is_idle : (c : ℕ) → c ≤ record_count rs → field rs 1 c ≡ 0 → idle rs c ≡ true
  is_idle c h e = idle_last c h ∙ eq-eqb _ _ e

  pub idles_end : (k c : ℕ) → k ≡ 0 → idles rs k c ≡ eqb c 0
  unfolding idles
  idles_end k zero e = rw e
  idles_end k (suc r) e = rw e (sym (ne_eqb (suc r) 0 (omega arith)))

  pub idles_short : (k c : ℕ) → 0 < k → c ≡ 0 → idles rs k c ≡ false
  unfolding idles
  idles_short zero c h e = absurd (omega arith)
  idles_short (suc k) c h e = rw e

  idles_wrong : (k c : ℕ) → 0 < k → c ≢ 0 → idle rs c ≡ false → idles rs k c ≡ false
  unfolding idles
  idles_wrong zero c h n f = absurd (omega arith)
  idles_wrong (suc k) zero h n f = refl
  idles_wrong (suc k) (suc r) h n f = rw f

  -- a code of no record
  pub idles_out : (k c : ℕ) → record_count rs < c → idles rs k c ≡ false
  idles_out zero c h = idles_end zero c refl ∙ ne_eqb c 0 (omega arith)
  idles_out (suc k) c h = idles_wrong (suc k) c (omega arith) (omega arith) (idle_out c h)

  -- a record with something
  pub idles_full : (k c q : ℕ) → 0 < k → c ≢ 0 → c ≤ record_count rs → q ≢ 0 → q ≡ field rs 1 c → idles rs k c ≡ false
  idles_full k c q h n g f e = idles_wrong k c h n (idle_last c g ∙ ne_eqb _ _ (λ z. f (e ∙ z)))

  idles_on : (k j c : ℕ) → k ≡ suc j → c ≢ 0 → idle rs c ≡ true → idles rs k c ≡ idles rs j (field rs 3 c)
  unfolding idles
  idles_on k j zero e n f = absurd (n refl)
  idles_on k j (suc r) e n f = rw (e, f)

  -- a turn of the walk, with i of k places passed
  pub idles_turn : (k i c q d : ℕ) → i < k → c ≢ 0 → c ≤ record_count rs → q ≡ 0 → q ≡ field rs 1 c → d ≡ field rs 3 c → idles rs (k - i) c ≡ idles rs (k - (i + 1)) d
  idles_turn k i c q d h n g z f e = rw e (idles_on (k - i) (k - (i + 1)) c (omega arith) n (is_idle c g (sym f ∙ z)))

  idles_right : (k c : ℕ) → idles rs k c ≡ true → Spared rs c (chain k rs c) × (length (chain k rs c) ≡ k)
  unfolding idles
  idles_right zero zero h = (record { free = refl; bare = λ x i. absurd (let z : ⊥ = omega arith in z) }, refl)
  idles_right zero (suc r) h = absurd (tell false h refl)
  idles_right (suc k) zero h = absurd (tell false h refl)
  idles_right (suc k) (suc r) h =
      ⊎_elim
      (λ (e : idle rs (suc r) ≡ true).
      let f = idle_is (suc r) e in
      let w = idles_right k (field rs 3 (suc r)) (rw e at h) in
      let b : Bare rs (suc r) = record { row = row_places rs (suc r) (omega arith) f.0; none = f.1 } in
      (record { free = (refl, w.0.free); bare = each_more (Bare rs) (suc r) (chain k rs (field rs 3 (suc r))) b w.0.bare }, omega (arith, w.1)))
      (λ (e : idle rs (suc r) ≡ false). absurd (tell false (rw e at h) refl))
      (by (idle rs (suc r)))

  right_idles : (l : List ℕ) (k c : ℕ) → Spared rs c l → length l ≡ k → idles rs k c ≡ true
  right_idles [] k c s e = idles_end k c (sym e) ∙ eq-eqb c 0 s.free
  right_idles (d ∷ l) zero c s e = absurd (let z : ⊥ = omega arith in z)
  right_idles (d ∷ l) (suc k) c s e =
      let b = s.bare d (omega (arith, one_self d)) in
      let nz : d ≢ 0 = omega (arith, b.row.some) in
      rw s.free.0 (idles_on (suc k) k d refl nz (is_idle d (places_row b.row) b.none) ∙ right_idles l k (field rs 3 d) (record { free = s.free.1; bare = λ x i. s.bare x (omega arith) }) (omega arith))

  -- k free places, all of them
  pub spare_right : (k c : ℕ) → k ≤ record_count rs → idles rs k c ≡ true → Spared rs c (chain (record_count rs) rs c) × (length (chain (record_count rs) rs c) ≡ k)
  spare_right k c h e =
      let w = idles_right k c e in
      let s : chain k rs c ≡ chain (record_count rs) rs c = chain_chain rs (record_count rs) c (chain k rs c) w.0.free (chain_some k rs c) (omega (arith, w.1)) in
      (rw s at w.0, rw (← s) w.1)

  pub right_spare : (k c : ℕ) → Spared rs c (chain (record_count rs) rs c) → length (chain (record_count rs) rs c) ≡ k → idles rs k c ≡ false → ⊥
  right_spare k c s l e = tell (idles rs k c) (right_idles (chain (record_count rs) rs c) k c s l) e

  -- no place is free twice
  spared_ending : (c : ℕ) (l : List ℕ) → Spared rs c l → Ending (field rs 3) c l
  spared_ending c [] s = s.free
  spared_ending c (d ∷ l) s = (s.free.0, (s.bare d (omega (arith, one_self d))).row.some, spared_ending (field rs 3 d) l (record { free = s.free.1; bare = λ x i. s.bare x (omega arith) }))

  pub spared_once : (c x : ℕ) (l : List ℕ) → Spared rs c l → times x l ≤ 1
  spared_once c x l s = ending_once (field rs 3) c x l (spared_ending c l s)
