-- Chains of places: where records change elsewhere, and as functions of storage. Assumes nothing.
use Prim.Native.Nat.{suc, zero, ℕ, ◌*◌, ◌+◌, ◌-◌, ◌/◌, ◌<◌, ◌≤◌}
use mathlib.Core.Bool.{Bool, false, true}
use mathlib.Core.List.{List, [], ◌∷◌}
use mathlib.Core.Logic.{◌≢◌}
use mathlib.Core.Path.{ap, refl, sym, ◌∙◌, ◌≡◌}
use native.Mathlib.Omega.{arith}
use lib.Dec.{eqb, ltb}
use lib.ListN.{length, length-set}
use borrow.Author.Tests.{eqb-true, ltb-false, ltb-true}
use Rattle.rules.specs.Whole.{one}
use Rattle.records.specs.Rows.{RecordAt, field, put}
use Rattle.records.proofs.Rows.{field_column, field_record, field_same, row_length}
use Rattle.arena.specs.Free.{Chain, Freed, chain, down, returned, record_written}
use Rattle.arena.specs.Links.{link}
use Rattle.arena.specs.Ring.{Run}
use Rattle.arena.specs.Times.{is_code, times}
use Rattle.arena.proofs.Times.{one_other, one_self}

pub chain_frame : (rs ss : List ℕ) (f : ℕ) (l : List ℕ) → ((x : ℕ) → 1 ≤ times x l → field rs 3 x ≡ field ss 3 x) → Chain rs f l → Chain ss f l
chain_frame rs ss f [] a h = h
chain_frame rs ss f (d ∷ l) a h = (h.0, rw (← a d (omega (arith, one_self d))) (chain_frame rs ss (field rs 3 d) l (λ x i. a x (omega arith)) h.1))

pub given_length : (rs : List ℕ) (c f : ℕ) → length (returned rs c f) ≡ length rs
given_length rs c f = length-set (put rs 1 c 0) ((c - 1) * 5 + 3) f ∙ length-set rs ((c - 1) * 5 + 1) 0

pub given_other : (rs : List ℕ) (g c f x : ℕ) → g < 5 → 1 ≤ c → 1 ≤ x → x ≢ c → field (returned rs c f) g x ≡ field rs g x
given_other rs g c f x h p q d = field_record (put rs 1 c 0) 3 g c x f (omega arith) h p q d ∙ field_record rs 1 g c x 0 (omega arith) h p q d

pub written_length : (rs : List ℕ) (c id q p : ℕ) → length (record_written rs c id q p) ≡ length rs
written_length rs c id q p = length-set (put (put rs 0 c id) 1 c q) ((c - 1) * 5 + 2) p ∙ (length-set (put rs 0 c id) ((c - 1) * 5 + 1) q ∙ length-set rs ((c - 1) * 5 + 0) id)

pub written_other : (rs : List ℕ) (g c id q p x : ℕ) → g < 5 → 1 ≤ c → 1 ≤ x → x ≢ c → field (record_written rs c id q p) g x ≡ field rs g x
written_other rs g c id q p x h a b d =
    field_record (put (put rs 0 c id) 1 c q) 2 g c x p (omega arith) h a b d ∙ (field_record (put rs 0 c id) 1 g c x q (omega arith) h a b d ∙ field_record rs 0 g c x id (omega arith) h a b d)

pub chain_none : (m : ℕ) (rs : List ℕ) → chain m rs 0 ≡ []
chain_none zero rs = refl
chain_none (suc m) rs = refl

pub run_chain : (rs : List ℕ) (h : ℕ) (B : ℕ → ℕ) (m p : ℕ) (l : List ℕ) → Run (link rs 3 h) B p l 0 → times 0 l ≡ 0 → length l ≤ m → l ≡ chain m rs (link rs 3 h p)
run_chain rs h B m p [] r z o = rw r.0 (sym (chain_none m rs))
run_chain rs h B zero p (d ∷ l) r z o = absurd (let f : ⊥ = omega arith in f)
run_chain rs h B (suc m) p (zero ∷ l) r z o = absurd (let f : ⊥ = omega (arith, one_self 0) in f)
run_chain rs h B (suc m) p (suc i ∷ l) r z o = rw r.0 (ap (λ (q : List ℕ). suc i ∷ q) (run_chain rs h B m (suc i) l r.2 (omega arith) (omega arith)))

pub chain_chain : (rs : List ℕ) (m f : ℕ) (l : List ℕ) → Chain rs f l → times 0 l ≡ 0 → length l ≤ m → l ≡ chain m rs f
chain_chain rs m f [] r z o = rw r (sym (chain_none m rs))
chain_chain rs zero f (d ∷ l) r z o = absurd (let g : ⊥ = omega arith in g)
chain_chain rs (suc m) f (zero ∷ l) r z o = absurd (let g : ⊥ = omega (arith, one_self 0) in g)
chain_chain rs (suc m) f (suc i ∷ l) r z o = rw r.0 (ap (λ (q : List ℕ). suc i ∷ q) (chain_chain rs m (field rs 3 (suc i)) l r.1 (omega arith) (omega arith)))

-- ## Every place freed, one after the other
pub down_length : (i : ℕ) → length (down i) ≡ i
down_length zero = refl
down_length (suc i) = ap suc (down_length i)

down_range : (i x : ℕ) → 1 ≤ times x (down i) → (1 ≤ x) × (x ≤ i)
down_range zero x h = absurd (let z : ⊥ = omega arith in z)
down_range (suc i) x h = go (eqb x (suc i)) refl (down_range i x)
  where
    go : (b : Bool) → eqb x (suc i) ≡ b → (1 ≤ times x (down i) → (1 ≤ x) × (x ≤ i)) → (1 ≤ x) × (x ≤ suc i)
    go true e k = let z = eqb-true x (suc i) e in (omega arith, omega arith)
    go false e k = let z = k (omega (arith, ap one e)) in (omega arith, omega arith)

down_none : (i x : ℕ) → i < x → times x (down i) ≡ 0
down_none zero x h = refl
down_none (suc i) x h = omega (arith, one_other x (suc i) (omega arith), down_none i x (omega arith))

down_once : (i x : ℕ) → times x (down i) ≤ 1
down_once zero x = omega arith
down_once (suc i) x = go (eqb x (suc i)) refl (down_once i x)
  where
    go : (b : Bool) → eqb x (suc i) ≡ b → times x (down i) ≤ 1 → one b + times x (down i) ≤ 1
    go true e k = omega (arith, down_none i x (omega (arith, eqb-true x (suc i) e)))
    go false e k = omega arith

pub down_code : (n x : ℕ) → times x (down n) ≤ is_code n x
down_code n zero = go (ltb 0 (times 0 (down n))) refl
  where
    go : (b : Bool) → ltb 0 (times 0 (down n)) ≡ b → times 0 (down n) ≤ 0
    go true e = absurd (let z = down_range n 0 (ltb-true 0 (times 0 (down n)) e) in let y : ⊥ = omega arith in y)
    go false e = ltb-false 0 (times 0 (down n)) e
down_code n (suc i) = go (ltb i n) refl
  where
    go : (b : Bool) → ltb i n ≡ b → times (suc i) (down n) ≤ one b
    go true e = down_once n (suc i)
    go false e = omega (arith, down_none n (suc i) (omega (arith, ltb-false i n e)))

freed_row : (rs : List ℕ) (i : ℕ) → i < length rs / 5 → RecordAt rs (i + 1)
freed_row rs i h = record { some = omega arith; inside = omega arith }

pub freed_step : (rs : List ℕ) (i : ℕ) → i < length rs / 5 → Freed rs i → Freed (returned rs (i + 1) i) (i + 1)
freed_step rs i h s =
    let e : i + 1 ≡ suc i = omega arith in
    let row : RecordAt rs (suc i) = rw e at (freed_row rs i h) in
    rw e (record {
      free = (
        refl,
        rw (field_same (put rs 1 (suc i) 0) 3 (suc i) i (omega arith) (row_length _ (length-set rs ((suc i - 1) * 5 + 1) 0) row))
            (chain_frame rs (returned rs (suc i) i) i (down i) (λ x j. let z = down_range i x j in sym (given_other rs 3 (suc i) i x (omega arith) (omega arith) z.0 (omega arith))) s.free),
      );
      none = λ x j. go rs s row x j (eqb x (suc i)) refl;
    })
  where
    go : (rs : List ℕ) → Freed rs i → RecordAt rs (suc i) → (x : ℕ) → 1 ≤ times x (down (suc i)) → (b : Bool) → eqb x (suc i) ≡ b → field (returned rs (suc i) i) 1 x ≡ 0
    go rs s row x j true e = rw (eqb-true x (suc i) e) (field_column (put rs 1 (suc i) 0) 3 1 (suc i) (suc i) i (omega arith) (omega arith) (omega arith) ∙ field_same rs 1 (suc i) 0 (omega arith) row)
    go rs s row x j false e =
        let y : 1 ≤ times x (down i) = omega (arith, ap one e) in
        let z = down_range i x y in
        given_other rs 1 (suc i) i x (omega arith) (omega arith) z.0 (omega arith) ∙ s.none x y
