-- A run whose functions change elsewhere, one that loses a node, and one that gets a node at its end. Assumes nothing.
use Prim.Native.Nat.{suc, ℕ, ◌+◌, ◌≤◌}
use mathlib.Core.Bool.{Bool, cond, false, true}
use mathlib.Core.List.{List, [], ◌++◌, ◌∷◌}
use mathlib.Core.Logic.{◌≢◌}
use mathlib.Core.Path.{ap, refl, sym, ◌∙◌, ◌≡◌}
use native.Mathlib.Omega.{arith}
use lib.Dec.{eqb}
use lib.ListN.{length}
use borrow.Author.Tests.{eq-eqb, eqb-true}
use Rattle.rules.specs.Whole.{one}
use Rattle.arena.specs.Ring.{Run, cut}
use Rattle.arena.specs.Times.{times}
use Rattle.arena.proofs.Times.{one_self}

pub cut_times : (d x : ℕ) (l : List ℕ) → 1 ≤ times d l → times x (cut d l) + one (eqb x d) ≡ times x l
cut_times d x [] h = absurd (let z : ⊥ = omega arith in z)
cut_times d x (y ∷ l) h = go (eqb d y) refl (cut_times d x l)
  where
    go : (t : Bool) → eqb d y ≡ t → (1 ≤ times d l → times x (cut d l) + one (eqb x d) ≡ times x l) → times x (cond t l (y ∷ cut d l)) + one (eqb x d) ≡ one (eqb x y) + times x l
    go true e r = omega (arith, ap (λ (k : ℕ). one (eqb x k)) (eqb-true d y e))
    go false e r = omega (arith, r (omega (arith, ap one e)))

pub cut_length : (d : ℕ) (l : List ℕ) → 1 ≤ times d l → length (cut d l) + 1 ≡ length l
cut_length d [] h = absurd (let z : ⊥ = omega arith in z)
cut_length d (y ∷ l) h = go (eqb d y) refl (cut_length d l)
  where
    go : (t : Bool) → eqb d y ≡ t → (1 ≤ times d l → length (cut d l) + 1 ≡ length l) → length (cond t l (y ∷ cut d l)) + 1 ≡ suc (length l)
    go true e r = omega arith
    go false e r = omega (arith, r (omega (arith, ap one e)))

-- other functions that agree on the run's nodes
pub run_frame : (F B G C : ℕ → ℕ) (p : ℕ) (l : List ℕ) (q : ℕ) → ((x : ℕ) → 1 ≤ one (eqb x p) + times x l → F x ≡ G x)
    → ((x : ℕ) → 1 ≤ times x l + one (eqb x q) → B x ≡ C x) → Run F B p l q → Run G C p l q
run_frame F B G C p [] q f b r = (sym (f p (omega (arith, one_self p))) ∙ r.0, sym (b q (omega (arith, one_self q))) ∙ r.1)
run_frame F B G C p (d ∷ l) q f b r = (
  sym (f p (omega (arith, one_self p))) ∙ r.0,
  sym (b d (omega (arith, one_self d))) ∙ r.1,
  run_frame F B G C d l q (λ x i. f x (omega arith)) (λ x i. b x (omega arith)) r.2,
)

-- what comes before a node of the run, or before its end, is the start or a node; so with what follows
pub before_in : (F B : ℕ → ℕ) (p : ℕ) (l : List ℕ) (q d : ℕ) → 1 ≤ times d l + one (eqb d q) → Run F B p l q → 1 ≤ one (eqb (B d) p) + times (B d) l
before_in F B p [] q d i r = go (eqb d q) refl
  where
    go : (t : Bool) → eqb d q ≡ t → 1 ≤ one (eqb (B d) p) + 0
    go true e = let z : B d ≡ p = ap B (eqb-true d q e) ∙ r.1 in omega (arith, ap one (eq-eqb _ _ z))
    go false e = absurd (let z : ⊥ = omega (arith, ap one e) in z)
before_in F B p (x ∷ l) q d i r = go (eqb d x) refl (λ j. before_in F B x l q d j r.2)
  where
    go : (t : Bool) → eqb d x ≡ t → (1 ≤ times d l + one (eqb d q) → 1 ≤ one (eqb (B d) x) + times (B d) l) → 1 ≤ one (eqb (B d) p) + (one (eqb (B d) x) + times (B d) l)
    go true e k = let z : B d ≡ p = ap B (eqb-true d x e) ∙ r.1 in omega (arith, ap one (eq-eqb _ _ z))
    go false e k = omega (arith, k (omega (arith, ap one e)))

pub after_in : (F B : ℕ → ℕ) (p : ℕ) (l : List ℕ) (q d : ℕ) → 1 ≤ one (eqb d p) + times d l → Run F B p l q → 1 ≤ times (F d) l + one (eqb (F d) q)
after_in F B p [] q d i r = go (eqb d p) refl
  where
    go : (t : Bool) → eqb d p ≡ t → 1 ≤ 0 + one (eqb (F d) q)
    go true e = let z : F d ≡ q = ap F (eqb-true d p e) ∙ r.0 in omega (arith, ap one (eq-eqb _ _ z))
    go false e = absurd (let z : ⊥ = omega (arith, ap one e) in z)
after_in F B p (x ∷ l) q d i r = go (eqb d p) refl (λ j. after_in F B x l q d j r.2)
  where
    go : (t : Bool) → eqb d p ≡ t → (1 ≤ one (eqb d x) + times d l → 1 ≤ times (F d) l + one (eqb (F d) q)) → 1 ≤ one (eqb (F d) x) + times (F d) l + one (eqb (F d) q)
    go true e k = let z : F d ≡ x = ap F (eqb-true d p e) ∙ r.0 in omega (arith, ap one (eq-eqb _ _ z))
    go false e k = omega (arith, k (omega (arith, ap one e)))

-- ## d taken out: what came before it is tied to what followed it
module _ (F B G C : ℕ → ℕ) (d : ℕ) (tie_f : G (B d) ≡ F d) (tie_b : C (F d) ≡ B d)
    (off_f : (x : ℕ) → x ≢ B d → G x ≡ F x) (off_b : (x : ℕ) → x ≢ F d → C x ≡ B x) where
  unlink_here : (p : ℕ) (l : List ℕ) (q : ℕ) → B d ≡ p → one (eqb p d) + times p l ≡ 0 → ((x : ℕ) → times x l + one (eqb x q) ≤ 1) → Run F B d l q → Run G C p l q
  unlink_here p [] q e n o r = (rw e at tie_f ∙ r.0, rw (r.0, e) at tie_b)
  unlink_here p (y ∷ l) q e n o r = (
    rw e at tie_f ∙ r.0,
    rw (r.0, e) at tie_b,
    run_frame F B G C y l q
        (λ x i. sym (off_f x (λ z. omega (arith, n, ap (λ (k : ℕ). one (eqb k y) + times k l) (z ∙ e)))))
        (λ x i. sym (off_b x (λ z. omega (arith, o y, one_self y, ap (λ (k : ℕ). times k l + one (eqb k q)) (z ∙ r.0)))))
        r.2,
  )

  pub unlink_run : (p : ℕ) (l : List ℕ) (q : ℕ) → 1 ≤ times d l → ((x : ℕ) → one (eqb x p) + times x l ≤ 1) → ((x : ℕ) → times x l + one (eqb x q) ≤ 1) → Run F B p l q → Run G C p (cut d l) q
  unlink_run p [] q i m o r = absurd (let z : ⊥ = omega arith in z)
  unlink_run p (x ∷ l) q i m o r = go (eqb d x) refl (λ j. unlink_run x l q j (λ y. omega (arith, m y)) (λ y. omega (arith, o y)) r.2)
    where
      go : (t : Bool) → eqb d x ≡ t → (1 ≤ times d l → Run G C x (cut d l) q) → Run G C p (cond t l (x ∷ cut d l)) q
      go true e k =
          let z : x ≡ d = sym (eqb-true d x e) in
          let w : one (eqb p d) + times p l ≡ 0 = rw (← z) (omega (arith, m p, one_self p)) in
          unlink_here p l q (rw z at r.1) w (λ y. omega (arith, o y)) (rw z at r.2)
      go false e k =
          let j : 1 ≤ times d l = omega (arith, ap one e) in
          let u = before_in F B x l q d (omega arith) r.2 in
          let v = after_in F B x l q d (omega arith) r.2 in (
            off_f p (λ z. omega (arith, m p, one_self p, u, ap (λ (s : ℕ). one (eqb s x) + times s l) z)) ∙ r.0,
            off_b x (λ z. omega (arith, o x, one_self x, v, ap (λ (s : ℕ). times s l + one (eqb s q)) z)) ∙ r.1,
            k j,
          )

-- ## c put behind the last
module _ (F B G C : ℕ → ℕ) (c q : ℕ) (tie_f : G (B q) ≡ c) (end_f : G c ≡ q) (tie_b : C c ≡ B q) (end_b : C q ≡ c)
    (off_f : (x : ℕ) → x ≢ B q → x ≢ c → G x ≡ F x) (off_b : (x : ℕ) → x ≢ q → x ≢ c → C x ≡ B x) where
  pub append_run : (p : ℕ) (l : List ℕ) → one (eqb c p) + times c l ≡ 0 → ((x : ℕ) → one (eqb x p) + times x l ≤ 1) → ((x : ℕ) → times x l + one (eqb x q) ≤ 1) → Run F B p l q → Run G C p (l ++ c ∷ []) q
  append_run p [] n m o r = (rw r.1 at tie_f, tie_b ∙ r.1, (end_f, end_b))
  append_run p (x ∷ l) n m o r =
      let u = before_in F B x l q q (omega (arith, one_self q)) r.2 in (
        off_f p (λ z. omega (arith, m p, one_self p, u, ap (λ (s : ℕ). one (eqb s x) + times s l) z)) (λ z. omega (arith, n, ap (λ (s : ℕ). one (eqb s p)) z, one_self p)) ∙ r.0,
        off_b x (λ z. omega (arith, o x, one_self x, ap (λ (s : ℕ). one (eqb x s)) z)) (λ z. omega (arith, n, one_self x, ap (λ (s : ℕ). one (eqb s x)) z)) ∙ r.1,
        append_run x l (omega arith) (λ y. omega (arith, m y)) (λ y. omega (arith, o y)) r.2,
      )
