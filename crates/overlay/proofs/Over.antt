-- Numbers laid over others: one part behind another, and the last one first. Assumes nothing.
use Prim.Native.Nat.{ℕ, suc, ◌+◌, ◌-◌, ◌≤◌, ◌<◌}
use mathlib.Core.Path.{◌≡◌, refl, sym, ap, ◌∙◌}
use mathlib.Core.List.{List, [], ◌∷◌, ◌++◌, append-nil, append_assoc}
use native.Mathlib.Omega.{arith}
use native.Mathlib.Nat.{add-zero}
use lib.ListN.{length, set, take, drop, length-append, length-drop, length-set, take-append-drop}
use lib.Seq.{length-take-le, take_at, drop_at, drop-drop, drop-cons, get_or-set_same, take-set-le, drop-set-lt, set_split, append_snoc}
use native.Mathlib.Numerals.{add-one}
use Rattle.overlay.specs.Over.{over, Put}

pub over_none : (l : List ℕ) (a : ℕ) → over l a [] ≡ l
over_none l a = rw (append-nil, add-zero) (take-append-drop a l)

pub over_length : (l : List ℕ) (a : ℕ) (ys : List ℕ) → a + length ys ≤ length l → length (over l a ys) ≡ length l
over_length l a ys h = let m : a ≤ length l = omega arith in simp (length-append, length-take-le a l m, length-drop) (omega arith)

front_length : (l : List ℕ) (a : ℕ) (ys : List ℕ) → a ≤ length l → length (take a l ++ ys) ≡ a + length ys
front_length l a ys h = simp (length-append, length-take-le a l h)

-- first the ys, and behind them the zs
pub over_append : (l : List ℕ) (a : ℕ) (ys zs : List ℕ) → a ≤ length l → over l a (ys ++ zs) ≡ over (over l a ys) (a + length ys) zs
over_append l a ys zs h =
    let e : length (take a l ++ ys) ≡ a + length ys = front_length l a ys h in
    let f : take (a + length ys) (over l a ys) ≡ take a l ++ ys = take_at (take a l ++ ys) (drop (a + length ys) l) (a + length ys) e in
    let g : drop (a + length ys) (over l a ys) ≡ drop (a + length ys) l = drop_at (take a l ++ ys) (drop (a + length ys) l) (a + length ys) e in
    let k : drop (a + length ys + length zs) (over l a ys) ≡ drop (a + length ys + length zs) l =
    sym (drop-drop (length zs) (a + length ys) (over l a ys)) ∙ ap (drop (length zs)) g ∙ drop-drop (length zs) (a + length ys) l in
    let n : a + length (ys ++ zs) ≡ a + length ys + length zs = omega (arith, length-append ys zs) in
    rw (n, f, k) (ap (λ (m : List ℕ). m ++ drop (a + length ys + length zs) l) (sym (append_assoc (take a l) ys zs)))

-- the last byte first, and then the ys in front of it
pub over_last : (l : List ℕ) (a : ℕ) (ys : List ℕ) (b : ℕ) → a + length ys < length l → over (set l (a + length ys) b) a ys ≡ over l a (ys ++ (b ∷ []))
over_last l a ys b h =
    let i : ℕ = a + length ys in
    let t : take a (set l (a + length ys) b) ≡ take a l = take-set-le a l (a + length ys) b (omega arith) in
    let d : drop (a + length ys) (set l (a + length ys) b) ≡ b ∷ drop (suc (a + length ys)) l =
    drop-cons (set l (a + length ys) b) (a + length ys) 0 (rw length-set h)
    ∙ ap (λ (x : ℕ). x ∷ drop (suc (a + length ys)) (set l (a + length ys) b)) (get_or-set_same l (a + length ys) b 0 h)
    ∙ ap (λ (x : List ℕ). b ∷ x) (drop-set-lt (suc (a + length ys)) l (a + length ys) b (omega arith)) in
    let n : a + length (ys ++ (b ∷ [])) ≡ suc (a + length ys) = omega (arith, length-append ys (b ∷ [])) in
    rw (t, d, n) (simp append_assoc)

-- ---- parts put one behind another

pub put_more : {l l' l'' ys zs : List ℕ} {a r s : ℕ} → Put l a ys l' r → Put l' r zs l'' s → Put l a (ys ++ zs) l'' s
put_more {l} {l'} {l''} {ys} {zs} {a} {r} {s} p q =
    let h : a ≤ length l = omega (arith, p.fits) in
    let n : length (ys ++ zs) ≡ length ys + length zs = length-append ys zs in
    record {
      fits = omega (arith, n, p.long, p.next, q.fits);
      next = omega (arith, n, p.next, q.next);
      long = q.long ∙ p.long;
      laid = q.laid ∙ ap (λ (x : List ℕ). over x r zs) p.laid ∙ ap (λ (i : ℕ). over (over l a ys) i zs) p.next ∙ sym (over_append l a ys zs h);
    }

-- one byte
pub put_one : (l : List ℕ) (a b : ℕ) → a < length l → Put l a (b ∷ []) (set l a b) (a + 1)
put_one l a b h =
    record {
      fits = omega arith;
      next = refl;
      long = length-set l a b;
      laid = set_split l a b h ∙ sym (append_snoc (take a l) b (drop (suc a) l)) ∙ ap (λ (i : ℕ). take a l ++ (b ∷ []) ++ drop i l) (sym (add-one a));
    }

-- what was laid is what was put
pub put_over : (l : List ℕ) (a : ℕ) (ys l' : List ℕ) (r : ℕ) → a + length ys ≤ length l → r ≡ a + length ys → l' ≡ over l a ys → Put l a ys l' r
put_over l a ys l' r h n e = record { fits = h; next = n; long = ap length e ∙ over_length l a ys h; laid = e }

-- nothing put
pub put_none : (l : List ℕ) (a : ℕ) → a ≤ length l → Put l a [] l a
put_none l a h = put_over l a [] l a (omega arith) (sym (add-zero a)) (sym (over_none l a))

-- what was put stands there
pub put_stands : {l l' ys : List ℕ} {a r : ℕ} → Put l a ys l' r → take (r - a) (drop a l') ≡ ys
put_stands {l} {l'} {ys} {a} {r} p =
    let n : r - a ≡ length ys = omega (arith, p.next) in
    let h : length (take a l) ≡ a = length-take-le a l (omega (arith, p.fits)) in
    let d : drop a l' ≡ ys ++ drop (a + length ys) l =
    ap (drop a) (p.laid ∙ append_assoc (take a l) ys (drop (a + length ys) l)) ∙ drop_at (take a l) (ys ++ drop (a + length ys) l) a h in
    rw (n, d) (take_at ys (drop (a + length ys) l) (length ys) refl)
