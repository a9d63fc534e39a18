-- Levels that come and go: an empty level at place k of the list. Assumes nothing.
use Prim.Native.Nat.{suc, zero, ℕ, ◌*◌, ◌+◌, ◌-◌, ◌<◌, ◌≤◌}
use mathlib.Core.Bool.{Bool, false, true}
use mathlib.Core.List.{List, append-nil, [], ◌∷◌}
use mathlib.Core.Logic.{◌≢◌}
use mathlib.Core.Path.{ap, refl, sym, ◌∙◌, ◌≡◌}
use native.Mathlib.Omega.{arith}
use lib.Dec.{eqb, ltb}
use lib.ListN.{get_or, length}
use borrow.Author.Tests.{eqb-false, eqb-true, ltb-false, ltb-true}
use Rattle.side.specs.Levels.{Ladder, LevelStored, Lvl, downs, empty, nth, ups}
use Rattle.side.specs.Prices.{Closed, Opened}

abbrev pub gap : List Lvl → ℕ → ℕ → List Lvl
gap ws zero p = empty p ∷ ws
gap [] (suc k) p = empty p ∷ []
gap (w ∷ ws) (suc k) p = w ∷ gap ws k p

abbrev pub shut : List Lvl → ℕ → List Lvl
shut [] k = []
shut (w ∷ ws) zero = ws
shut (w ∷ ws) (suc k) = w ∷ shut ws k

pub open_length : (ws : List Lvl) (k p : ℕ) → k ≤ length ws → length (gap ws k p) ≡ length ws + 1
open_length ws zero p h = omega arith
open_length [] (suc k) p h = omega arith
open_length (w ∷ ws) (suc k) p h = omega (arith, open_length ws k p (omega arith))

pub open_below : (ws : List Lvl) (k p i : ℕ) → k ≤ length ws → i < k → nth (gap ws k p) i ≡ nth ws i
open_below ws zero p i h g = absurd (let z : ⊥ = omega arith in z)
open_below [] (suc k) p i h g = absurd (let z : ⊥ = omega arith in z)
open_below (w ∷ ws) (suc k) p zero h g = refl
open_below (w ∷ ws) (suc k) p (suc i) h g = open_below ws k p i (omega arith) (omega arith)

pub open_at : (ws : List Lvl) (k p : ℕ) → k ≤ length ws → nth (gap ws k p) k ≡ empty p
open_at ws zero p h = refl
open_at [] (suc k) p h = absurd (let z : ⊥ = omega arith in z)
open_at (w ∷ ws) (suc k) p h = open_at ws k p (omega arith)

pub open_above : (ws : List Lvl) (k p i : ℕ) → k ≤ length ws → k ≤ i → nth (gap ws k p) (suc i) ≡ nth ws i
open_above ws zero p i h g = refl
open_above [] (suc k) p i h g = absurd (let z : ⊥ = omega arith in z)
open_above (w ∷ ws) (suc k) p zero h g = absurd (let z : ⊥ = omega arith in z)
open_above (w ∷ ws) (suc k) p (suc i) h g = open_above ws k p i (omega arith) (omega arith)

-- an empty level changes no list of codes
pub open_ups : (ws : List Lvl) (k p : ℕ) → ups (gap ws k p) ≡ ups ws
open_ups ws zero p = refl
open_ups [] (suc k) p = refl
open_ups (w ∷ ws) (suc k) p = rw (open_ups ws k p)

pub open_downs : (ws : List Lvl) (k p : ℕ) → downs (gap ws k p) ≡ downs ws
open_downs ws zero p = append-nil (downs ws)
open_downs [] (suc k) p = refl
open_downs (w ∷ ws) (suc k) p = rw (open_downs ws k p)

pub shut_length : (ws : List Lvl) (k : ℕ) → k < length ws → length (shut ws k) + 1 ≡ length ws
shut_length [] k h = absurd (let z : ⊥ = omega arith in z)
shut_length (w ∷ ws) zero h = omega arith
shut_length (w ∷ ws) (suc k) h = omega (arith, shut_length ws k (omega arith))

pub shut_below : (ws : List Lvl) (k i : ℕ) → i < k → nth (shut ws k) i ≡ nth ws i
shut_below [] k i h = refl
shut_below (w ∷ ws) zero i h = absurd (let z : ⊥ = omega arith in z)
shut_below (w ∷ ws) (suc k) zero h = refl
shut_below (w ∷ ws) (suc k) (suc i) h = shut_below ws k i (omega arith)

pub shut_above : (ws : List Lvl) (k i : ℕ) → k ≤ i → nth (shut ws k) i ≡ nth ws (suc i)
shut_above [] k i h = refl
shut_above (w ∷ ws) zero i h = refl
shut_above (w ∷ ws) (suc k) zero h = absurd (let z : ⊥ = omega arith in z)
shut_above (w ∷ ws) (suc k) (suc i) h = shut_above ws k i (omega arith)

pub shut_ups : (ws : List Lvl) (k : ℕ) → (nth ws k).queue ≡ [] → ups (shut ws k) ≡ ups ws
shut_ups [] k e = refl
shut_ups (w ∷ ws) zero e = rw e
shut_ups (w ∷ ws) (suc k) e = rw (shut_ups ws k e)

pub shut_downs : (ws : List Lvl) (k : ℕ) → (nth ws k).queue ≡ [] → downs (shut ws k) ≡ downs ws
shut_downs [] k e = refl
shut_downs (w ∷ ws) zero e = rw e (sym (append-nil (downs ws)))
shut_downs (w ∷ ws) (suc k) e = rw (shut_downs ws k e)

-- ## on a side
pub data Place (k i : ℕ) : Type 0 where
  under : i < k → Place k i
  here : i ≡ k → Place k i
  over : (j : ℕ) → i ≡ suc j → k ≤ j → Place k i

pub placed : (k i : ℕ) → Place k i
placed k i = go (ltb i k) refl (eqb i k) refl i refl
  where
    go : (t : Bool) → ltb i k ≡ t → (u : Bool) → eqb i k ≡ u → (m : ℕ) → i ≡ m → Place k i
    go true e u f m g = under (ltb-true i k e)
    go false e true f m g = here (eqb-true i k f)
    go false e false f zero g = absurd (let d : i ≢ k = eqb-false i k f in let z : ⊥ = omega (arith, ltb-false i k e) in z)
    go false e false f (suc j) g = let d : i ≢ k = eqb-false i k f in over j g (omega (arith, ltb-false i k e))

module _ {rs lv : List ℕ} {n : ℕ} {ws : List Lvl} (lw : List ℕ) (k p : ℕ) (s : Ladder rs lv n ws) (kn : k ≤ n) (more : n * 3 + 3 ≤ length lv) (o : Opened lv n k p lw)
    (low : (i : ℕ) → i < k → (nth ws i).price < p) (high : (i : ℕ) → k ≤ i → i < n → p < (nth ws i).price) where
  kw : k ≤ length ws
  kw = omega (arith, s.count)

  pub open_side : Ladder rs lw (n + 1) (gap ws k p)
  open_side = record {
    count = omega (arith, open_length ws k p kw, s.count);
    room = omega (arith, o.long);
    level = λ i h. lev i h (placed k i);
    rising = λ i j a b. rise i j a b (placed k i) (placed k j);
  }
    where
      lev : (i : ℕ) → i < n + 1 → Place k i → LevelStored rs (get_or lw (i * 3) 0) (get_or lw (i * 3 + 1) 0) (get_or lw (i * 3 + 2) 0) (nth (gap ws k p) i)
      lev i h (under q) = rw (o.below (i * 3) (omega arith), o.below (i * 3 + 1) (omega arith), o.below (i * 3 + 2) (omega arith), open_below ws k p i kw q) (s.level i (omega arith))
      lev i h (here q) = rw (q, o.price, o.head, o.tail, open_at ws k p kw)
          (record { price = refl; ring = (refl, refl); priced = λ x z. absurd (let f : ⊥ = omega arith in f) })
      lev i h (over j q g) =
          let e₀ : i * 3 ≡ j * 3 + 3 = omega arith in
          let e₁ : i * 3 + 1 ≡ j * 3 + 1 + 3 = omega arith in
          let e₂ : i * 3 + 2 ≡ j * 3 + 2 + 3 = omega arith in
          let f₀ : get_or lw (i * 3) 0 ≡ get_or lv (j * 3) 0 = ap (λ (m : ℕ). get_or lw m 0) e₀ ∙ o.moved (j * 3) (omega arith) (omega arith) in
          let f₁ : get_or lw (i * 3 + 1) 0 ≡ get_or lv (j * 3 + 1) 0 = ap (λ (m : ℕ). get_or lw m 0) e₁ ∙ o.moved (j * 3 + 1) (omega arith) (omega arith) in
          let f₂ : get_or lw (i * 3 + 2) 0 ≡ get_or lv (j * 3 + 2) 0 = ap (λ (m : ℕ). get_or lw m 0) e₂ ∙ o.moved (j * 3 + 2) (omega arith) (omega arith) in
          let f₃ : nth (gap ws k p) i ≡ nth ws j = ap (nth (gap ws k p)) q ∙ open_above ws k p j kw g in
          rw (f₀, f₁, f₂, f₃) (s.level j (omega arith))

      at_under : (i : ℕ) → i < k → (nth (gap ws k p) i).price ≡ (nth ws i).price
      at_under i q = ap (λ (w : Lvl). w.price) (open_below ws k p i kw q)

      at_here : (i : ℕ) → i ≡ k → (nth (gap ws k p) i).price ≡ p
      at_here i q = ap (λ (w : Lvl). w.price) (ap (nth (gap ws k p)) q ∙ open_at ws k p kw)

      at_over : (i j : ℕ) → i ≡ suc j → k ≤ j → (nth (gap ws k p) i).price ≡ (nth ws j).price
      at_over i j q g = ap (λ (w : Lvl). w.price) (ap (nth (gap ws k p)) q ∙ open_above ws k p j kw g)

      rise : (i j : ℕ) → i < j → j < n + 1 → Place k i → Place k j → (nth (gap ws k p) i).price < (nth (gap ws k p) j).price
      rise i j a b (under q) (under r) = omega (arith, at_under i q, at_under j r, s.rising i j a (omega arith))
      rise i j a b (under q) (here r) = omega (arith, at_under i q, at_here j r, low i q)
      rise i j a b (under q) (over m r g) = omega (arith, at_under i q, at_over j m r g, s.rising i m (omega arith) (omega arith))
      rise i j a b (here q) (under r) = absurd (let z : ⊥ = omega arith in z)
      rise i j a b (here q) (here r) = absurd (let z : ⊥ = omega arith in z)
      rise i j a b (here q) (over m r g) = omega (arith, at_here i q, at_over j m r g, high m g (omega arith))
      rise i j a b (over l q f) (under r) = absurd (let z : ⊥ = omega arith in z)
      rise i j a b (over l q f) (here r) = absurd (let z : ⊥ = omega arith in z)
      rise i j a b (over l q f) (over m r g) = omega (arith, at_over i l q f, at_over j m r g, s.rising l m (omega arith) (omega arith))

module _ {rs lv : List ℕ} {n : ℕ} {ws : List Lvl} (lw : List ℕ) (k : ℕ) (s : Ladder rs lv n ws) (kn : k < n) (o : Closed lv (k * 3) ((n - 1) * 3) lw) where
  pub shut_side : Ladder rs lw (n - 1) (shut ws k)
  shut_side = record {
    count = omega (arith, shut_length ws k (omega (arith, s.count)), s.count);
    room = omega (arith, o.long, s.room);
    level = λ i h. lev i h (ltb i k) refl;
    rising = λ i j a b. rise i j a b (ltb i k) refl (ltb j k) refl;
  }
    where
      lev : (i : ℕ) → i < n - 1 → (t : Bool) → ltb i k ≡ t → LevelStored rs (get_or lw (i * 3) 0) (get_or lw (i * 3 + 1) 0) (get_or lw (i * 3 + 2) 0) (nth (shut ws k) i)
      lev i h true e =
          let q : i < k = ltb-true i k e in
          rw (o.below (i * 3) (omega arith), o.below (i * 3 + 1) (omega arith), o.below (i * 3 + 2) (omega arith), shut_below ws k i q) (s.level i (omega arith))
      lev i h false e =
          let q : k ≤ i = ltb-false i k e in
          let e₀ : i * 3 + 3 ≡ suc i * 3 = omega arith in
          let e₁ : i * 3 + 1 + 3 ≡ suc i * 3 + 1 = omega arith in
          let e₂ : i * 3 + 2 + 3 ≡ suc i * 3 + 2 = omega arith in
          let f₀ : get_or lw (i * 3) 0 ≡ get_or lv (suc i * 3) 0 = o.moved (i * 3) (omega arith) (omega arith) ∙ ap (λ (m : ℕ). get_or lv m 0) e₀ in
          let f₁ : get_or lw (i * 3 + 1) 0 ≡ get_or lv (suc i * 3 + 1) 0 = o.moved (i * 3 + 1) (omega arith) (omega arith) ∙ ap (λ (m : ℕ). get_or lv m 0) e₁ in
          let f₂ : get_or lw (i * 3 + 2) 0 ≡ get_or lv (suc i * 3 + 2) 0 = o.moved (i * 3 + 2) (omega arith) (omega arith) ∙ ap (λ (m : ℕ). get_or lv m 0) e₂ in
          rw (f₀, f₁, f₂, shut_above ws k i q) (s.level (suc i) (omega arith))

      rise : (i j : ℕ) → i < j → j < n - 1 → (t : Bool) → ltb i k ≡ t → (u : Bool) → ltb j k ≡ u → (nth (shut ws k) i).price < (nth (shut ws k) j).price
      rise i j a b true e true f = omega (arith, s.rising i j a (omega arith), ap (λ (w : Lvl). w.price) (shut_below ws k i (ltb-true i k e)), ap (λ (w : Lvl). w.price) (shut_below ws k j (ltb-true j k f)))
      rise i j a b true e false f = omega (arith, s.rising i (suc j) (omega arith) (omega arith), ap (λ (w : Lvl). w.price) (shut_below ws k i (ltb-true i k e)), ap (λ (w : Lvl). w.price) (shut_above ws k j (ltb-false j k f)))
      rise i j a b false e true f = absurd (let z : ⊥ = omega (arith, ltb-false i k e, ltb-true j k f) in z)
      rise i j a b false e false f = omega (arith, s.rising (suc i) (suc j) (omega arith) (omega arith), ap (λ (w : Lvl). w.price) (shut_above ws k i (ltb-false i k e)), ap (λ (w : Lvl). w.price) (shut_above ws k j (ltb-false j k f)))
