-- Rows in a list: what a run of stores leaves, how writing goes on from one place to the next, and that what is written reads back.
-- Assumes nothing.
use Prim.Native.Nat.{ℕ, zero, suc, ◌+◌, ◌*◌, ◌≤◌, ◌<◌}
use mathlib.Core.Path.{◌≡◌, refl, sym, ap, ◌∙◌}
use mathlib.Core.Bool.{Bool, true, false}
use mathlib.Core.List.{List, [], ◌∷◌, ◌++◌, append-nil, append_assoc}
use native.Mathlib.Omega.{arith}
use native.Mathlib.Nat.{add-zero, zero-add, add-mul, one-mul, zero-mul, suc-mul, le-div_iff_mul-le}
use lib.ListN.{length, take, drop, length-append, take-append-drop}
use lib.Seq.{length-take-le, drop_at, drop-drop, sets, sets-eq}
use Rattle.overlay.specs.Over.{over}
use Rattle.overlay.proofs.Over.{over_length, over_append}
use Rattle.rules.specs.Rules as rule
use Rattle.rules.specs.Whole.{one}
use Rattle.rows.specs.Rows.{RowForm, Faithful, places, Place, row_at, listed, laid, written, number_of_side, side_numbered, whole_in, fill_row, level_row}

-- ---- places

module _ {X : Type 0} (r : RowForm X) where
  -- a place that is counted is there
  pub place_within : (l : List ℕ) (i : ℕ) → 0 < r.width → i < places r l → Place r l i
  place_within l i w h =
      let k : (i + 1) * r.width ≤ length l = (le-div_iff_mul-le w).0 (omega arith) in
      let e : (i + 1) * r.width ≡ i * r.width + r.width = rw (add-mul, one-mul) in
      omega (arith, k, e)

  pub listed_length : (l : List ℕ) (n : ℕ) → length (listed r l n) ≡ n
  unfolding listed
  listed_length l zero = refl
  listed_length l (suc n) = ap suc (listed_length (drop r.width l) n)

  -- one place more
  pub listed_more : (l : List ℕ) (i : ℕ) → listed r l (suc i) ≡ listed r l i ++ (row_at r l i ∷ [])
  unfolding listed
  listed_more l zero = ap (λ (n : ℕ). r.read (drop n l) ∷ []) (sym (zero-mul r.width))
  listed_more l (suc i) =
      let n : r.width + i * r.width ≡ suc i * r.width = rw suc-mul (omega arith) in
      let e : drop (i * r.width) (drop r.width l) ≡ drop (suc i * r.width) l = drop-drop (i * r.width) r.width l ∙ ap (λ (k : ℕ). drop k l) n in
      ap (λ (m : List X). r.read l ∷ m) (listed_more (drop r.width l) i ∙ ap (λ (m : List ℕ). listed r (drop r.width l) i ++ (r.read m ∷ [])) e)

  module _ (long : (x : X) → length (r.write x) ≡ r.width) where
    laid_length : (xs : List X) → length (laid r xs) ≡ length xs * r.width
    unfolding laid
    laid_length [] = sym (zero-mul r.width)
    laid_length (x ∷ xs) = rw (length-append, long x, laid_length xs, suc-mul) (omega arith)

    laid_append : (xs ys : List X) → laid r (xs ++ ys) ≡ laid r xs ++ laid r ys
    unfolding laid
    laid_append [] ys = refl
    laid_append (x ∷ xs) ys = rw (laid_append xs ys, append_assoc)

    written_over : (l : List ℕ) (n : ℕ) (xs : List X) → written r l n xs ≡ over l (n * r.width) (laid r xs)
    unfolding written
    written_over l n xs = rw (laid_length xs, add-mul)

    -- nothing written
    pub written_none : (l : List ℕ) (n : ℕ) → written r l n [] ≡ l
    unfolding written laid
    written_none l n = rw (append-nil, add-zero) (take-append-drop (n * r.width) l)

    -- first the xs, and behind them the ys
    pub written_append : (l : List ℕ) (n : ℕ) (xs ys : List X) → n * r.width ≤ length l → written r l n (xs ++ ys) ≡ written r (written r l n xs) (n + length xs) ys
    written_append l n xs ys h =
        rw (written_over, written_over, written_over, laid_append xs ys, add-mul, ← laid_length xs) (over_append l (n * r.width) (laid r xs) (laid r ys) h)

    -- one row, and behind it the others
    pub written_step : (l : List ℕ) (n : ℕ) (x : X) (xs : List X) → n * r.width ≤ length l → written r l n (x ∷ xs) ≡ written r (written r l n (x ∷ [])) (n + 1) xs
    written_step l n x xs h = written_append l n (x ∷ []) xs h

    pub written_length : (l : List ℕ) (n : ℕ) (xs : List X) → (n + length xs) * r.width ≤ length l → length (written r l n xs) ≡ length l
    written_length l n xs h = rw written_over (over_length l (n * r.width) (laid r xs) (rw (laid_length xs, ← add-mul) h))

    -- the part from place n on, lent and written to from its start
    pub written_part : (l : List ℕ) (n : ℕ) (xs : List X) → take (n * r.width) l ++ written r (drop (n * r.width) l) 0 xs ≡ written r l n xs
    unfolding written
    written_part l n xs = rw (zero-mul, zero-add, drop-drop, add-mul) (sym (append_assoc (take (n * r.width) l) (laid r xs) _))

    -- a run of stores
    pub stored : (l : List ℕ) (i : ℕ) (x : X) → Place r l i → sets l (i * r.width) (r.write x) ≡ written r l i (x ∷ [])
    unfolding laid
    stored l i x h = rw (written_over, append-nil) (sets-eq (r.write x) l (i * r.width) (rw (long x) h))

  -- what is written reads back
  module _ (f : Faithful r) where
    pub listed_laid : (xs : List X) (l : List ℕ) → listed r (laid r xs ++ l) (length xs) ≡ xs
    unfolding listed laid
    listed_laid [] l = refl
    listed_laid (x ∷ xs) l =
        let e : laid r (x ∷ xs) ++ l ≡ r.write x ++ (laid r xs ++ l) = append_assoc (r.write x) (laid r xs) l in
        let d : drop r.width (r.write x ++ (laid r xs ++ l)) ≡ laid r xs ++ l = drop_at (r.write x) (laid r xs ++ l) r.width (f.long x) in
        rw (e, f.back x, d, listed_laid xs l)

    pub listed_written : (l : List ℕ) (xs : List X) → listed r (written r l 0 xs) (length xs) ≡ xs
    unfolding written
    listed_written l xs = rw zero-mul (listed_laid xs (drop ((0 + length xs) * r.width) l))

    pub at_written : (l : List ℕ) (n : ℕ) (x : X) → n * r.width ≤ length l → row_at r (written r l n (x ∷ [])) n ≡ x
    unfolding written laid
    at_written l n x h =
        let e : length (take (n * r.width) l) ≡ n * r.width = length-take-le (n * r.width) l h in
        let g : written r l n (x ∷ []) ≡ take (n * r.width) l ++ (r.write x ++ drop ((n + 1) * r.width) l) = rw (append-nil, append_assoc) in
        ap (at_place n) g ∙ ap r.read (drop_at (take (n * r.width) l) (r.write x ++ drop ((n + 1) * r.width) l) (n * r.width) e) ∙ f.back x (drop ((n + 1) * r.width) l)
      where
        at_place : ℕ → List ℕ → X
        at_place i m = row_at r m i

side_back : (s : rule.Side) (w : Bool) → side_numbered (number_of_side s + one w) ≡ s
side_back rule.bid true = refl
side_back rule.bid false = refl
side_back rule.ask true = refl
side_back rule.ask false = refl

whole_back : (s : rule.Side) (w : Bool) → whole_in (number_of_side s + one w) ≡ w
whole_back rule.bid true = refl
whole_back rule.bid false = refl
whole_back rule.ask true = refl
whole_back rule.ask false = refl

-- fills that are alike in every number are the same
pub same_fill : (f g : rule.Fill (Unit {0})) → f.taker ≡ g.taker → f.maker ≡ g.maker → f.quantity ≡ g.quantity → f.price ≡ g.price → f.side ≡ g.side → f.whole ≡ g.whole → f ≡ g
same_fill f g t m q p s w = go t m q p s w
  where
    go : {a a' b b' c c' d d' : ℕ} {s s' : rule.Side} {w w' : Bool} → a ≡ a' → b ≡ b' → c ≡ c' → d ≡ d' → s ≡ s' → w ≡ w'
        → ◌≡◌ {A = rule.Fill (Unit {0})}
        (record { taker = a; maker = b; quantity = c; price = d; side = s; whole = w; tag = tt })
        (record { taker = a'; maker = b'; quantity = c'; price = d'; side = s'; whole = w'; tag = tt })
    go e₀ e₁ e₂ e₃ e₄ e₅ = cc

pub fill_faithful : Faithful fill_row
fill_faithful =
    record { long = λ f. refl; back = λ f l. same_fill _ f refl refl refl refl (side_back f.side f.whole) (whole_back f.side f.whole) }

pub level_faithful : Faithful level_row
level_faithful = record { long = λ v. refl; back = λ v l. refl }
