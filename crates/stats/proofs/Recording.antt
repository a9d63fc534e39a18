-- Sums over fills, refusal 3 from capped sums, and the statistics after an order and after any list of rows. Assumes nothing.
use Rattle.std.proofs.Common.{◌≡◌, ℕ, suc, ◌+◌, ◌-◌, ◌*◌, ◌<◌, ◌≤◌, min, Bool, true, false, ◌||◌, ltb, List, [], ◌∷◌, ◌++◌, length, sym, refl, ap, ◌∙◌, add-one, arith, ltb-false, le-ltb, lt-ltb, Option, Some, None, is_some, is_none, not, Ok, Err}
use mathlib.Core.Logic.{◌⊎◌, ⊎_elim}
use native.Mathlib.Decide.{dec_le}
use Rattle.rules.specs.Rules as rule
use Rattle.rules.specs.Rules.{Fill, Stats, total, worth, last_price, last_quantity, most, some?, stats_after, too_large, recording}
use Rattle.stats.specs.declared.Statistics.{Statistics}
use Rattle.models.specs.declared.FillMetadata.{FillMetadata}
use Rattle.models.specs.declared.Refusal.TheVariants.{SumTooLarge}
use Rattle.stats.specs.declared.Totals.{Totals}
use Rattle.models.specs.Readings.{fill_of}
use Rattle.stats.specs.Statistics.{statistics_of, totals_of, with_fill, over_of, VolumeFits, fills_in, Follows}
use Rattle.rows.specs.Rows.{fill_row, places, row_at, listed}
use Rattle.sums.specs.Sums.{capped}
use Rattle.sums.proofs.Capped.{capped_small, capped_large, capped_value, capped_has, plus_capped}
use Rattle.rows.proofs.Places.{listed_length, listed_more}

module _ {A : Type 0} where
  -- ---- sums over fills, one fill more

  pub total_more : (l : List (Fill A)) (f : Fill A) → total (l ++ (f ∷ [])) ≡ total l + f.quantity
  unfolding total
  total_more [] f = omega arith
  total_more (g ∷ l) f = rw (total_more l f) (omega arith)

  pub worth_more : (l : List (Fill A)) (f : Fill A) → worth (l ++ (f ∷ [])) ≡ worth l + f.price * f.quantity
  unfolding worth
  worth_more [] f = omega arith
  worth_more (g ∷ l) f = rw (worth_more l f) (omega arith)

  pub last_price_lem : (l : List (Fill A)) (f : Fill A) → last_price (l ++ (f ∷ [])) ≡ f.price
  unfolding last_price
  last_price_lem [] f = refl
  last_price_lem (g ∷ []) f = refl
  last_price_lem (g ∷ h ∷ l) f = last_price_lem (h ∷ l) f

  pub last_quantity_lem : (l : List (Fill A)) (f : Fill A) → last_quantity (l ++ (f ∷ [])) ≡ f.quantity
  unfolding last_quantity
  last_quantity_lem [] f = refl
  last_quantity_lem (g ∷ []) f = refl
  last_quantity_lem (g ∷ h ∷ l) f = last_quantity_lem (h ∷ l) f

-- ---- refusal 3

-- neither of two tests passes
or_false : (a b : Bool) → a || b ≡ false → (a ≡ false) × (b ≡ false)
or_false true b h = absurd (let n : ◌≡◌ {A = ℕ} 0 1 = cc in let x : ⊥ = omega arith in x)
or_false false b h = (refl, h)

over_is : (n : ℕ) → is_none (capped n) ≡ ltb most n
over_is n = go (dec_le n most)
  where
    go : Dec (n ≤ most) → is_none (capped n) ≡ ltb most n
    go (yes p) = rw (capped_small n p, le-ltb most n p)
    go (no p) = let h : most < n = omega arith in rw (capped_large n h, lt-ltb most n h)

pub none_is : {X : Type 0} (o : Option X) (b : Bool) → is_some o ≡ not b → b ≡ is_none o
none_is None true e = refl
none_is None false e = e
none_is (Some x) true e = e
none_is (Some x) false e = refl

some_is : {A : Type 0} (l : List (Fill A)) → some? l ≡ ltb 0 (length l)
some_is [] = refl
some_is (f ∷ l) = sym (lt-ltb 0 (length (f ∷ l)) (omega arith))

-- ---- the sums over a list of rows

pub totals_more : (l : List (Fill (Unit {0}))) (f : Fill (Unit {0})) → totals_of (l ++ (f ∷ [])) ≡ with_fill (totals_of l) f.price f.quantity
unfolding totals_of with_fill
totals_more l f = rw (worth_more l f, total_more l f, plus_capped, plus_capped)

pub summed_none : (l : List ℕ) (t : Totals) → t ≡ totals_of [] → t ≡ totals_of (listed fill_row l 0)
unfolding listed
summed_none l t e = e

pub summed_more : (l : List ℕ) (i : ℕ) (t t' : Totals) (g : FillMetadata) → t ≡ totals_of (listed fill_row l i) → fill_of g ≡ row_at fill_row l i → t' ≡ with_fill t g.price.0 g.qty.0 → t' ≡ totals_of (listed fill_row l (i + 1))
summed_more l i t t' g e f h =
    let p : g.price.0 ≡ (row_at fill_row l i).price = ap (λ (x : Fill (Unit {0})). x.price) f in
    let q : g.qty.0 ≡ (row_at fill_row l i).quantity = ap (λ (x : Fill (Unit {0})). x.quantity) f in
    rw (add-one i, listed_more fill_row l i, totals_more) (h ∙ with_same e p q)
  where
    with_same : {t u : Totals} {p p' q q' : ℕ} → t ≡ u → p ≡ p' → q ≡ q' → with_fill t p q ≡ with_fill u p' q'
    with_same e p q = cc

-- ---- the statistics after an order

pub traded_none : (b : Bool) (q s p n : ℕ) (st : Stats) → q ≡ 0 → rule.traded b q s p n st ≡ st
traded_none true q s p n st e = rw e
traded_none false q s p n st e = refl

-- ---- the statistics after a list of fills

module _ (st : Statistics) (l : List (Fill (Unit {0}))) where
  -- the test for refusal 3 on the capped sums is the rule book's on the fills
  pub too_large_is : over_of st (length l) (totals_of l) ≡ too_large l (statistics_of st)
  unfolding over_of totals_of too_large
  too_large_is = rw (plus_capped, over_is, over_is, ← some_is l)

  module _ (no : too_large l (statistics_of st) ≡ false) where
    -- where it does not apply and tracking is on, the new volume fits
    pub volume_fits : (q : ℕ) → (totals_of l).quantity ≡ Some q → VolumeFits st q
    unfolding too_large total totals_of
    volume_fits q w on h = go l refl
      where
        e : q ≡ total l
        e = capped_value (total l) q w

        go : (k : List (Fill (Unit {0}))) → l ≡ k → st.volume.0 + q ≤ most
        go [] d = absurd (let z : total l ≡ 0 = rw d in let x : ⊥ = omega (arith, e, z) in x)
        go (f ∷ k) d =
            let a : some? l ≡ true = rw d in
            let m : ltb most (worth l) || ltb most (st.volume.0 + total l) ≡ false = rw (on, a) at no in
            rw e (ltb-false most (st.volume.0 + total l) (or_false (ltb most (worth l)) (ltb most (st.volume.0 + total l)) m).1)

    -- the sums give what the fills give,
    pub traded_after : (q s p n : ℕ) → (totals_of l).quantity ≡ Some q → (totals_of l).worth ≡ Some s → last_price l ≡ p → last_quantity l ≡ n
        → rule.traded st.tracking q s p n (statistics_of st) ≡ stats_after l (statistics_of st)
    unfolding totals_of stats_after
    traded_after q s p n e f g h = rw (capped_value (total l) q e, capped_value (worth l) s f, g, h)

    -- and where one has passed 2^64 - 1, tracking is off or there are no fills
    pub untraded : (totals_of l).worth ≡ None ⊎ (totals_of l).quantity ≡ None → stats_after l (statistics_of st) ≡ statistics_of st
    unfolding totals_of stats_after too_large worth total
    untraded o = go st.tracking refl
      where
        passed : worth l ≤ most → total l ≤ most → ⊥
        passed w t = ⊎_elim (capped_has (worth l) w) (capped_has (total l) t) o

        each : st.tracking ≡ true → (k : List (Fill (Unit {0}))) → l ≡ k → ⊥
        each on [] d = passed (rw d (omega arith)) (rw d (omega arith))
        each on (f ∷ k) d =
            let a : some? l ≡ true = rw d in
            let m : ltb most (worth l) || ltb most (st.volume.0 + total l) ≡ false = rw (on, a) at no in
            let n : (ltb most (worth l) ≡ false) × (ltb most (st.volume.0 + total l) ≡ false) = or_false (ltb most (worth l)) (ltb most (st.volume.0 + total l)) m in
            passed (ltb-false most (worth l) n.0) (let v : st.volume.0 + total l ≤ most = ltb-false most (st.volume.0 + total l) n.1 in omega arith)

        go : (b : Bool) → st.tracking ≡ b → stats_after l (statistics_of st) ≡ statistics_of st
        go true on = absurd (each on l refl)
        go false off = rw off

-- r is what the rule book says, by cases on whether it refuses
module _ (st : Statistics) (l : List (Fill (Unit {0}))) where
  pub follows_refused : {X : Type 0} → too_large l (statistics_of st) ≡ true → Follows {X = X} st l (Err SumTooLarge) st
  unfolding recording
  follows_refused h = record { code = rw h; statistics = rw h }

  pub follows_new : (new : Statistics) → too_large l (statistics_of st) ≡ false → statistics_of new ≡ stats_after l (statistics_of st) → Follows st l (Ok new) new
  unfolding recording
  follows_new new h e = record { code = rw h; statistics = rw h e }

-- the fills are rows of a list, n of them count, and refusal 3 has been tested on their totals
module _ (st : Statistics) (l : List ℕ) (count n : ℕ) (e : n ≡ min count (places fill_row l)) (t : Totals) (s : t ≡ totals_of (listed fill_row l n)) (b : Bool) (k : b ≡ over_of st n t) where
  counted : fills_in l count ≡ listed fill_row l n
  counted = ap (listed fill_row l) (sym e)

  totals : t ≡ totals_of (fills_in l count)
  totals = s ∙ ap totals_of (sym counted)

  tested : too_large (fills_in l count) (statistics_of st) ≡ b
  tested =
      let m : n ≡ length (fills_in l count) = sym (ap length counted ∙ listed_length fill_row l n) in
      sym (k ∙ rw (m, totals) (too_large_is st (fills_in l count)))

  pub ends_refused : b ≡ true → Follows {X = Statistics} st (fills_in l count) (Err SumTooLarge) st
  ends_refused h = follows_refused st (fills_in l count) (tested ∙ h)

  module _ (h : b ≡ false) where
    ends_as : (new : Statistics) → statistics_of new ≡ stats_after (fills_in l count) (statistics_of st) → Follows st (fills_in l count) (Ok new) new
    ends_as new e = follows_new st (fills_in l count) new (tested ∙ h) e

    pub ends_none : n ≡ 0 → Follows st (fills_in l count) (Ok st) st
    unfolding stats_after listed total
    ends_none z =
        let o : fills_in l count ≡ [] = counted ∙ ap (listed fill_row l) z in
        let q : total (fills_in l count) ≡ 0 = ap total o in
        ends_as st (sym (traded_none st.tracking _ _ _ _ (statistics_of st) q))

    pub ends_untraded : t.worth ≡ None ⊎ t.quantity ≡ None → Follows st (fills_in l count) (Ok st) st
    ends_untraded o = ends_as st (sym (untraded st (fills_in l count) (tested ∙ h) (rw totals at o)))

    pub ends_fits : (q : ℕ) → t.quantity ≡ Some q → VolumeFits st q
    ends_fits q e = volume_fits st (fills_in l count) (tested ∙ h) q (rw totals at e)

    pub ends_new : (g : FillMetadata) (new : Statistics) (q s : ℕ) → 0 < n → fill_of g ≡ row_at fill_row l (n - 1) → t.quantity ≡ Some q → t.worth ≡ Some s
        → statistics_of new ≡ rule.traded st.tracking q s g.price.0 g.qty.0 (statistics_of st)
        → Follows st (fills_in l count) (Ok new) new
    ends_new g new q s more f eq es m =
        let o : n ≡ suc (n - 1) = omega arith in
        let v : fills_in l count ≡ listed fill_row l (n - 1) ++ (row_at fill_row l (n - 1) ∷ []) = counted ∙ ap (listed fill_row l) o ∙ listed_more fill_row l (n - 1) in
        let p : last_price (fills_in l count) ≡ g.price.0 = ap last_price v ∙ last_price_lem (listed fill_row l (n - 1)) (row_at fill_row l (n - 1)) ∙ sym (ap (λ (x : Fill (Unit {0})). x.price) f) in
        let k : last_quantity (fills_in l count) ≡ g.qty.0 = ap last_quantity v ∙ last_quantity_lem (listed fill_row l (n - 1)) (row_at fill_row l (n - 1)) ∙ sym (ap (λ (x : Fill (Unit {0})). x.quantity) f) in
        ends_as new (m ∙ traded_after st (fills_in l count) (tested ∙ h) q s g.price.0 g.qty.0 (rw totals at eq) (rw totals at es) p k)
