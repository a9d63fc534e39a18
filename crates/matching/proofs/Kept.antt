-- An order carried out keeps the stored book and the other side; and what its used-up makers leave behind, once they leave. Assumes nothing.
use Prim.Native.Nat.{suc, ℕ, ◌+◌, ◌-◌, ◌<◌, ◌≤◌, min}
use mathlib.Core.Bool.{Bool, false}
use mathlib.Core.List.{List, [], ◌∷◌}
use mathlib.Core.Logic.{⊎_elim}
use mathlib.Core.Path.{ap, refl, sym, ◌∙◌, ◌≡◌}
use native.Mathlib.Nat.{sub_self, sub-zero}
use native.Mathlib.Omega.{arith}
use lib.ListN.{drop, length}
use Rattle.rules.specs.Rules.{Fill, Order, Side, Taker, given, opposite, outcome, within}
use Rattle.rules.specs.Turns.{Taken, beyond, enough, nobody, partly, wholly}
use Rattle.rules.specs.Whole.{All, Positive, Sorted, sorted∷, ◌&◌}
use Rattle.rules.proofs.Basics.{all_map, within_worse}
use Rattle.rules.proofs.Match.{given_beyond, given_none, given_within}
use Rattle.rules.proofs.Turns.{outcome_taken}
use Rattle.records.specs.Rows.{field}
use Rattle.records.proofs.Cases.{same?}
use Rattle.arena.specs.Times.{times}
use Rattle.arena.proofs.Free.{chain_frame}
use Rattle.side.specs.Levels.{Lvl, ups}
use Rattle.side.specs.Orders.{codes, orders}
use Rattle.side.specs.Stored.{Stored}
use Rattle.side.proofs.Levels.{side_frame}
use Rattle.side.proofs.Orders.{codes_times, orders_frame}
use Rattle.side.proofs.Stored.{at_most_one, row_of}
use Rattle.survey.specs.declared.Taker as order
use Rattle.survey.specs.Surveyed.{wholes}
use Rattle.survey.specs.Taker.{met_side, taker_of}
use Rattle.survey.proofs.Able.{levels_are}
use Rattle.matching.specs.declared.Last.{Last}
use Rattle.matching.specs.Carried.{Carries}
use Rattle.matching.specs.Thinned.{thinned, thinning}
use Rattle.matching.proofs.Quantities.{Only, only_agree, only_levels, only_next}

-- ## In storage

module _ {n : ℕ} {rs lv ov : List ℕ} {s t f r : ℕ} {ws vs : List Lvl} {fr : List ℕ} (w : Stored n rs lv ov s t f r ws vs fr)
    {u : order.Taker} {out rs' out' : List ℕ} {l : Last} (c : Carries u rs lv s out rs' out' l) where
  only : Only rs rs'
  only = record { long = c.long; columns = c.columns }

  -- a record that is not on this side is as it was
  elsewhere : (x : ℕ) → 1 ≤ times x (ups vs) + times x fr → (g : ℕ) → g < 3 → field rs' g x ≡ field rs g x
  elsewhere x i g h = ⊎_elim
      (λ e. rw e (c.others x (row_of w x (omega arith)).some (rw (← levels_are w) (omega (arith, at_most_one w x)))))
      (λ d. c.columns g x (omega arith) d) (same? g 1)

  pub kept_stored : Stored n rs' lv ov s t f r ws vs fr
  kept_stored = record {
    rows = c.long ∙ w.rows;
    mine = side_frame rs' (λ x i. only_agree only x) w.mine;
    theirs = side_frame rs' (λ x i. only_agree only x) w.theirs;
    free = chain_frame rs rs' f fr (λ x i. sym (only_next only x)) w.free;
    none = λ x i. elsewhere x (omega arith) 1 (omega arith) ∙ w.none x i;
    once = w.once;
    full = w.full;
    rest = w.rest;
  }

  -- the makers
  pub kept_makers : (room : ℕ) (fnd : ℕ → Bool) → orders rs' fnd (codes (met_side u) ws) ≡ thinned (taker_of room u) (orders rs fnd (codes (met_side u) ws))
  kept_makers room fnd =
      rw (levels_are w)
      (ap (λ (z : List Lvl). orders rs' fnd (codes (met_side u) z)) (sym (only_levels only lv s)) ∙ c.makers room fnd)

  -- the other side
  pub kept_others : (sd : Side) (fnd : ℕ → Bool) → orders rs' fnd (codes sd vs) ≡ orders rs fnd (codes sd vs)
  kept_others sd fnd = orders_frame rs rs' fnd fnd (codes sd vs) (λ g x h i. elsewhere x (omega (arith, codes_times sd x vs)) g h) (λ x i. refl)

-- ## The used-up makers leave from the front

module _ (t : Taker (Unit {0})) where
  thinning_done : (l : List (Order (Unit {0}))) → thinning t 0 l ≡ l
  unfolding thinning
  thinning_done [] = refl
  thinning_done (m ∷ l) = rw (given_none t m, sub-zero m.quantity, thinning_done l)

  thinning_beyond : (w : ℕ) (l : List (Order (Unit {0}))) → All (λ m. within t.side t.kind m.price ≡ false) l → thinning t w l ≡ l
  unfolding thinning
  thinning_beyond w [] a = refl
  thinning_beyond w (m ∷ l) (e & a) = rw (given_beyond t w m e, sub-zero m.quantity, sub-zero w, thinning_beyond w l a)

pub thinned_length : (t : Taker (Unit {0})) (w : ℕ) (l : List (Order (Unit {0}))) → length (thinning t w l) ≡ length l
unfolding thinning
thinned_length t w [] = refl
thinned_length t w (m ∷ l) = ap suc (thinned_length t (w - given t w m) l)

-- of the makers thinned, all but as many as the fills say are used up; and there are so many
used_leave : {t : Taker (Unit {0})} {w r : ℕ} {l k : List (Order (Unit {0}))} {f : List (Fill (Unit {0}))} → Taken t w l f k r → Sorted (opposite t.side) l
    → (drop (wholes f) (thinning t w l) ≡ k) × (wholes f ≤ length l)
unfolding thinning wholes
used_leave {t} (enough {l = l}) a = (thinning_done t l, omega arith)
used_leave nobody a = (refl, omega arith)
used_leave {t} {w} (beyond {m = m} {l = l} e) (sorted∷ a b) =
    (thinning_beyond t w (m ∷ l) (e & all_map (λ n g. within_worse t.side t.kind m.price n.price g e) a), omega arith)
used_leave {t} {w} (wholly {m = m} {l = l} {f = f} e h d) (sorted∷ a b) =
    let i = used_leave d b in
    let g : given t w m ≡ m.quantity = given_within t w m e ∙ (let z : min m.quantity w ≡ m.quantity = omega arith in z) in
    let s : 1 + wholes f ≡ suc (wholes f) = omega arith in
    (rw (g, s) i.0, omega (arith, i.1))
used_leave {t} {w} (partly {m = m} {l = l} e h k) (sorted∷ a b) =
    let g : given t w m ≡ w = given_within t w m e ∙ (let z : min m.quantity w ≡ w = omega arith in z) in
    (rw (g, sub_self w, thinning_done t l), omega arith)

module _ (t : Taker (Unit {0})) (l : List (Order (Unit {0}))) (s : Sorted (opposite t.side) l) (p : Positive l) where
  pub used_are : (drop (wholes (outcome t l).fills) (thinned t l) ≡ (outcome t l).left) × (wholes (outcome t l).fills ≤ length l)
  used_are = used_leave (outcome_taken t s p) s
