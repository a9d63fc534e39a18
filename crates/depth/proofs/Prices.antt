-- The prices of a side: the best, and whether one of its orders has a price. Assumes nothing.
use Prim.Native.Nat.{ℕ, ◌<◌, ◌≤◌}
use Rattle.std.proofs.Math.Bool.{or-true}
use mathlib.Core.Bool.{Bool, false, not, true, ◌||◌}
use mathlib.Core.List.{List, [], ◌∷◌}
use mathlib.Core.Logic.{◌≢◌, ⊎_elim}
use mathlib.Core.Option.{some}
use mathlib.Core.Path.{ap, refl, sym, ◌∙◌, ◌≡◌}
use native.Mathlib.Omega.{arith}
use lib.Dec.{eqb}
use borrow.Author.Tests.{eq-eqb, eqb-false, eqb-true, ne_eqb}
use Rattle.rules.specs.Rules.{Side, ask, best, bid, occupied}
use Rattle.rules.specs.Whole.{one}
use Rattle.records.specs.Rows.{field}
use Rattle.records.proofs.Cases.{lt?}
use Rattle.arena.specs.Links.{price_of}
use Rattle.arena.specs.Times.{times}
use Rattle.arena.proofs.Times.{one_self}
use Rattle.side.specs.Levels.{nth}
use Rattle.side.specs.Orders.{codes, orders, orders_in}
use Rattle.side.specs.Read.{levels_in}
use Rattle.side.specs.Prices.{Bracket, row_in_turn}
use Rattle.side.proofs.Leaving.{stands}
use Rattle.side.proofs.Levels.{nth_times}
use Rattle.side.proofs.Orders.{codes_times}
use Rattle.ledger.proofs.Best.{busy_at, front_of, front_price, some_of}
use Rattle.depth.specs.Sides.{Standing}
use Rattle.depth.proofs.Sides.{rising, some_row}

-- ## the best price: that of the row whose turn is first
pub best_row : {rs lv : List ℕ} {n : ℕ} (sd : Side) (fnd : ℕ → Bool) → Standing rs lv n → 1 ≤ n → some (price_of lv (row_in_turn sd n n)) ≡ best (orders_in sd rs fnd lv n)
best_row {rs} {lv} {n} sd fnd s h =
    let f = front_of s.ladder s.busy sd h in
    rw f.1 (ap some (sym (front_price s.ladder s.busy (row_in_turn sd n n) (turn_in sd))))
  where
    turn_in : (sd : Side) → row_in_turn sd n n < n
    turn_in bid = omega arith
    turn_in ask = omega arith

-- ## a price that is new to the side
module _ (rs : List ℕ) (fnd : ℕ → Bool) (p : ℕ) where
  occupied_at : (l : List ℕ) (x : ℕ) → 1 ≤ times x l → field rs 2 x ≡ p → occupied p (orders rs fnd l) ≡ true
  unfolding occupied
  occupied_at [] x i e = absurd (let z : ⊥ = omega arith in z)
  occupied_at (c ∷ l) x i e = go (eqb x c) refl (occupied_at l x)
    where
      go : (b : Bool) → eqb x c ≡ b → (1 ≤ times x l → field rs 2 x ≡ p → occupied p (orders rs fnd l) ≡ true) → eqb p (field rs 2 c) || occupied p (orders rs fnd l) ≡ true
      go true z k = rw (eq-eqb p (field rs 2 c) (sym e ∙ ap (field rs 2) (eqb-true x c z)))
      go false z k = rw (k (omega (arith, ap one z)) e) (or-true (eqb p (field rs 2 c)))

  occupied_none : (l : List ℕ) → ((x : ℕ) → 1 ≤ times x l → p ≢ field rs 2 x) → occupied p (orders rs fnd l) ≡ false
  unfolding occupied
  occupied_none [] h = refl
  occupied_none (c ∷ l) h = rw (ne_eqb p (field rs 2 c) (h c (omega (arith, one_self c))), occupied_none l (λ x i. h x (omega arith)))

module _ {rs lv : List ℕ} {n : ℕ} (s : Standing rs lv n) (sd : Side) (fnd : ℕ → Bool) (p : ℕ) where
  -- a row has it
  pub occupied_row : (i : ℕ) → i < n → price_of lv i ≡ p → occupied p (orders_in sd rs fnd lv n) ≡ true
  occupied_row i h e =
      let ws = levels_in rs lv n in
      let x = some_of (nth ws i).queue (busy_at ws i s.busy (some_row s i h)) in
      occupied_at rs fnd p (codes sd ws) x.0 (omega (arith, x.1, nth_times x.0 ws i (some_row s i h), codes_times sd x.0 ws))
      ((s.ladder.level i h).priced x.0 x.1 ∙ (sym (s.ladder.level i h).price ∙ e))

  -- no row has it
  pub occupied_nowhere : ((i : ℕ) → i < n → p ≢ price_of lv i) → occupied p (orders_in sd rs fnd lv n) ≡ false
  occupied_nowhere h =
      occupied_none rs fnd p (codes sd (levels_in rs lv n)) (λ x j e.
      let v = stands (levels_in rs lv n) x (omega (arith, codes_times sd x (levels_in rs lv n))) in
      let i : v.at < n = omega (arith, v.below, s.ladder.count) in
      h v.at i (e ∙ ((s.ladder.level v.at i).priced x v.inside ∙ sym (s.ladder.level v.at i).price)))

  -- where the search for it ended among the rows, and past them
  module _ {k : ℕ} (b : Bracket lv n p k k) where
    pub new_within : k < n → not (eqb (price_of lv k) p) ≡ not (occupied p (orders_in sd rs fnd lv n))
    new_within h = go (eqb (price_of lv k) p) refl
      where
        go : (t : Bool) → eqb (price_of lv k) p ≡ t → not t ≡ not (occupied p (orders_in sd rs fnd lv n))
        go true e = rw (occupied_row k h (eqb-true (price_of lv k) p e))
        go false e =
            let d : price_of lv k ≢ p = eqb-false (price_of lv k) p e in
            rw (occupied_nowhere (λ i j z. ⊎_elim (λ u. omega (arith, b.low i u)) (λ u. other i j z u d) (lt? i k)))
          where
            other : (i : ℕ) → i < n → p ≡ price_of lv i → k ≤ i → price_of lv k ≢ p → ⊥
            other i j z u d = ⊎_elim (λ v. omega (arith, (rising s).rise k i v j, b.high k (omega arith) h)) (λ v. d (let w : k ≡ i = omega arith in ap (price_of lv) w ∙ sym z)) (lt? k i)

    pub new_past : n ≤ k → true ≡ not (occupied p (orders_in sd rs fnd lv n))
    new_past h = rw (occupied_nowhere (λ i j z. omega (arith, b.low i (omega arith))))
