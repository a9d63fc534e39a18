-- The levels of the rules, read off a side's rows: each row is a level, with the total of its queue. Assumes nothing.
use Prim.Native.Nat.{suc, ℕ, ◌+◌, ◌-◌, ◌<◌, ◌≤◌}
use mathlib.Core.Bool.{Bool, cond, false, true}
use mathlib.Core.List.{List, [], reverse, reverse-cons, reverse-reverse, ◌++◌, ◌∷◌}
use mathlib.Core.Logic.{◌≢◌}
use mathlib.Core.Path.{ap, refl, sym, ◌∙◌, ◌≡◌}
use native.Mathlib.Nat.{add-zero}
use native.Mathlib.Numerals.{add-one}
use native.Mathlib.Omega.{arith}
use lib.Dec.{eqb}
use lib.ListN.{length, length-reverse}
use borrow.Author.Tests.{eq-eqb}
use Rattle.rules.specs.Rules.{Level, Side, ask, bid, joined, levels}
use Rattle.rules.proofs.Loops.{joined_new}
use Rattle.records.specs.Rows.{field, record_count}
use Rattle.arena.specs.Links.{head_of, price_of}
use Rattle.arena.specs.Times.{times}
use Rattle.arena.proofs.Times.{one_self}
use Rattle.side.specs.Levels.{Lvl, downs, ups}
use Rattle.side.specs.Orders.{orders, orders_in}
use Rattle.side.specs.Read.{levels_from, levels_in}
use Rattle.side.proofs.Levels.{downs_times}
use Rattle.side.proofs.Orders.{Tiers, side_tiers}
use Rattle.ledger.specs.Desk.{Busy}
use Rattle.depth.specs.Sides.{Standing, ascending, quantities, queue_in}

-- ## levels of lists of orders
joined_cons : (p q : ℕ) (v : Level) (l k : List Level) → joined p q ((v ∷ l) ++ k) ≡ joined p q (v ∷ l) ++ k
joined_cons p q v l k = go (eqb p v.price)
  where
    go : (b : Bool) → cond b (record { price = p; total = q + v.total } ∷ (l ++ k)) (record { price = p; total = q } ∷ v ∷ (l ++ k))
        ≡ cond b (record { price = p; total = q + v.total } ∷ l) (record { price = p; total = q } ∷ v ∷ l) ++ k
    go true = refl
    go false = refl

joined_more : (p q n r : ℕ) (l k : List Level) → joined p q (joined n r l ++ k) ≡ joined p q (joined n r l) ++ k
joined_more p q n r [] k = joined_cons p q (record { price = n; total = r }) [] k
joined_more p q n r (v ∷ l) k = go (eqb n v.price)
  where
    go : (b : Bool) → joined p q (cond b (record { price = n; total = r + v.total } ∷ l) (record { price = n; total = r } ∷ v ∷ l) ++ k)
        ≡ joined p q (cond b (record { price = n; total = r + v.total } ∷ l) (record { price = n; total = r } ∷ v ∷ l)) ++ k
    go true = joined_cons p q (record { price = n; total = r + v.total }) l k
    go false = joined_cons p q (record { price = n; total = r }) (v ∷ l) k

module _ (rs : List ℕ) (fnd : ℕ → Bool) where
  -- a queue at one price is one level
  level_queue : (p c : ℕ) (l : List ℕ) → ((x : ℕ) → 1 ≤ times x (c ∷ l) → field rs 2 x ≡ p)
      → levels (orders rs fnd (c ∷ l)) ≡ record { price = p; total = quantities rs (c ∷ l) } ∷ []
  unfolding levels
  level_queue p c [] h = rw (h c (omega (arith, one_self c)), add-zero (field rs 1 c))
  level_queue p c (d ∷ l) h = rw (level_queue p d l (λ x i. h x (omega arith)), h c (omega (arith, one_self c)), eq-eqb p p refl)

  -- orders that share no price with those behind them
  levels_apart : (a b : List ℕ) → ((x y : ℕ) → 1 ≤ times x a → 1 ≤ times y b → field rs 2 x ≢ field rs 2 y)
      → levels (orders rs fnd (a ++ b)) ≡ levels (orders rs fnd a) ++ levels (orders rs fnd b)
  unfolding levels
  levels_apart [] b h = refl
  levels_apart (c ∷ []) [] h = refl
  levels_apart (c ∷ []) (d ∷ b) h = joined_new (field rs 2 c) (field rs 1 c) (field rs 2 d) (field rs 1 d) (levels (orders rs fnd b)) (h c d (omega (arith, one_self c)) (omega (arith, one_self d)))
  levels_apart (c ∷ d ∷ a) b h =
      ap (joined (field rs 2 c) (field rs 1 c)) (levels_apart (d ∷ a) b (λ x y i j. h x y (omega arith) j))
      ∙ joined_more (field rs 2 c) (field rs 1 c) (field rs 2 d) (field rs 1 d) (levels (orders rs fnd a)) (levels (orders rs fnd b))

-- ## a side's levels, ascending
abbrev pub total_of : List ℕ → Lvl → Level
total_of rs w = record { price = w.price; total = quantities rs w.queue }

abbrev pub totals : List ℕ → List Lvl → List Level
totals rs [] = []
totals rs (w ∷ ws) = total_of rs w ∷ totals rs ws

module _ (rs : List ℕ) (fnd : ℕ → Bool) where
  one_level : (w : Lvl) → 1 ≤ length w.queue → ((x : ℕ) → 1 ≤ times x w.queue → field rs 2 x ≡ w.price)
      → levels (orders rs fnd w.queue) ≡ total_of rs w ∷ []
  one_level w o h = go w.queue o h
    where
      go : (q : List ℕ) → 1 ≤ length q → ((x : ℕ) → 1 ≤ times x q → field rs 2 x ≡ w.price) → levels (orders rs fnd q) ≡ record { price = w.price; total = quantities rs q } ∷ []
      go [] o h = absurd (let z : ⊥ = omega arith in z)
      go (c ∷ q) o h = level_queue rs fnd w.price c q h

  levels_up : (ws : List Lvl) → Busy ws → Tiers rs ws → levels (orders rs fnd (ups ws)) ≡ totals rs ws
  unfolding levels
  levels_up [] b t = refl
  levels_up (w ∷ ws) b t =
      levels_apart rs fnd w.queue (ups ws) (λ x y i j e. omega (arith, t.0 x i, t.1 y j))
      ∙ rw (one_level w b.0 t.0, levels_up ws b.1 t.2)

  levels_down : (ws : List Lvl) → Busy ws → Tiers rs ws → levels (orders rs fnd (downs ws)) ≡ reverse (totals rs ws)
  unfolding levels
  levels_down [] b t = refl
  levels_down (w ∷ ws) b t =
      levels_apart rs fnd (downs ws) w.queue (λ x y i j e. omega (arith, t.0 y j, t.1 x (omega (arith, downs_times x ws))))
      ∙ rw (one_level w b.0 t.0, levels_down ws b.1 t.2) (sym (reverse-cons (total_of rs w) (totals rs ws)))

-- the levels of a side, read off storage: those of k rows from row i on
abbrev pub totals_from : List ℕ → List ℕ → ℕ → ℕ → List Level
totals_from rs lv i k = totals rs (levels_from (record_count rs) rs lv i k)

abbrev pub totals_in : List ℕ → List ℕ → ℕ → List Level
totals_in rs lv n = totals_from rs lv 0 n

-- row i, and those behind it
pub totals_step : (rs lv : List ℕ) (i n : ℕ) → i < n
    → totals_from rs lv i (n - i) ≡ record { price = price_of lv i; total = quantities rs (queue_in rs (head_of lv i)) } ∷ totals_from rs lv (i + 1) (n - (i + 1))
totals_step rs lv i n h =
    let e : n - i ≡ suc (n - (i + 1)) = omega arith in
    rw (e, add-one i)

pub totals_none : (rs lv : List ℕ) (i n : ℕ) → n ≤ i → totals_from rs lv i (n - i) ≡ []
totals_none rs lv i n h = let e : n - i ≡ 0 = omega arith in rw e

totals_length : (rs : List ℕ) (ws : List Lvl) → length (totals rs ws) ≡ length ws
totals_length rs [] = refl
totals_length rs (w ∷ ws) = ap suc (totals_length rs ws)

module _ {rs lv : List ℕ} {n : ℕ} (s : Standing rs lv n) (sd : Side) (fnd : ℕ → Bool) where
  -- they are the rules' levels of its orders
  pub levels_in_lem : levels (orders_in sd rs fnd lv n) ≡ ascending sd (totals_in rs lv n)
  levels_in_lem = go sd
    where
      go : (sd : Side) → levels (orders_in sd rs fnd lv n) ≡ ascending sd (totals_in rs lv n)
      go bid = levels_down rs fnd (levels_in rs lv n) s.busy (side_tiers s.ladder)
      go ask = levels_up rs fnd (levels_in rs lv n) s.busy (side_tiers s.ladder)

  -- in ascending order
  pub levels_ascending : ascending sd (levels (orders_in sd rs fnd lv n)) ≡ totals_in rs lv n
  levels_ascending = ap (ascending sd) levels_in_lem ∙ go sd
    where
      go : (sd : Side) → ascending sd (ascending sd (totals_in rs lv n)) ≡ totals_in rs lv n
      go bid = reverse-reverse (totals_in rs lv n)
      go ask = refl

  -- as many as there are rows
  pub levels_count : length (levels (orders_in sd rs fnd lv n)) ≡ n
  levels_count = ap length levels_in_lem ∙ (go sd ∙ (totals_length rs (levels_in rs lv n) ∙ s.ladder.count))
    where
      go : (sd : Side) → length (ascending sd (totals_in rs lv n)) ≡ length (totals_in rs lv n)
      go bid = length-reverse (totals_in rs lv n)
      go ask = refl
