-- The best order of a side: the first of its best level's queue. Assumes nothing.
use Prim.Native.Nat.{suc, zero, ℕ, ◌-◌, ◌<◌, ◌≤◌}
use mathlib.Core.List.{List, [], ◌++◌, ◌∷◌}
use mathlib.Core.Path.{ap, sym, ◌∙◌, ◌≡◌}
use native.Mathlib.Omega.{arith}
use lib.ListN.{length}
use Rattle.rules.specs.Rules.{Side, ask, bid}
use Rattle.records.specs.Rows.{field}
use Rattle.arena.specs.Links.{head_of, link, price_of}
use Rattle.arena.specs.Ring.{Run}
use Rattle.arena.specs.Times.{times}
use Rattle.arena.proofs.Times.{one_self}
use Rattle.side.specs.Levels.{Ladder, Lvl, downs, nth, ups}
use Rattle.side.specs.Orders.{codes}
use Rattle.side.specs.Prices.{row_in_turn}
use Rattle.side.specs.Read.{levels_in}
use Rattle.ledger.specs.Desk.{Busy, LedgerIn}

-- no level of a side is empty
pub busy_at : (ws : List Lvl) (i : ℕ) → Busy ws → i < length ws → 1 ≤ length (nth ws i).queue
busy_at [] i b h = absurd (let z : ⊥ = omega arith in z)
busy_at (v ∷ ws) zero b h = b.0
busy_at (v ∷ ws) (suc i) b h = busy_at ws i b.1 (omega arith)

pub some_of : (l : List ℕ) → 1 ≤ length l → (x : ℕ) × (1 ≤ times x l)
some_of [] h = absurd (let z : ⊥ = omega arith in z)
some_of (x ∷ l) h = (x, omega (arith, one_self x))

first_of : (rs q : List ℕ) (h t : ℕ) → Run (link rs 3 h) (link rs 4 t) 0 q 0 → 1 ≤ length q → (l : List ℕ) × (q ≡ h ∷ l)
first_of rs [] h t r o = absurd (let z : ⊥ = omega arith in z)
first_of rs (x ∷ q) h t r o = (q, ap (λ (y : ℕ). y ∷ q) (sym r.0))

downs_front : (ws : List Lvl) (k x : ℕ) (q : List ℕ) → length ws ≡ suc k → (nth ws k).queue ≡ x ∷ q → (l : List ℕ) × (downs ws ≡ x ∷ l)
downs_front [] k x q h e = absurd (let z : ⊥ = omega arith in z)
downs_front (v ∷ []) zero x q h e = (q, e)
downs_front (v ∷ []) (suc k) x q h e = absurd (let z : ⊥ = omega arith in z)
downs_front (v ∷ u ∷ ws) zero x q h e = absurd (let z : ⊥ = omega arith in z)
downs_front (v ∷ u ∷ ws) (suc k) x q h e = let t = downs_front (u ∷ ws) k x q (omega arith) e in (t.0 ++ v.queue, ap (λ (l : List ℕ). l ++ v.queue) t.1)

ups_front : (ws : List Lvl) (x : ℕ) (q : List ℕ) → 1 ≤ length ws → (nth ws 0).queue ≡ x ∷ q → (l : List ℕ) × (ups ws ≡ x ∷ l)
ups_front [] x q h e = absurd (let z : ⊥ = omega arith in z)
ups_front (v ∷ ws) x q h e = (q ++ ups ws, ap (λ (l : List ℕ). l ++ ups ws) e)

-- ## One side
module _ {rs lv : List ℕ} {n : ℕ} {ws : List Lvl} (a : Ladder rs lv n ws) (b : Busy ws) where
  -- a row's queue begins with its head,
  row_front : (i : ℕ) → i < n → (q : List ℕ) × ((nth ws i).queue ≡ head_of lv i ∷ q)
  row_front i h = first_of rs (nth ws i).queue _ _ (a.level i h).ring (busy_at ws i b (omega (arith, a.count)))

  -- an order of the row's price
  pub front_price : (i : ℕ) → i < n → field rs 2 (head_of lv i) ≡ price_of lv i
  front_price i h =
      let o = row_front i h in
      (a.level i h).priced (head_of lv i) (omega (arith, ap (times (head_of lv i)) o.1, one_self (head_of lv i))) ∙ sym (a.level i h).price

  -- the best of the side is the head of the row whose turn is first
  pub front_of : (sd : Side) → 1 ≤ n → (l : List ℕ) × (codes sd ws ≡ head_of lv (row_in_turn sd n n) ∷ l)
  front_of bid h = let o = row_front (n - 1) (omega arith) in downs_front ws (n - 1) _ o.0 (omega (arith, a.count)) o.1
  front_of ask h =
      let e : n - n ≡ 0 = omega arith in
      let o = row_front 0 h in
      rw e (ups_front ws _ o.0 (omega (arith, a.count)) o.1)

-- ## Both sides
module _ {rs bd ak se : List ℕ} {r f nb na : ℕ} (w : LedgerIn rs bd ak se r f nb na) where
  pub front_bid : 1 ≤ nb → (l : List ℕ) × (codes bid (levels_in rs bd nb) ≡ head_of bd (nb - 1) ∷ l)
  front_bid h = front_of w.stored.mine w.busy bid h

  pub front_ask : 1 ≤ na → (l : List ℕ) × (codes ask (levels_in rs ak na) ≡ head_of ak 0 ∷ l)
  front_ask h = let e : na - na ≡ 0 = omega arith in rw e at (front_of w.stored.theirs w.busy_two ask h)
