-- A whole book of the rules has no bid at or above an ask; by the codes. Assumes nothing.
use Prim.Native.Nat.{ℕ, ◌≤◌}
use mathlib.Core.Bool.{Bool, false, true}
use mathlib.Core.List.{List, [], ◌∷◌}
use mathlib.Core.Path.{ap, refl, ◌≡◌}
use native.Mathlib.Omega.{arith}
use lib.Dec.{eqb}
use borrow.Author.Tests.{eqb-true, leb-false}
use Rattle.rules.specs.Rules.{Order, ask, bid, limit, within}
use Rattle.rules.specs.Whole.{Whole, one, ◌&◌}
use Rattle.records.specs.Rows.{field}
use Rattle.arena.specs.Times.{times}
use Rattle.side.specs.Orders.{codes, order_at, orders}
use Rattle.side.specs.Read.{levels_in}
use Rattle.side.proofs.Orders.{codes_times}
use Rattle.ledger.specs.Desk.{stored_book, found}
use Rattle.ledger.specs.Doors.{ApartAt}

-- what holds of all orders holds of the one at each code
all_at : (rs : List ℕ) (fnd : ℕ → Bool) (P : Order (Unit {0}) → Type 0) (l : List ℕ) (x : ℕ) → Rattle.rules.specs.Whole.All P (orders rs fnd l) → 1 ≤ times x l → P (order_at rs fnd x)
all_at rs fnd P [] x a i = absurd (let z : ⊥ = omega arith in z)
all_at rs fnd P (y ∷ l) x (p & a) i = go (eqb x y) refl (all_at rs fnd P l x a)
  where
    go : (b : Bool) → eqb x y ≡ b → (1 ≤ times x l → P (order_at rs fnd x)) → P (order_at rs fnd x)
    go true e k = rw (eqb-true x y e) p
    go false e k = k (omega (arith, ap one e))

pub apart_at : (rs bd ak se : List ℕ) (nb na : ℕ) → Whole (stored_book rs bd ak se nb na) → ApartAt rs (levels_in rs bd nb) (levels_in rs ak na)
apart_at rs bd ak se nb na h x y i j =
    let bw = levels_in rs bd nb in
    let aw = levels_in rs ak na in
    let a = all_at rs (found se rs) (λ m. Rattle.rules.specs.Whole.All (λ n. within bid (limit m.price) n.price ≡ false) (orders rs (found se rs) (codes ask aw))) (codes bid bw) x (h.apart bid) (omega (arith, codes_times bid x bw)) in
    let b = all_at rs (found se rs) (λ n. within bid (limit (field rs 2 x)) n.price ≡ false) (codes ask aw) y a j in
    leb-false (field rs 2 y) (field rs 2 x) b
