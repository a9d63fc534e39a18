-- The best orders of a side leave, one by one. Assumes nothing.
use Prim.Native.Nat.{suc, zero, ℕ, ◌+◌, ◌≤◌}
use mathlib.Core.Bool.{Bool}
use mathlib.Core.List.{List, ◌∷◌}
use mathlib.Core.Path.{ap, refl, subst, ◌∙◌, ◌≡◌}
use native.Mathlib.Omega.{arith}
use lib.ListN.{drop, length}
use lib.Seq.{drop-drop}
use borrow.Author.Tests.{eq-eqb}
use Rattle.rules.specs.Rules.{Book, Side, ask, bid, own}
use Rattle.arena.specs.Ring.{cut}
use Rattle.arena.specs.Times.{times}
use Rattle.arena.proofs.Times.{one_self}
use Rattle.side.specs.Orders.{codes, orders}
use Rattle.side.specs.Read.{levels_in}
use Rattle.side.proofs.Orders.{codes_times}
use Rattle.ledger.specs.Stock.{Stock}
use Rattle.ledger.specs.Desk.{Leaves, LeavesAs, Tidy, found, read_book}
use Rattle.ledger.specs.Doors.{Fronted, RestsOn, dropped, front_of}
use Rattle.ledger.proofs.Best.{front_ask, front_bid}
use Rattle.trade.specs.Trade.{swept}

pub leaves_as : {k k' : Book (Unit {0})} {rs bd ak se : List ℕ} {r f nb na : ℕ} → k ≡ k' → Leaves k rs bd ak se r f nb na → Leaves k' rs bd ak se r f nb na
leaves_as e l = record { desk = l.desk; book = l.book ∙ e }

-- a side that has an order has a row
some_row : (sd : Side) (rs lv : List ℕ) (fnd : ℕ → Bool) (n : ℕ) → 1 ≤ length (orders rs fnd (codes sd (levels_in rs lv n))) → 1 ≤ n
some_row bid rs lv fnd zero h = absurd (let z : ⊥ = omega arith in z)
some_row ask rs lv fnd zero h = absurd (let z : ⊥ = omega arith in z)
some_row sd rs lv fnd (suc n) h = omega arith

-- the first one leaves
first_goes : (rs : List ℕ) (fnd : ℕ → Bool) (c : ℕ) (cs l : List ℕ) → cs ≡ c ∷ l → orders rs fnd (cut c cs) ≡ drop 1 (orders rs fnd cs)
first_goes rs fnd c cs l e = rw (e, eq-eqb c c refl)

first_there : (c : ℕ) (cs l : List ℕ) → cs ≡ c ∷ l → 1 ≤ times c cs
first_there c cs l e = omega (arith, ap (times c) e, one_self c)

-- the front that is read off v, which is k as it stands
pub seen_front : {v k : Stock} → v ≡ k → (sd : Side) {c : ℕ} → c ≡ front_of sd v.book v.bids v.asks → c ≡ front_of sd k.book k.bids k.asks
seen_front e sd {c} f = subst (λ (x : Stock). c ≡ front_of sd x.book x.bids x.asks) e f

-- the best order of side sd: its row, that it rests there, and the book once it has left
module _ {k : Stock} (w : Tidy k) where
  pub front_row : (sd : Side) → 1 ≤ length (own sd (read_book k)) → Fronted sd k.book k.bids k.asks
  front_row bid h = (some_row bid k.records k.bids (found k.search k.records) k.book.bids h, w.stored.mine.room)
  front_row ask h = (some_row ask k.records k.asks (found k.search k.records) k.book.asks h, w.stored.theirs.room)

  module _ {c : ℕ} where
    pub front_there : (sd : Side) → 1 ≤ length (own sd (read_book k)) → c ≡ front_of sd k.book k.bids k.asks → RestsOn sd c k
    front_there bid h e =
        let g = front_bid w (front_row bid h).0 in
        rw e (omega (arith, first_there _ _ g.0 g.1, codes_times bid (front_of bid k.book k.bids k.asks) (levels_in k.records k.bids k.book.bids)))
    front_there ask h e = let g = front_ask w (front_row ask h).0 in rw e (first_there _ _ g.0 g.1)

    pub front_goes : (sd : Side) → 1 ≤ length (own sd (read_book k)) → c ≡ front_of sd k.book k.bids k.asks → dropped sd c k ≡ swept sd 1 (read_book k)
    front_goes bid h e =
        let g = front_bid w (front_row bid h).0 in
        rw e (λ j. record { bids = first_goes k.records (found k.search k.records) _ _ g.0 g.1 j; asks = (read_book k).asks })
    front_goes ask h e =
        let g = front_ask w (front_row ask h).0 in
        rw e (λ j. record { bids = (read_book k).bids; asks = first_goes k.records (found k.search k.records) _ _ g.0 g.1 j })

-- ## One after the other

-- one more, after the first n
swept_next : (sd : Side) (n : ℕ) (k : Book (Unit {0})) → swept sd 1 (swept sd n k) ≡ swept sd (n + 1) k
swept_next bid n k = λ j. record { bids = drop-drop 1 n k.bids j; asks = k.asks }
swept_next ask n k = λ j. record { bids = k.bids; asks = drop-drop 1 n k.asks j }

-- b is the book before, n have left, and one more does
pub sweep_step : (sd : Side) (k k' : Stock) (b : Book (Unit {0})) (n : ℕ) → LeavesAs (swept sd n b) k → LeavesAs (swept sd 1 (read_book k)) k'
    → LeavesAs (swept sd (n + 1) b) k'
sweep_step sd k k' b n s l = record { desk = l.desk; book = l.book ∙ (ap (swept sd 1) s.book ∙ swept_next sd n b) }
