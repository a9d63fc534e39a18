-- An order trades, on the side that it meets, whichever that is: what its two steps ask, and what they come to. Assumes nothing.
use Prim.Native.Nat.{ℕ, ◌≤◌}
use mathlib.Core.List.{List}
use mathlib.Core.Path.{ap, refl, sym, ◌∙◌, ◌≡◌}
use native.Mathlib.Omega.{arith}
use lib.Dec.{eqb}
use lib.ListN.{drop, length}
use Rattle.rules.specs.Rules.{Book, Order, Side, ask, bid, book, last_price, last_quantity, opposite, outcome, own}
use Rattle.rules.specs.Whole.{Whole}
use Rattle.rules.proofs.Basics.{opposite_twice, own_book}
use Rattle.records.specs.Rows.{field, record_count}
use Rattle.search.specs.Seek.{entry_for}
use Rattle.models.specs.declared.Side as models
use Rattle.models.specs.Readings.{side_of}
use Rattle.rows.specs.Rows.{fill_row, places, written}
use Rattle.side.specs.Levels.{Lvl}
use Rattle.side.specs.Orders.{codes, orders}
use Rattle.side.specs.Read.{free_in, levels_in}
use Rattle.side.specs.Stored.{Stored}
use Rattle.side.proofs.Orders.{orders_frame}
use Rattle.ledger.specs.declared.OrderBook.{OrderBook}
use Rattle.ledger.specs.Stock.{Stock, stock}
use Rattle.ledger.specs.Desk.{Ledger, LedgerIn, Leaves, LeavesAs, Tidy, found, read_book, stored_book}
use Rattle.ledger.proofs.Desk.{leaves}
use Rattle.ledger.proofs.Frame.{all_swapped, good_frame, look_frame}
use Rattle.survey.specs.declared.Taker.{Taker}
use Rattle.survey.specs.Surveyed.{wholes}
use Rattle.survey.specs.Taker.{met_side, taker_of}
use Rattle.survey.proofs.Able.{can_match}
use Rattle.survey.proofs.Alike.{fills_alike}
use Rattle.matching.specs.declared.Last.{Last}
use Rattle.matching.specs.Carried.{CanCarry, Carries, fills_made}
use Rattle.matching.specs.Thinned.{thinned}
use Rattle.matching.proofs.Kept.{kept_makers, kept_others, kept_stored, thinned_length, used_are}
use Rattle.trade.specs.Trade.{CanTrade, Trades, after_trade, comes, swept}
use Rattle.trade.proofs.Leaving.{leaves_as}

-- ## The ledger keeps

module _ {n : ℕ} {rs lv ov se : List ℕ} {s t f r : ℕ} {ws vs : List Lvl} {fr : List ℕ} (a : Ledger n rs lv ov se s t f r ws vs fr)
    {u : Taker} {out rs' out' : List ℕ} {l : Last} (c : Carries u rs lv s out rs' out' l) where
  still : Stored n rs' lv ov s t f r ws vs fr
  still = kept_stored a.stored c

  named : (x : ℕ) → field rs' 0 x ≡ field rs 0 x
  named x = c.columns 0 x (omega arith) (omega arith)

  same_look : (x : ℕ) → entry_for se rs' x ≡ entry_for se rs x
  same_look x = look_frame a rs' still.rows (λ y j. named y) x

  same_found : (x : ℕ) → found se rs' x ≡ found se rs x
  same_found x = ap (λ (k : ℕ). eqb k x) (ap (entry_for se rs') (named x) ∙ same_look (field rs 0 x))

  kept_ledger : Ledger n rs' lv ov se s t f r ws vs fr
  kept_ledger = record {
    stored = still;
    busy = a.busy;
    busy_two = a.busy_two;
    good = good_frame a rs' still.rows (λ y j. named y);
    room = a.room;
    held = λ x h. rw (same_look x) (a.held x (λ z. h (same_look x ∙ z)));
  }

  found_orders : (cs : List ℕ) → orders rs' (found se rs') cs ≡ orders rs' (found se rs) cs
  found_orders cs = orders_frame rs' rs' (found se rs) (found se rs') cs (λ g x h i. refl) (λ x i. same_found x)

  kept_own : (room : ℕ) → orders rs' (found se rs') (codes (met_side u) ws) ≡ thinned (taker_of room u) (orders rs (found se rs) (codes (met_side u) ws))
  kept_own room = found_orders (codes (met_side u) ws) ∙ kept_makers a.stored c room (found se rs)

  kept_other : (sd : Side) → orders rs' (found se rs') (codes sd vs) ≡ orders rs (found se rs) (codes sd vs)
  kept_other sd = found_orders (codes sd vs) ∙ kept_others a.stored c sd (found se rs)

-- ## From a side

-- of what belongs to the bids and to the asks, that of side sd
abbrev of {ℓ} : {X : Type ℓ} → Side → X → X → X
of bid x y = x
of ask x y = y

-- the desk as a ledger whose first side is sd, and back
abbrev From : Side → List ℕ → List ℕ → List ℕ → List ℕ → List ℕ → ℕ → ℕ → ℕ → ℕ → Type 0
From sd rs js bd ak se r f nb na =
    Ledger (record_count rs) js (of sd bd ak) (of (opposite sd) bd ak) se (of sd nb na) (of (opposite sd) nb na) f r
    (levels_in rs (of sd bd ak) (of sd nb na)) (levels_in rs (of (opposite sd) bd ak) (of (opposite sd) nb na)) (free_in rs f)

view : {rs bd ak se : List ℕ} {r f nb na : ℕ} (sd : Side) → LedgerIn rs bd ak se r f nb na → From sd rs rs bd ak se r f nb na
view bid w = w
view ask w = all_swapped w

own_is : (sd : Side) (rs bd ak se : List ℕ) (nb na : ℕ) → own sd (stored_book rs bd ak se nb na) ≡ orders rs (found se rs) (codes sd (levels_in rs (of sd bd ak) (of sd nb na)))
own_is bid rs bd ak se nb na = refl
own_is ask rs bd ak se nb na = refl

back : (sd : Side) (rs js bd ak se : List ℕ) (r f nb na : ℕ) (l m : List (Order (Unit {0}))) → From sd rs js bd ak se r f nb na
    → orders js (found se js) (codes sd (levels_in rs (of sd bd ak) (of sd nb na))) ≡ l
    → orders js (found se js) (codes (opposite sd) (levels_in rs (of (opposite sd) bd ak) (of (opposite sd) nb na))) ≡ m
    → Leaves (book sd l m) js bd ak se r f nb na
back bid rs js bd ak se r f nb na l m a d e = leaves a (λ j. record { bids = d j; asks = e j })
back ask rs js bd ak se r f nb na l m a d e = leaves (all_swapped a) (λ j. record { bids = e j; asks = d j })

swept_book : (sd : Side) (n : ℕ) (l m : List (Order (Unit {0}))) → swept sd n (book sd l m) ≡ book sd (drop n l) m
swept_book bid n l m = refl
swept_book ask n l m = refl

-- ## The two steps

module _ {rs bd ak se : List ℕ} {r f nb na : ℕ} (w : LedgerIn rs bd ak se r f nb na) (u : Taker) where
  abbrev k : Book (Unit {0})
  k = stored_book rs bd ak se nb na

  abbrev sd : Side
  sd = met_side u

  module _ (h : Whole k) where
    pub can_carry : {out : List ℕ} → ((room : ℕ) → length (comes room u k).fills ≤ places fill_row out) → CanCarry u rs (of sd bd ak) (of sd nb na) out
    can_carry p = record {
      able = can_match (view sd w).stored sd (found se rs) (rw (own_is sd rs bd ak se nb na) at (h.positive sd));
      room = λ room fnd. rw (fills_alike u rs room room fnd (found se rs) (codes sd (levels_in rs (of sd bd ak) (of sd nb na)))) (rw (own_is sd rs bd ak se nb na) at (p room));
    }

    module _ {out rs' out' : List ℕ} {l : Last} (c : Carries u rs (of sd bd ak) (of sd nb na) out rs' out' l) where
      pub carried : (room : ℕ) → Leaves (book sd (thinned (taker_of room u) (own sd k)) (own (opposite sd) k)) rs' bd ak se r f nb na
      carried room =
          rw (own_is sd rs bd ak se nb na, own_is (opposite sd) rs bd ak se nb na)
          (back sd rs rs' bd ak se r f nb na _ _ (kept_ledger (view sd w) c) (kept_own (view sd w) c room) (kept_other (view sd w) c (opposite sd)))

      -- so many makers are there to leave
      pub can_sweep : {n : ℕ} → ((room : ℕ) → n ≡ wholes (comes room u k).fills) → n ≤ length (own sd (stored_book rs' bd ak se nb na))
      can_sweep {n} e =
          let t = taker_of 0 u in
          rw ((carried 0).book, own_book sd (thinned t (own sd k)) (own (opposite sd) k), thinned_length t t.quantity (own sd k), e 0)
          (used_are t (own sd k) (h.sorted sd) (h.positive sd)).1

      -- and once they have left
      pub swept_leaves : {n r' f' nb' na' : ℕ} {rs'' bd' ak' se' : List ℕ} → ((room : ℕ) → n ≡ wholes (comes room u k).fills)
          → Leaves (swept sd n (stored_book rs' bd ak se nb na)) rs'' bd' ak' se' r' f' nb' na' → (room : ℕ) → Leaves (after_trade room u k) rs'' bd' ak' se' r' f' nb' na'
      swept_leaves {n} e m room =
          let t = taker_of room u in
          leaves_as
          (ap (swept sd n) (carried room).book
          ∙ (swept_book sd n (thinned t (own sd k)) (own (opposite sd) k)
          ∙ (ap (λ (x : ℕ). book sd (drop x (thinned t (own sd k))) (own (opposite sd) k)) (e room)
          ∙ (ap (λ (x : List (Order (Unit {0}))). book sd x (own (opposite sd) k)) (used_are t (own sd k) (h.sorted sd) (h.positive sd)).0
          ∙ ap (λ (x : Side). book sd (comes room u k).left (own x k)) (opposite_twice (side_of u.side)))))) m

-- ## As the code asks it, where x is the order's side

met_is : (u : Taker) {x : models.Side} → u.side ≡ x → met_side u ≡ opposite (side_of x)
met_is u e = ap (λ (y : models.Side). opposite (side_of y)) e

module _ {u : Taker} {n : ℕ} {rs bd ak se out : List ℕ} {b : OrderBook} (m : CanTrade u n (stock b rs bd ak se) out) {x : models.Side} (e : u.side ≡ x) where
  pub trade_carry : CanCarry u rs (of (opposite (side_of x)) bd ak) (of (opposite (side_of x)) b.bids b.asks) out
  trade_carry = rw (met_is u e) at (can_carry m.tidy u m.whole {out = out} m.room)

  module _ {rs' out' : List ℕ} {l : Last} (c : Carries u rs (of (opposite (side_of x)) bd ak) (of (opposite (side_of x)) b.bids b.asks) out rs' out' l) where
    there : Carries u rs (of (met_side u) bd ak) (of (met_side u) b.bids b.asks) out rs' out' l
    there = rw (met_is u e) c

    pub trade_sweep : Tidy (stock b rs' bd ak se) × (n ≤ length (own (opposite (side_of x)) (read_book (stock b rs' bd ak se))))
    trade_sweep = ((carried m.tidy u m.whole there 0).desk, rw (met_is u e) at (can_sweep m.tidy u m.whole there m.used))

    fills_are : (room : ℕ) → fills_made u rs (of (met_side u) bd ak) (of (met_side u) b.bids b.asks) room (found se rs) ≡ (comes room u (read_book (stock b rs bd ak se))).fills
    fills_are room = ap (λ (x : List (Order (Unit {0}))). (outcome (taker_of room u) x).fills) (sym (own_is (met_side u) rs bd ak se b.bids b.asks))

    pub trades : {k' : Stock} → LeavesAs (swept (opposite (side_of x)) n (read_book (stock b rs' bd ak se))) k' → Trades u (read_book (stock b rs bd ak se)) out k' out' l
    trades v = record {
      book = swept_leaves m.tidy u m.whole there m.used (rw (met_is u e) v);
      fills = λ room. there.fills room (found se rs) ∙ ap (written fill_row out 0) (fills_are room);
      price = λ room. there.price room (found se rs) ∙ ap last_price (fills_are room);
      quantity = λ room. there.quantity room (found se rs) ∙ ap last_quantity (fills_are room);
    }
