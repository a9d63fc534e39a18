-- What a desk (the doors' invariant) says of the rules' book that it stands for: its orders stand in their turns, its counts are the book's,
-- and a price of its rows is an occupied one. Assumes nothing.
use Prim.Native.Nat.{ℕ, ◌*◌, ◌+◌, ◌<◌, ◌≤◌}
use mathlib.Core.Bool.{Bool, false}
use mathlib.Core.List.{List}
use mathlib.Core.Logic.{◌≢◌}
use mathlib.Core.Option.{some}
use mathlib.Core.Path.{ap, sym, ◌∙◌, ◌≡◌}
use native.Mathlib.Omega.{arith}
use lib.Dec.{leb}
use lib.ListN.{length}
use borrow.Author.Tests.{leb-false}
use Rattle.rules.specs.Rules.{Book, Side, Size, ask, bid, crowded, full, levels, occupied, own}
use Rattle.rules.specs.Whole.{Once, Sorted}
use Rattle.records.specs.Rows.{field, record_count}
use Rattle.search.specs.Seek.{entry_for}
use Rattle.arena.specs.Links.{price_of}
use Rattle.arena.specs.Times.{times}
use Rattle.side.specs.Doors.{RoomFor}
use Rattle.side.specs.Levels.{Ladder, Lvl, nth, ups}
use Rattle.side.specs.Orders.{codes, orders}
use Rattle.side.specs.Read.{levels_in}
use Rattle.side.proofs.Leaving.{stands}
use Rattle.side.proofs.Levels.{nth_times}
use Rattle.side.proofs.Orders.{codes_times, side_tiers}
use Rattle.side.proofs.Stored.{at_most_one}
use Rattle.ledger.specs.Stock.{Stock}
use Rattle.ledger.specs.Desk.{Busy, LedgerIn, Tidy, found, read_book, stored_book}
use Rattle.ledger.specs.Doors.{RoomOn}
use Rattle.ledger.proofs.Best.{busy_at, some_of}
use Rattle.whole.specs.Whole.{Lengths}
use Rattle.whole.proofs.Orders.{codes_length, levels_side, occupied_no, orders_length, seen_most, sorted_side}

-- how many rows a side has
abbrev pub count_on : Side → ℕ → ℕ → ℕ
count_on bid nb na = nb
count_on ask nb na = na

-- ## One side

module _ {rs lv : List ℕ} {n : ℕ} {ws : List Lvl} (a : Ladder rs lv n ws) where
  -- each row's price is that of an order there
  pub row_order : Busy ws → (i : ℕ) → i < n → (x : ℕ) × (1 ≤ times x (ups ws)) × (field rs 2 x ≡ price_of lv i)
  row_order b i h =
      let k : i < length ws = omega (arith, a.count) in
      let x = some_of (nth ws i).queue (busy_at ws i b k) in
      (x.0, omega (arith, x.1, nth_times x.0 ws i k), (a.level i h).priced x.0 x.1 ∙ sym (a.level i h).price)

  -- and each order's that of a row
  pub order_row : (x : ℕ) → 1 ≤ times x (ups ws) → (i : ℕ) × (i < n) × (price_of lv i ≡ field rs 2 x)
  order_row x h =
      let s = stands ws x h in
      let k : s.at < n = omega (arith, s.below, a.count) in
      (s.at, k, (a.level s.at k).price ∙ sym ((a.level s.at k).priced x s.inside))

  module _ (fnd : ℕ → Bool) (s : Side) where
    pub new_price : (p : ℕ) → ((i : ℕ) → i < n → price_of lv i ≢ p) → occupied p (orders rs fnd (codes s ws)) ≡ false
    new_price p h = occupied_no rs fnd p (codes s ws) (λ x i e.
        let r = order_row x (omega (arith, codes_times s x ws)) in h r.0 r.1 (r.2 ∙ e))

    -- as many levels as rows
    pub rows_levels : Busy ws → length (levels (orders rs fnd (codes s ws))) ≡ n
    rows_levels b = levels_side rs fnd s ws (side_tiers a) b ∙ a.count

    -- a price that is not too many has room
    pub not_crowded : (z : Size) (p : ℕ) → Busy ws → length lv ≡ z.prices * 3 → crowded z (orders rs fnd (codes s ws)) (some p) ≡ false → RoomFor lv n p
    not_crowded z p b l e h =
        let o : occupied p (orders rs fnd (codes s ws)) ≡ false = new_price p h in
        let k : leb z.prices (length (levels (orders rs fnd (codes s ws)))) ≡ false = rw o at e in
        omega (arith, leb-false z.prices (length (levels (orders rs fnd (codes s ws)))) k, rows_levels b)

-- ## The whole desk

module _ {rs bd ak se : List ℕ} {r f nb na : ℕ} (w : LedgerIn rs bd ak se r f nb na) where
  abbrev kept : Book (Unit {0})
  kept = stored_book rs bd ak se nb na

  -- the counts are the book's
  pub desk_resting : r ≡ length kept.bids + length kept.asks
  desk_resting =
      omega (
        arith,
        w.stored.rest,
        orders_length rs (found se rs) (codes bid (levels_in rs bd nb)),
        orders_length rs (found se rs) (codes ask (levels_in rs ak na)),
        codes_length bid (levels_in rs bd nb),
        codes_length ask (levels_in rs ak na),
      )

  pub desk_prices : (s : Side) → length (levels (own s kept)) ≡ count_on s nb na
  desk_prices bid = rows_levels w.stored.mine (found se rs) bid w.busy
  desk_prices ask = rows_levels w.stored.theirs (found se rs) ask w.busy_two

  -- the book is full exactly where every place is taken
  module _ (z : Size) (p : ℕ) (l : Lengths z rs bd ak se) where
    desk_full : full z kept (some p) ≡ leb (record_count rs) r
    desk_full = let e : z.orders ≡ record_count rs = omega (arith, l.records) in rw e (ap (leb (record_count rs)) (sym desk_resting))

    pub open_place : full z kept (some p) ≡ false → r < record_count rs
    open_place e = leb-false (record_count rs) r (sym desk_full ∙ e)

  -- the orders stand in their turns, and at most one is found under an id
  pub desk_sorted : (s : Side) → Sorted s (own s kept)
  desk_sorted bid = sorted_side rs (found se rs) bid (levels_in rs bd nb) (side_tiers w.stored.mine)
  desk_sorted ask = sorted_side rs (found se rs) ask (levels_in rs ak na) (side_tiers w.stored.theirs)

  pub desk_once : Once kept
  desk_once i =
      let c = entry_for se rs i in
      omega (
        arith,
        seen_most rs se i (codes bid (levels_in rs bd nb)),
        seen_most rs se i (codes ask (levels_in rs ak na)),
        codes_times bid c (levels_in rs bd nb),
        codes_times ask c (levels_in rs ak na),
        at_most_one w.stored c,
      )

-- what refusal 5 lets pass has room
pub desk_room : {k : Stock} (w : Tidy k) (z : Size) (s : Side) (p : ℕ) → Lengths z k.records k.bids k.asks k.search
    → crowded z (own s (read_book k)) (some p) ≡ false → RoomOn s k p
desk_room {k} w z bid p l = not_crowded w.stored.mine (found k.search k.records) bid z p w.busy l.bids
desk_room {k} w z ask p l = not_crowded w.stored.theirs (found k.search k.records) ask z p w.busy_two l.asks
