-- What a sound stock gives the steps of an order. Assumes nothing.
use Prim.Native.Nat.{ℕ, ◌≤◌, ◌<◌}
use mathlib.Core.Path.{◌≡◌, refl, sym, ◌∙◌, subst}
use mathlib.Core.Bool.{Bool, false, not, and-false, and-true}
use mathlib.Core.List.{List, []}
use borrow.Author.Tests.{le-leb, lt-leb}
use Rattle.side.specs.Orders.{orders_in}
use Rattle.rules.specs.Rules as rule
use Rattle.rules.specs.Whole.{WholeBook}
use Rattle.rules.proofs.Bounds.{whole_book_after}
use Rattle.models.specs.declared.Id.{Id}
use Rattle.models.specs.declared.Price.{Price}
use Rattle.stats.specs.declared.Statistics.{Statistics}
use Rattle.models.specs.declared.OrderEvent.TheVariants.{Canceled}
use Rattle.models.specs.Readings.{side_of}
use Rattle.stats.specs.Statistics.{statistics_of}
use Rattle.rows.specs.Rows.{fill_row}
use Rattle.rows.proofs.Places.{written_none, fill_faithful}
use Rattle.side.proofs.Stored.{swapped}
use Rattle.ledger.specs.declared.OrderBook.{OrderBook}
use Rattle.ledger.specs.declared.StoredBook.{StoredBook}
use Rattle.ledger.specs.Stock.{Relent, Stock, stock_of}
use Rattle.ledger.specs.Desk.{LeavesAs, Tidy, found, read_book}
use Rattle.ledger.specs.Doors.{ApartIn}
use Rattle.ledger.proofs.Apart.{apart_at}
use Rattle.depth.specs.Sides.{Standing}
use Rattle.depth.proofs.Levels.{levels_count}
use Rattle.models.specs.declared.Side.{Side}
use Rattle.models.specs.declared.Side.TheVariants.{Bid, Ask}
use Rattle.survey.proofs.Able.{can_match}
use Rattle.fulfil.specs.Fulfils.{no_row}
use Rattle.fulfil.proofs.Fulfilling.{lengths_last}
use Rattle.std.specs.Prelude.{Option, Some, Ok}
use Rattle.desk.specs.Stock.{Sound, read_desk}
use Rattle.desk.specs.Performs.{Performs, carried}
use Rattle.desk.specs.Steps.{Matchable, Crowds, CrowdsOn, Held, Withdraws}

pub sound_matchable : {z : rule.Size} {k : Stock} → Sound z k → Matchable k.book k.records k.bids k.asks
sound_matchable {z} {k} w =
    record {
      bids = can_match w.tidy.stored rule.bid (found k.search k.records) (w.orderly.orderly.positive rule.bid);
      asks = can_match (swapped w.tidy.stored) rule.ask (found k.search k.records) (w.orderly.orderly.positive rule.ask);
    }

-- ## a price without a row

module _ (most p : ℕ) {rs lv : List ℕ} {n : ℕ} (sd : rule.Side) (fnd : ℕ → Bool) (s : Standing rs lv n) where
  pub row_left : n < most → false ≡ no_row most p (orders_in sd rs fnd lv n)
  row_left h = sym (rw (levels_count s sd fnd, lt-leb most n h) (and-false (not (rule.occupied p (orders_in sd rs fnd lv n)))))

  pub row_none : {r : Bool} → most ≤ n → r ≡ not (rule.occupied p (orders_in sd rs fnd lv n)) → r ≡ no_row most p (orders_in sd rs fnd lv n)
  row_none h e = e ∙ sym (rw (levels_count s sd fnd, le-leb most n h) (and-true (not (rule.occupied p (orders_in sd rs fnd lv n)))))

same : {at : Option Price} {q : Price} → at ≡ Some q → (p : Price) → at ≡ Some p → q ≡ p
same {at} {q} e p i = let h : Some q ≡ Some p = sym e ∙ i in cc

-- and on the side sd, of which k says which it is, where a remainder would rest at q
module _ (most : ℕ) (b : OrderBook) (bd ak : List ℕ) {at : Option Price} {q : Price} (e : at ≡ Some q) (sd : Side) {r : Bool} where
  pub crowds_bid : sd ≡ Bid → Crowds most q.0 bd b.bids r → CrowdsOn most (side_of sd) at b bd ak r
  crowds_bid k h p i rs se x y = rw (k, ← same e p i) (h rs rule.bid (found se rs) x)

  pub crowds_ask : sd ≡ Ask → Crowds most q.0 ak b.asks r → CrowdsOn most (side_of sd) at b bd ak r
  crowds_ask k h p i rs se x y = rw (k, ← same e p i) (h rs rule.ask (found se rs) y)

-- ## a cancel

pub cancel_asks : {k : Stock} → Held k → Tidy k × ApartIn k
cancel_asks {k} h =
    (h.sound.tidy, apart_at k.records k.bids k.asks k.search k.book.bids k.book.asks h.sound.orderly.orderly)

module _ (id : Id) {a b : StoredBook} (r : Relent a b) (l : LeavesAs (rule.only (rule.stays id.0) (read_book (stock_of a))) (stock_of b)) where
  abbrev k : Stock
  k = stock_of a

  abbrev k' : Stock
  k' = stock_of b

  pub withdrawn : Withdraws id k k'
  unfolding rule.perform
  withdrawn = record { performs = performs }
    where
      performs : (z : rule.Size) (st : Statistics) (out : List ℕ) → Sound z k
          → Performs (Sound z) z (rule.cancel id.0) k st out (Ok (Canceled id)) k' st out
      performs z st out w =
          let whole : WholeBook z (read_book k') =
          subst (WholeBook z) (sym l.book) (whole_book_after z (read_desk k st) (rule.cancel id.0) w.orderly) in
          carried (rule.canceled id.0) [] refl refl (λ i. record { book = l.book i; stats = statistics_of st })
          (record { lengths = lengths_last r z w.lengths; tidy = l.desk; orderly = whole }) (sym (written_none fill_row fill_faithful.long out 0))
