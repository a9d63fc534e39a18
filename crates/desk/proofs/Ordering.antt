-- An order refused, or accepted and carried out, as the rules say of it. Assumes nothing.
use Prim.Native.Nat.{ℕ, ◌+◌, ◌≤◌}
use mathlib.Core.Path.{◌≡◌, refl, sym, ap, ◌∙◌, subst}
use mathlib.Core.Bool.{Bool}
use mathlib.Core.List.{List}
use mathlib.Core.Option.{none, some}
use lib.Dec.{leb}
use lib.ListN.{length}
use Rattle.std.specs.Prelude.{Option, Some, Result, Ok, Err}
use Rattle.rules.specs.Rules as rule
use Rattle.rules.specs.Rules.{carried, opposite, outcome, own, perform, refusal}
use Rattle.rules.specs.Whole.{WholeBook}
use Rattle.rules.proofs.Bounds.{whole_book_after}
use Rattle.models.specs.declared.OrderEvent.{OrderEvent}
use Rattle.models.specs.declared.Price.{Price}
use Rattle.models.specs.declared.Refusal.{Refusal}
use Rattle.models.specs.Readings.{event_of, refusal_number, side_of}
use Rattle.stats.specs.declared.Statistics.{Statistics}
use Rattle.stats.specs.Statistics.{refusal_in}
use Rattle.rows.specs.Rows.{fill_row, places}
use Rattle.side.specs.Prices.{Rising}
use Rattle.ledger.specs.declared.StoredBook.{StoredBook}
use Rattle.ledger.specs.Stock.{Relent, Stock, stock_of}
use Rattle.ledger.specs.Desk.{read_book}
use Rattle.whole.proofs.Desk.{desk_resting}
use Rattle.depth.proofs.Desk.{standing_bids, standing_asks}
use Rattle.depth.proofs.Sides.{rising}
use Rattle.survey.specs.declared.Taker.{Taker}
use Rattle.survey.specs.declared.Outlook.{Outlook}
use Rattle.survey.specs.Surveyed.{surveyed}
use Rattle.survey.specs.Taker.{taker_of}
use Rattle.order.specs.Decided.{remains, decided}
use Rattle.order.proofs.Judging.{left_within, refusal_is}
use Rattle.fulfil.specs.Fulfils.{Foretells, no_row, Fulfils}
use Rattle.fulfil.proofs.Fulfilling.{lengths_last}
use Rattle.desk.specs.Stock.{Sound, read_desk}
use Rattle.desk.specs.Performs as perf
use Rattle.desk.specs.Performs.{Performs}
use Rattle.desk.specs.Steps.{CrowdsOn, Matchable}
use Rattle.desk.proofs.Asking.{sound_matchable}

performs_refused : (z : rule.Size) (d : rule.Desk (Unit {0})) (t : rule.Taker (Unit {0})) (n : ℕ) → refusal z d t ≡ some n
    → perform z d (rule.order t) ≡ record { desk = d; answer = rule.Answer.refused n }
unfolding perform
performs_refused z d t n e = rw e

performs_carried : (z : rule.Size) (d : rule.Desk (Unit {0})) (t : rule.Taker (Unit {0})) → refusal z d t ≡ none → perform z d (rule.order t) ≡ carried d t
unfolding perform
performs_carried z d t e = rw e

-- ## What is seen of a sound stock k in v, which is k as it stands

module _ {z : rule.Size} {v k : Stock} (e : v ≡ k) (w : Sound z k) where
  pub view_matchable : Matchable v.book v.records v.bids v.asks
  view_matchable = subst (λ (x : Stock). Matchable x.book x.records x.bids x.asks) (sym e) (sound_matchable w)

  pub view_rising : Rising v.bids v.book.bids × Rising v.asks v.book.asks
  view_rising =
      subst (λ (x : Stock). Rising x.bids x.book.bids × Rising x.asks x.book.asks) (sym e)
      (rising (standing_bids w.tidy), rising (standing_asks w.tidy))

  module _ (t : Taker) (s : Outlook) (h : Foretells t v.book v.records v.bids v.asks s) where
    foretold : Foretells t k.book k.records k.bids k.asks s
    foretold = subst (λ (x : Stock). Foretells t x.book x.records x.bids x.asks s) e h

    -- no more is left than was wanted
    pub view_left : s.left.0 ≤ t.qty.0
    view_left =
        subst (λ (x : Outlook). x.left.0 ≤ t.qty.0) (sym (foretold 0 k.search))
        (left_within 0 t (own (opposite (side_of t.side)) (read_book k)))

    -- what is found out before the order is decided on: the price at which a remainder would rest, whether all places are taken, and whether that price
    -- is without a row
    module _ (st : Statistics) (at : Option Price) (ea : at ≡ remains t.limit s.left.0) (f : Bool) (ef : f ≡ leb z.orders v.book.resting)
        (c : Bool) (ec : CrowdsOn z.prices (side_of t.side) at v.book v.bids v.asks c) where
      full_is : f ≡ leb z.orders k.book.resting
      full_is = ef ∙ ap (λ (x : Stock). leb z.orders x.book.resting) e

      crowded_is : (p : Price) → at ≡ Some p → c ≡ no_row z.prices p.0 (own (side_of t.side) (read_book k))
      crowded_is p i =
          subst (λ (x : Stock). CrowdsOn z.prices (side_of t.side) at x.book x.bids x.asks c) e ec p i k.records k.search
          (standing_bids w.tidy) (standing_asks w.tidy)

      -- the rules' refusal is what is decided from the outlook
      judged : (room : ℕ) → refusal z (read_desk k st) (taker_of room t) ≡ decided room t s st at f c
      judged room =
          let told : s ≡ surveyed (outcome (taker_of room t) (own (opposite (side_of t.side)) (read_book k))) = foretold room k.search in
          let fl : Bool = leb z.orders (length (read_book k).bids + length (read_book k).asks) in
          refusal_is z room t (read_book k) st c (λ p i. crowded_is p (ea ∙ (ap (λ (x : Outlook). remains t.limit x.left.0) told ∙ i)))
          ∙ (ap (λ (x : Outlook). decided room t x st (remains t.limit x.left.0) fl c) (sym told)
          ∙ (ap (λ (m : ℕ). decided room t s st (remains t.limit s.left.0) (leb z.orders m) c) (sym (desk_resting w.tidy))
          ∙ (λ i. decided room t s st ((sym ea) i) ((sym full_is) i) c)))

      module _ (out : List ℕ) (q : ℕ) (eq : q ≡ places fill_row out) (r : Result (Unit {0}) Refusal) (er : refusal_in r ≡ decided q t s st at f c) where
        abbrev u : rule.Taker (Unit {0})
        u = taker_of (places fill_row out) t

        says : refusal z (read_desk k st) u ≡ refusal_in r
        says = judged (places fill_row out) ∙ sym (er ∙ ap (λ (m : ℕ). decided m t s st at f c) eq)

        pub order_refused : (n : Refusal) → r ≡ Err n → Performs (Sound z) z (rule.order u) k st out (Err n) k st out
        order_refused n i =
            perf.refused (refusal_number n)
            (ap (λ (x : rule.Result (Unit {0})). x.answer)
            (performs_refused z (read_desk k st) u (refusal_number n) (says ∙ ap refusal_in i)))
            refl refl refl refl

        module _ {x : Unit {0}} (i : r ≡ Ok x) where
          pub order_none : refusal z (read_desk k st) u ≡ none
          order_none = says ∙ ap refusal_in i

-- an order that the rules don't refuse, once it is carried out
module _ {z : rule.Size} {a b : StoredBook} (w : Sound z (stock_of a)) (r : Relent a b) (t : Taker) (st : Statistics) (out : List ℕ)
    (ne : refusal z (read_desk (stock_of a) st) (taker_of (places fill_row out) t) ≡ none) where
  pub order_done : {e : OrderEvent} {st' : Statistics} {out' : List ℕ} → Fulfils t (stock_of a) st out e (stock_of b) st' out'
      → Performs (Sound z) z (rule.order (taker_of (places fill_row out) t)) (stock_of a) st out (Ok e) (stock_of b) st' out'
  order_done {e} {st'} f =
      let k = stock_of a in
      let u : rule.Taker (Unit {0}) = taker_of (places fill_row out) t in
      let q : perform z (read_desk k st) (rule.order u) ≡ carried (read_desk k st) u = performs_carried z (read_desk k st) u ne in
      let d : read_desk (stock_of b) st' ≡ (perform z (read_desk k st) (rule.order u)).desk = f.desk ∙ sym (ap (λ (r : rule.Result (Unit {0})). r.desk) q) in
      let l : read_book (stock_of b) ≡ (perform z (read_desk k st) (rule.order u)).desk.book = ap (λ (v : rule.Desk (Unit {0})). v.book) d in
      perf.carried (event_of e) f.fills (ap (λ (r : rule.Result (Unit {0})). r.answer) q ∙ f.answer) refl d
      (record {
        lengths = lengths_last r z w.lengths;
        tidy = f.tidy;
        orderly = subst (WholeBook z) (sym l) (whole_book_after z (read_desk k st) (rule.order u) w.orderly);
      })
      f.rows
