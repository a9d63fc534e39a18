-- An order that nothing speaks against, from its outlook to what the rules say of it: asked of the doors step by step, and put together. Assumes nothing.
use Prim.Native.Nat.{ℕ, ◌+◌, ◌≤◌, ◌<◌}
use native.Mathlib.Omega.{arith}
use mathlib.Core.Path.{◌≡◌, refl, sym, ap, ◌∙◌, subst}
use mathlib.Core.Bool.{Bool, true, false, ◌&&◌}
use mathlib.Core.List.{List, [], ◌∷◌}
use mathlib.Core.Logic.{inl, inr, ◌⊎◌, ⊎_elim}
use mathlib.Core.Option as maybe
use Rattle.std.specs.Prelude.{Option, Some, None, is_some}
use lib.Dec.{leb, ltb}
use lib.ListN.{length}
use borrow.Author.Tests.{leb-false, lt-leb, ltb-false}
use Rattle.rules.specs.Rules as rule
use Rattle.rules.specs.Rules.{Book, Order, Outcome, book, carried, first_of, opposite, outcome, own}
use Rattle.rules.proofs.Basics.{not_both, own_book}
use Rattle.rules.proofs.Bounds.{outcome_fewer}
use Rattle.models.specs.declared.Price.{Price}
use Rattle.models.specs.declared.OrderEvent.{OrderEvent}
use Rattle.stats.specs.declared.Statistics.{Statistics}
use Rattle.stats.specs.declared.Totals.{Totals}
use Rattle.models.specs.Readings.{event_of, side_of}
use Rattle.stats.specs.Statistics.{statistics_of, VolumeFits, totals_of}
use Rattle.rows.specs.Rows.{fill_row, places}
use Rattle.stats.proofs.Recording.{volume_fits, traded_after, untraded}
use Rattle.records.specs.Rows.{record_count}
use Rattle.ledger.specs.declared.StoredBook.{StoredBook}
use Rattle.ledger.specs.Stock.{Relent, Stock, stock_of}
use Rattle.ledger.specs.Desk.{LeavesAs, Tidy, read_book}
use Rattle.ledger.specs.Doors.{RoomOn, rest_in}
use Rattle.whole.specs.Whole.{Lengths}
use Rattle.whole.proofs.Desk.{desk_resting, open_place, desk_room}
use Rattle.survey.specs.declared.Taker.{Taker}
use Rattle.survey.specs.declared.Outlook.{Outlook}
use Rattle.survey.specs.Surveyed.{surveyed}
use Rattle.survey.specs.Taker.{taker_of, met_side}
use Rattle.matching.specs.declared.Last.{Last}
use Rattle.trade.specs.Trade.{CanTrade, Trades, after_trade}
use Rattle.order.specs.Decided.{filled, remains, totals_by, passes, decided, event_by}
use Rattle.order.proofs.Judging.{left_within, totals_are, passes_is, event_is}
use Rattle.fulfil.specs.Stock.{read_desk}
use Rattle.fulfil.specs.Fulfils.{no_row, CanSettle, Settles, CanTrack, Tracks, Accepted, Fulfils}
use Rattle.fulfil.proofs.Carrying.{traded, carried_rests, carried_lapses}

-- ## lengths that stay

-- at any size
abbrev Lasts : Stock → Stock → Type 0
Lasts k m = (z : rule.Size) → Lengths z k.records k.bids k.asks k.search → Lengths z m.records m.bids m.asks m.search

pub lengths_last : {a b : StoredBook} → Relent a b → Lasts (stock_of a) (stock_of b)
lengths_last r z l = record {
  some = l.some;
  records = r.records_length ∙ l.records;
  bids = r.bids_length ∙ l.bids;
  asks = r.asks_length ∙ l.asks;
  search = r.search_length ∙ l.search;
}

-- ## the statistics

module _ (t : Taker) (s : Outlook) (st : Statistics) {y : Totals} (e : y ≡ totals_by t s) where
  pub track_fits : CanTrack t s st → (q : ℕ) → y.quantity ≡ Some q → VolumeFits st q
  track_fits c q f = volume_fits st c.fills c.small q (ap (λ (v : Totals). v.quantity) (c.totals ∙ sym e) ∙ f)

  module _ (last : Last) where
    pub tracks_none : y.worth ≡ None ⊎ y.quantity ≡ None → Tracks t s last st st
    tracks_none o l g m p n =
        sym (untraded st l m
        (⊎_elim (λ z. inl (ap (λ (v : Totals). v.worth) (g ∙ sym e) ∙ z)) (λ z. inr (ap (λ (v : Totals). v.quantity) (g ∙ sym e) ∙ z)) o))

    pub tracks : (q w : ℕ) (new : Statistics) → y.quantity ≡ Some q → y.worth ≡ Some w
        → statistics_of new ≡ rule.traded st.tracking q w last.price.0 last.qty.0 (statistics_of st) → Tracks t s last st new
    tracks q w new a b h l g m p n =
        h ∙ traded_after st l m q w last.price.0 last.qty.0 (ap (λ (v : Totals). v.quantity) (g ∙ sym e) ∙ a) (ap (λ (v : Totals). v.worth) (g ∙ sym e) ∙ b) p n

-- ## what no refusal says

module _ (n : ℕ) (t : Taker) (s : Outlook) (st : Statistics) (at : Option Price) (f c : Bool) (no : decided n t s st at f c ≡ maybe.none) where
  pub record Fine : Type 0 where
    pub room : s.fills ≤ n
    pub sum : passes t s st ≡ false
    pub place : is_some at ≡ true → f ≡ false
    pub row : is_some at ≡ true → c ≡ false

  pub fine : Fine
  unfolding decided first_of
  fine = go (ltb n s.fills) refl (passes t s st) refl (is_some at) refl f refl c refl no
    where
      not_none : (k : ℕ) → ◌≡◌ {A = maybe.Option ℕ} (maybe.some k) maybe.none → ⊥
      not_none k e = let x : ◌≡◌ {A = ℕ} 0 1 = cc in let y : ⊥ = omega arith in y

      go : (a : Bool) → ltb n s.fills ≡ a → (b : Bool) → passes t s st ≡ b → (d : Bool) → is_some at ≡ d → (e : Bool) → f ≡ e → (h : Bool) → c ≡ h
          → first_of ((2, a) ∷ (3, b) ∷ (4, d && e) ∷ (5, d && h) ∷ []) ≡ maybe.none → Fine
      go true p b q d i e j h k x = absurd (not_none 2 x)
      go false p true q d i e j h k x = absurd (not_none 3 x)
      go false p false q true i true j h k x = absurd (not_none 4 x)
      go false p false q true i false j true k x = absurd (not_none 5 x)
      go false p false q true i false j false k x = record { room = ltb-false n s.fills p; sum = q; place = λ _. j; row = λ _. k }
      go false p false q false i e j h k x =
          record { room = ltb-false n s.fills p; sum = q; place = λ y. absurd (not_both (is_some at) y i); row = λ y. absurd (not_both (is_some at) y i) }

book_count : (s : rule.Side) (l k : List (Order (Unit {0}))) → length (book s l k).bids + length (book s l k).asks ≡ length l + length k
book_count rule.bid l k = refl
book_count rule.ask l k = omega arith

own_count : (s : rule.Side) (b : Book (Unit {0})) → length b.bids + length b.asks ≡ length (own s b) + length (own (opposite s) b)
own_count rule.bid b = refl
own_count rule.ask b = omega arith

book_other : (s : rule.Side) (l k : List (Order (Unit {0}))) → book (opposite s) l k ≡ book s k l
book_other rule.bid l k = refl
book_other rule.ask l k = refl

-- ## an order that nothing speaks against

module _ {t : Taker} {s : Outlook} {at : Option Price} {k : Stock} {st : Statistics} {out : List ℕ} (x : Accepted t s at k st out) where
  abbrev n : ℕ
  n = places fill_row out

  abbrev u : rule.Taker (Unit {0})
  u = taker_of n t

  abbrev makers : List (Order (Unit {0}))
  makers = own (opposite (side_of t.side)) (read_book k)

  abbrev o : Outcome (Unit {0})
  o = outcome u makers

  abbrev full? : Bool
  full? = leb x.size.orders k.book.resting

  tested : Fine n t s st at full? x.crowded x.fine
  tested = fine n t s st at full? x.crowded x.fine

  told : (room : ℕ) → s ≡ surveyed (outcome (taker_of room t) makers)
  told room = x.foretold room k.search

  pub trade_asks : CanTrade t s.used k out
  trade_asks = record {
    tidy = x.sound.tidy;
    whole = x.sound.orderly.orderly;
    used = λ room. ap (λ (v : Outlook). v.used) (told room);
    room = λ room.
        let e : s.fills ≡ length (outcome (taker_of room t) makers).fills = ap (λ (v : Outlook). v.fills) (told room) in omega (arith, tested.room);
  }

  pub left_asks : s.left.0 ≤ t.qty.0
  left_asks = subst (λ (v : Outlook). v.left.0 ≤ t.qty.0) (sym (told n)) (left_within n t makers)

  rest_is : s.left.0 ≡ o.rest
  rest_is = ap (λ (v : Outlook). v.left.0) (told n)

  totals_is : totals_of o.fills ≡ totals_by t s
  totals_is = totals_are n t makers ∙ sym (ap (totals_by t) (told n))

  no_sum : rule.too_large o.fills (statistics_of st) ≡ false
  no_sum = passes_is n t makers st ∙ (sym (ap (λ (v : Outlook). passes t v st) (told n)) ∙ tested.sum)

  pub track_asks : CanTrack t s st
  track_asks = record { left = left_asks; fills = o.fills; totals = totals_is; small = no_sum }

  -- what the trade leaves
  module _ {m : Stock} {out' : List ℕ} {last : Last} (tr : Trades t (read_book k) out m out' last) (lasts : Lasts k m) where
    mid : LeavesAs (after_trade n t (read_book k)) m
    mid = tr.book n

    mid_lengths : Lengths x.size m.records m.bids m.asks m.search
    mid_lengths = lasts x.size x.sound.lengths

    mid_own : own (side_of t.side) (read_book m) ≡ own (side_of t.side) (read_book k)
    mid_own =
        ap (own (side_of t.side)) (mid.book ∙ book_other (side_of t.side) o.left (own (side_of t.side) (read_book k)))
        ∙ own_book (side_of t.side) (own (side_of t.side) (read_book k)) o.left

    mid_place : (p : Price) → at ≡ Some p → m.book.resting < record_count m.records
    mid_place p r =
        let b = read_book m in
        let h : k.book.resting < x.size.orders = leb-false x.size.orders k.book.resting (tested.place (ap is_some r)) in
        let c : length b.bids + length b.asks ≡ length o.left + length (own (side_of t.side) (read_book k)) =
        ap (λ (v : Book (Unit {0})). length v.bids + length v.asks) mid.book
        ∙ book_count (met_side t) o.left (own (side_of t.side) (read_book k)) in
        let l : length b.bids + length b.asks < x.size.orders =
        omega (arith, c, outcome_fewer u makers, own_count (side_of t.side) (read_book k), desk_resting x.sound.tidy) in
        open_place mid.desk x.size p.0 mid_lengths (lt-leb x.size.orders (length b.bids + length b.asks) l)

    mid_row : (p : Price) → at ≡ Some p → RoomOn (side_of t.side) m p.0
    mid_row p r =
        desk_room {k = m} mid.desk x.size (side_of t.side) p.0 mid_lengths
        (ap (no_row x.size.prices p.0) mid_own ∙ (sym (x.crowded_is p r) ∙ tested.row (ap is_some r)))

    pub settle_asks : CanSettle at t m
    settle_asks = record { tidy = mid.desk; place = mid_place; row = mid_row }

    -- and what comes of it once the remainder has rested or lapsed, and the statistics have the fills
    module _ {k' : Stock} (sd : Settles at t s.left.0 (read_book m) k') (new : Statistics) (tk : Tracks t s last st new)
        (e : OrderEvent) (ee : event_of e ≡ event_by t s.fills s.left.0 (filled t s)) where
      abbrev dk : rule.Desk (Unit {0})
      dk = read_desk k st

      mid_traded : read_book m ≡ traded n t (read_book k) st
      mid_traded = mid.book ∙ book_other (side_of t.side) o.left (own (side_of t.side) (read_book k))

      record Ends : Type 0 where
        tidy : Tidy k'
        book : read_book k' ≡ (carried dk u).desk.book

      ends : Ends
      ends = go at refl
        where
          go : (r : Option Price) → at ≡ r → Ends
          go (Some p) r =
              let l = sd.stands p r in
              let h : remains t.limit o.rest ≡ Some p = ap (remains t.limit) (sym rest_is) ∙ (sym x.at_is ∙ r) in
              record {
                tidy = l.desk;
                book = l.book
                    ∙ (ap (λ (q : ℕ). rest_in (side_of t.side) t.id.0 q p.0 (read_book m)) rest_is
                    ∙ (ap (rest_in (side_of t.side) t.id.0 o.rest p.0) mid_traded ∙ sym (carried_rests n t (read_book k) st p h)));
              }
          go None r =
              let l = sd.lapses r in
              let h : remains t.limit o.rest ≡ None = ap (remains t.limit) (sym rest_is) ∙ (sym x.at_is ∙ r) in
              record { tidy = l.desk; book = l.book ∙ (mid_traded ∙ sym (carried_lapses n t (read_book k) st h)) }

      stats_is : statistics_of new ≡ (carried dk u).desk.stats
      unfolding carried
      stats_is = tk o.fills totals_is no_sum (sym (tr.price n)) (sym (tr.quantity n))

      answer_is : (carried dk u).answer ≡ rule.done (event_of e) o.fills
      unfolding carried
      answer_is =
          ap (λ (v : rule.Event). rule.done v o.fills)
          (event_is n t makers ∙ sym (ee ∙ ap (λ (v : Outlook). event_by t v.fills v.left.0 (filled t v)) (told n)))

      pub carries : Fulfils t k st out e k' new out'
      carries = record {
        fills = o.fills;
        answer = answer_is;
        tidy = ends.tidy;
        desk = λ i. record { book = ends.book i; stats = stats_is i };
        rows = tr.fills n;
      }
