-- How each question comes to its contract, on a whole stock through what the doors know of it. Assumes nothing.
use Prim.Native.Nat.{ℕ, ◌+◌, ◌≤◌, ◌<◌}
use native.Mathlib.Omega.{arith}
use mathlib.Core.Path.{◌≡◌, sym, ap, ◌∙◌}
use mathlib.Core.Bool.{Bool, true, false, not}
use mathlib.Core.List.{List, reverse}
use mathlib.Core.Option as maybe
use mathlib.Core.Option.{none, some}
use lib.Dec.{ltb}
use lib.ListN.{length, length-reverse}
use borrow.Author.Tests.{le-ltb, lt-ltb, not-true, not-false}
use Rattle.std.specs.Prelude.{Option}
use Rattle.rules.specs.Rules as rule
use Rattle.rules.specs.Rules.{any_above, first_of, levels, most, reply}
use Rattle.rules.proofs.Turns.{best_apart}
use Rattle.models.specs.declared.Price.{Price}
use Rattle.models.specs.Readings.{Reading, value}
use Rattle.ledger.specs.Stock.{Stock}
use Rattle.ledger.specs.Desk.{LedgerIn, found, read_book, stored_book}
use Rattle.whole.specs.Whole.{WholeStock}
use Rattle.whole.proofs.Join.{whole_book}
use Rattle.depth.specs.Answers.{quote_of}
use Rattle.depth.proofs.Desk.{standing_bids, bid_count, ask_count}
use Rattle.depth.proofs.Levels.{levels_ascending}
use Rattle.depth.proofs.Totals.{above_in}
use Rattle.questions.specs.Questions.{lowest_ask, highest_bid, Below}

-- ## quotes

pub below : {z : rule.Size} (k : Stock) → WholeStock z k → (b a : Option Price) → quote_of b ≡ highest_bid (read_book k) → quote_of a ≡ lowest_ask (read_book k) → Below b a
below k w b a e f p q x y = best_apart (read_book k) (whole_book w).orderly p q (sym e ∙ x) (sym f ∙ y)

-- ## depth

-- the levels of a desk are as many as its rows, and one list of bids is as large as the other
module _ {rs bd ak se : List ℕ} {r f nb na : ℕ} (w : LedgerIn rs bd ak se r f nb na) where
  abbrev k : rule.Book (Unit {0})
  k = stored_book rs bd ak se nb na

  back_count : length (reverse (levels k.bids)) ≡ nb
  back_count = length-reverse (levels k.bids) ∙ bid_count w

  levels_fit : (room : ℕ) → na + nb ≤ room → ltb room (length (levels k.asks) + length (reverse (levels k.bids))) ≡ false
  levels_fit room h = le-ltb room _ (omega (arith, ask_count w, back_count))

  bids_back : any_above most (reverse (levels k.bids)) ≡ any_above most (levels k.bids)
  bids_back = ap (any_above most) (levels_ascending (standing_bids w) rule.bid (found se rs)) ∙ sym (above_in (standing_bids w) rule.bid (found se rs))

  pub told_counts : (n : ℕ) → ◌≡◌ {A = Reading (ℕ × ℕ × ℕ)} (value (n, na, nb)) (value (n, length (levels k.asks), length (reverse (levels k.bids))))
  told_counts n = sym (λ i. value (n, ask_count w i, back_count i))

  module _ (n room : ℕ) (st : rule.Stats) where
    pub depth_short : room < na + nb → reply (record { book = k; stats = st }) (rule.depth n room) ≡ rule.Reply.refused 6
    unfolding reply first_of
    depth_short h = rw (lt-ltb room (length (levels k.asks) + length (reverse (levels k.bids))) (omega (arith, ask_count w, back_count)))

    pub asks_large : na + nb ≤ room → any_above most (levels k.asks) ≡ true → reply (record { book = k; stats = st }) (rule.depth n room) ≡ rule.Reply.refused 7
    unfolding reply first_of
    asks_large h e = rw (levels_fit room h, e)

    pub bids_large : na + nb ≤ room → any_above most (levels k.asks) ≡ false → any_above most (levels k.bids) ≡ true
        → reply (record { book = k; stats = st }) (rule.depth n room) ≡ rule.Reply.refused 7
    unfolding reply first_of
    bids_large h e g = rw (levels_fit room h, e, bids_back, g)

    pub depth_shown : na + nb ≤ room → any_above most (levels k.asks) ≡ false → any_above most (levels k.bids) ≡ false
        → reply (record { book = k; stats = st }) (rule.depth n room) ≡ rule.deep n (levels k.asks) (reverse (levels k.bids))
    unfolding reply first_of
    depth_shown h e g = rw (levels_fit room h, e, bids_back, g)

-- what `totals_fit` tells
pub large_at : {fits x : Bool} → fits ≡ not x → fits ≡ false → x ≡ true
large_at {x = x} h e = not-false x (sym h ∙ e)

pub small_at : {fits x : Bool} → fits ≡ not x → fits ≡ true → x ≡ false
small_at {x = x} h e = not-true x (sym h ∙ e)

-- ## the search for an id

pub search_found : (b : rule.Book (Unit {0})) (i : ℕ) (st : rule.Stats) {o : maybe.Option (ℕ × ℕ)} → o ≡ rule.lookup i b.bids (rule.lookup i b.asks none)
    → reply (record { book = b; stats = st }) (rule.search i) ≡ rule.found o
unfolding reply
search_found b i st e = ap rule.found (sym e)
