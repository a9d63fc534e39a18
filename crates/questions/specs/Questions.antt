-- What each question is answered, on any input at all: through the rules' `reply` at the desk that the lent storage reads as. Assumes nothing.
use Rattle.std.specs.Prelude.{ℕ, ◌<◌, ◌≡◌, List, ◌++◌, length, Option, Result}
use Rattle.std.proofs.Math.Option as maybe
use Rattle.rules.specs.Rules as rule
use Rattle.models.specs.declared.BookDepth.{BookDepth}
use Rattle.models.specs.declared.Price.{Price}
use Rattle.models.specs.declared.Refusal.{Refusal}
use Rattle.models.specs.Readings.{number, value}
use Rattle.rows.specs.Rows.{level_row, places, written}
use Rattle.search.specs.Seek.{sought}
use Rattle.ledger.specs.Stock.{Stock}
use Rattle.ledger.specs.Desk.{read_book}
use Rattle.whole.specs.Whole.{WholeStock}
use Rattle.depth.specs.declared.Lookup.{Lookup}
use Rattle.depth.specs.Answers.{quote_of}
use Rattle.questions.specs.Answers.{quoted_of, deep_of, got_of}

-- the best price of a side: lowest ask, highest bid; and the spread
abbrev pub best_on : rule.Side → rule.Book (Unit {0}) → maybe.Option ℕ
best_on s b = rule.best (rule.own s b)

abbrev pub lowest_ask : rule.Book (Unit {0}) → maybe.Option ℕ
lowest_ask b = rule.best b.asks

abbrev pub highest_bid : rule.Book (Unit {0}) → maybe.Option ℕ
highest_bid b = rule.best b.bids

abbrev pub spread_of : rule.Book (Unit {0}) → maybe.Option ℕ
spread_of b = rule.spread (highest_bid b) (lowest_ask b)

-- where both quotes are present, the bid is below the ask
abbrev pub Below : Option Price → Option Price → Type 0
Below b a = (p q : ℕ) → quote_of b ≡ maybe.some p → quote_of a ≡ maybe.some q → p < q

-- the question f of the book that the stock k reads as, and the answer a
pub data Tells (z : rule.Size) (f : rule.Book (Unit {0}) → maybe.Option ℕ) (k : Stock) (a : Result (Option Price) Refusal) : Type 0 where
  broken : (WholeStock z k → ⊥) → quoted_of a ≡ number 1 → Tells z f k a
  told : WholeStock z k → quoted_of a ≡ value (f (read_book k)) → Tells z f k a

-- depth for n levels, written to out
pub data Shows (z : rule.Size) (n : ℕ) (k : Stock) (out : List ℕ) (a : Result BookDepth Refusal) (out' : List ℕ) : Type 0 where
  broken : (WholeStock z k → ⊥) → deep_of a ≡ number 1 → out' ≡ out → Shows z n k out a out'
  refused : WholeStock z k → (m : ℕ)
      → ((st : rule.Stats) → rule.reply (record { book = read_book k; stats = st }) (rule.depth n (places level_row out)) ≡ rule.Reply.refused m)
      → deep_of a ≡ number m → out' ≡ out → Shows z n k out a out'
  shown : WholeStock z k → (l m : List rule.Level)
      → ((st : rule.Stats) → rule.reply (record { book = read_book k; stats = st }) (rule.depth n (places level_row out)) ≡ rule.deep n l m)
      → deep_of a ≡ value (n, length l, length m) → out' ≡ written level_row out 0 (l ++ m) → Shows z n k out a out'

-- the search for the id i: what the rules find, and how many places the walk looks at
pub data Finds (z : rule.Size) (i : ℕ) (k : Stock) (a : Result Lookup Refusal) : Type 0 where
  broken : (WholeStock z k → ⊥) → got_of a ≡ number 1 → Finds z i k a
  found : WholeStock z k → (o : maybe.Option (ℕ × ℕ)) → ((st : rule.Stats) → rule.reply (record { book = read_book k; stats = st }) (rule.search i) ≡ rule.found o)
      → got_of a ≡ value (o, (sought k.search k.records i).count) → Finds z i k a
