-- A stored book: the lent storage with its small values. Contracts speak of it as one thing.
-- The short names of all specs are explained here: a stock's records are rs, its level rows of bids and of asks bd and ak (lv where either side is
-- meant, ov the other), the places of its search se; of its small values r orders rest, f is the first free place, nb and na are the rows used of bids
-- and asks (n of a side).
-- A name with a prime is what stands afterwards. Assumes nothing.
use Rattle.std.specs.Prelude.{ℕ, List, ◌≡◌, length}
use Rattle.ledger.specs.declared.OrderBook.{OrderBook}
use Rattle.ledger.specs.declared.StoredBook.{StoredBook}
use Rattle.ledger.specs.declared.BookView.{BookView}

pub record Stock : Type 0 where
  pub book : OrderBook
  pub records : List ℕ
  pub bids : List ℕ
  pub asks : List ℕ
  pub search : List ℕ

abbrev pub stock : OrderBook → List ℕ → List ℕ → List ℕ → List ℕ → Stock
stock b rs bd ak se = record { book = b; records = rs; bids = bd; asks = ak; search = se }

-- a stored book as it stands, and one that is only read
abbrev pub stock_of : StoredBook → Stock
stock_of s = stock s.book s.records.now s.bids.now s.asks.now s.search.now

abbrev pub stock_in : BookView → Stock
stock_in s = stock s.book s.records.now s.bids.now s.asks.now s.search.now

-- the storage lent is still the same, in its old lengths: what is handed back with b is what was lent with a
pub record Relent (a b : StoredBook) : Type 0 where
  pub records : a.records.ghost_name ≡ b.records.ghost_name
  pub bids : a.bids.ghost_name ≡ b.bids.ghost_name
  pub asks : a.asks.ghost_name ≡ b.asks.ghost_name
  pub search : a.search.ghost_name ≡ b.search.ghost_name
  pub records_length : length b.records.now ≡ length a.records.now
  pub bids_length : length b.bids.now ≡ length a.bids.now
  pub asks_length : length b.asks.now ≡ length a.asks.now
  pub search_length : length b.search.now ≡ length a.search.now
