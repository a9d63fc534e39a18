-- A whole book, as document 01 has it ('A whole book'), over the stored numbers: each sentence is a field, in its words and its order.
-- z is the size of the hall (orders, prices a side); the other short names are those of ledger's Stock.antt. The definitions are those that the doors
-- use: a record's `field`, the levels and the free places as storage says (`levels_in`, `free_in`), a side's `Ladder`. Assumes nothing.
use Rattle.std.specs.Prelude.{ℕ, ◌*◌, ◌+◌, ◌-◌, ◌<◌, ◌≤◌, List, ◌++◌, ◌≢◌, ◌≡◌, length, Result, Ok, Err}
use Rattle.rules.specs.Rules.{Size}
use Rattle.models.specs.declared.Refusal.{Refusal}
use Rattle.models.specs.declared.Refusal.TheVariants.{NotWhole}
use Rattle.records.specs.Rows.{field}
use Rattle.search.specs.Seek.{at, dist, home}
use Rattle.arena.specs.Free.{Chain}
use Rattle.arena.specs.Links.{price_of}
use Rattle.arena.specs.Times.{is_code, times}
use Rattle.side.specs.Levels.{Ladder, ups}
use Rattle.side.specs.Read.{free_in, levels_in}
use Rattle.ledger.specs.declared.OrderBook.{OrderBook}
use Rattle.ledger.specs.Stock.{Stock}
use Rattle.ledger.specs.Desk.{Busy}
use Rattle.whole.specs.declared.Size.{Size as Given}

-- the size that a caller gives, as the rules have it
abbrev pub size_of : Given → Size
size_of g = record { orders = g.orders; prices = g.prices }

-- rows of 5 numbers for the orders, rows of 3 for each side's prices, and two places of the search for an order; a hall has at least one order
pub record Lengths (z : Size) (rs bd ak se : List ℕ) : Type 0 where
  pub some : 1 ≤ z.orders
  pub records : length rs ≡ z.orders * 5
  pub bids : length bd ≡ z.prices * 3
  pub asks : length ak ≡ z.prices * 3
  pub search : length se ≡ 2 * z.orders

pub record Limits (z : Size) (b : OrderBook) : Type 0 where
  pub orders : b.resting ≤ z.orders
  pub bids : b.bids ≤ z.prices
  pub asks : b.asks ≤ z.prices

-- the codes of the resting orders: the bids' queues, then the asks'
abbrev pub resting_in : OrderBook → List ℕ → List ℕ → List ℕ → List ℕ
resting_in b rs bd ak = ups (levels_in rs bd b.bids) ++ ups (levels_in rs ak b.asks)

-- the id under which place p of the search has its entry: the record's own; and that id's home
abbrev pub id_at : List ℕ → List ℕ → ℕ → ℕ
id_at se rs p = field rs 0 (at se p)

abbrev pub home_at : List ℕ → List ℕ → ℕ → ℕ
home_at se rs p = home (length se) (id_at se rs p)

pub record WholeStorage (z : Size) (b : OrderBook) (rs bd ak se : List ℕ) : Type 0 where
  -- Storage has the right lengths;
  pub lengths : Lengths z rs bd ak se
  -- counts are within limits, and the count of the resting orders is theirs;
  pub limits : Limits z b
  pub count : b.resting ≡ length (resting_in b rs bd ak)
  -- each resting quantity is at least 1;
  pub some : (c : ℕ) → 1 ≤ times c (resting_in b rs bd ak) → 1 ≤ field rs 1 c
  -- each resting record is in one queue once (and each of the others is a free place once: see below),
  pub once : (c : ℕ) → times c (resting_in b rs bd ak) + times c (free_in rs b.free) ≡ is_code z.orders c
  -- under its own price; each side's prices are strictly ascending (`Ladder`: each row's queue is tied both ways, from its head to its tail)
  pub bids : Ladder rs bd b.bids (levels_in rs bd b.bids)
  pub asks : Ladder rs ak b.asks (levels_in rs ak b.asks)
  -- and occupied;
  pub bids_busy : Busy (levels_in rs bd b.bids)
  pub asks_busy : Busy (levels_in rs ak b.asks)
  -- best bid is below best ask;
  pub apart : 1 ≤ b.bids → 1 ≤ b.asks → price_of bd (b.bids - 1) < price_of ak 0
  -- free places are exactly the others (`once`): a chain, each with quantity 0 (our storage's own rule);
  pub free : Chain rs b.free (free_in rs b.free)
  pub none : (c : ℕ) → 1 ≤ times c (free_in rs b.free) → field rs 1 c ≡ 0
  -- the search finds only resting orders, each under its own id (an entry is a record's code, and its id is the record's),
  pub rests : (p : ℕ) → p < length se → at se p ≢ 0 → 1 ≤ times (at se p) (resting_in b rs bd ak)
  -- at most one an id,
  pub only : (p q : ℕ) → p < length se → q < length se → at se p ≢ 0 → at se q ≢ 0 → id_at se rs p ≡ id_at se rs q → p ≡ q
  -- and keeps the rule above: no free place lies between an id's home and its place.
  pub near : (p q : ℕ) → p < length se → q < length se → at se p ≢ 0 → at se q ≡ 0 → dist (length se) (home_at se rs p) p ≤ dist (length se) (home_at se rs p) q

-- the same of a stock
abbrev pub WholeStock : Size → Stock → Type 0
WholeStock z k = WholeStorage z k.book k.records k.bids k.asks k.search

-- that a stored book is known to be whole; else that it isn't, with the refusal
abbrev pub Known : Size → Stock → Result (Unit {0}) Refusal → Type 0
Known z k (Ok _) = WholeStock z k
Known z k (Err e) = (e ≡ NotWhole) × (WholeStock z k → ⊥)
