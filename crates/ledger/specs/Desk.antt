-- The stored book with its search, and the rules' book that it stands for. (Short names: specs/Stock.antt.) Assumes nothing.
use Rattle.std.specs.Prelude.{ℕ, ◌+◌, ◌<◌, ◌≤◌, Bool, List, [], ◌∷◌, ◌≡◌, eqb, length}
use Rattle.rules.specs.Rules.{Book, Side, bid, book, opposite}
use Rattle.records.specs.Rows.{field, record_count}
use Rattle.search.specs.Seek.{Good, entry_for}
use Rattle.arena.specs.Times.{times}
use Rattle.side.specs.Levels.{Lvl, ups}
use Rattle.side.specs.Orders.{codes, orders}
use Rattle.side.specs.Read.{free_in, levels_in}
use Rattle.side.specs.Stored.{Stored}
use Rattle.ledger.specs.Stock.{Stock}

-- every level has an order
abbrev pub Busy : List Lvl → Type 0
Busy [] = Unit {0}
Busy (w ∷ ws) = (1 ≤ length w.queue) × Busy ws

-- whether the search for its id finds the record of code c
abbrev pub found : List ℕ → List ℕ → ℕ → Bool
found se rs c = eqb (entry_for se rs (field rs 0 c)) c

-- the stored book with its search; lv is one side and ov the other, as in `Stored`
pub record Ledger (n : ℕ) (rs lv ov se : List ℕ) (s t f r : ℕ) (ws vs : List Lvl) (fr : List ℕ) : Type 0 where
  pub stored : Stored n rs lv ov s t f r ws vs fr
  pub busy : Busy ws
  pub busy_two : Busy vs
  pub good : Good se rs
  pub room : n < length se
  -- the search finds only resting orders
  pub held : (x : ℕ) → (entry_for se rs x ≡ 0 → ⊥) → 1 ≤ times (entry_for se rs x) (ups ws) + times (entry_for se rs x) (ups vs)

-- the rules' book, where the levels ws are those of side sd
abbrev pub book_of : Side → List ℕ → List ℕ → List Lvl → List Lvl → Book (Unit {0})
book_of sd rs se ws vs = book sd (orders rs (found se rs) (codes sd ws)) (orders rs (found se rs) (codes (opposite sd) vs))

-- ## Both sides: the lists are those that storage says
abbrev pub LedgerIn : List ℕ → List ℕ → List ℕ → List ℕ → ℕ → ℕ → ℕ → ℕ → Type 0
LedgerIn rs bd ak se r f nb na = Ledger (record_count rs) rs bd ak se nb na f r (levels_in rs bd nb) (levels_in rs ak na) (free_in rs f)

abbrev pub stored_book : List ℕ → List ℕ → List ℕ → List ℕ → ℕ → ℕ → Book (Unit {0})
stored_book rs bd ak se nb na = book_of bid rs se (levels_in rs bd nb) (levels_in rs ak na)

-- what a door leaves: a desk that stands for the book k
pub record Leaves (k : Book (Unit {0})) (rs bd ak se : List ℕ) (r f nb na : ℕ) : Type 0 where
  pub desk : LedgerIn rs bd ak se r f nb na
  pub book : stored_book rs bd ak se nb na ≡ k

-- ## A stock: the lists are those that it says

-- what the doors know of it, and what they leave
abbrev pub Tidy : Stock → Type 0
Tidy k = LedgerIn k.records k.bids k.asks k.search k.book.resting k.book.free k.book.bids k.book.asks

-- the rules' book that it reads as
abbrev pub read_book : Stock → Book (Unit {0})
read_book k = stored_book k.records k.bids k.asks k.search k.book.bids k.book.asks

-- it is tidy and stands for the book b
abbrev pub LeavesAs : Book (Unit {0}) → Stock → Type 0
LeavesAs b k = Leaves b k.records k.bids k.asks k.search k.book.resting k.book.free k.book.bids k.book.asks
