-- What the doors of the book ask, and what they make of the rules' book. Assumes nothing.
use Rattle.std.specs.Prelude.{ℕ, ◌*◌, ◌+◌, ◌-◌, ◌<◌, ◌≤◌, true, List, map, ◌∷◌, ◌⊎◌, ◌≡◌, length}
use Rattle.rules.specs.Rules.{Book, Order, Side, ask, bid, hide, place}
use Rattle.records.specs.Rows.{field}
use Rattle.arena.specs.Links.{head_of, price_of}
use Rattle.arena.specs.Ring.{cut}
use Rattle.arena.specs.Times.{times}
use Rattle.side.specs.Doors.{RoomFor, resting, without}
use Rattle.side.specs.Levels.{Lvl, ups}
use Rattle.side.specs.Orders.{codes, orders}
use Rattle.side.specs.Read.{levels_in}
use Rattle.ledger.specs.declared.OrderBook.{OrderBook}
use Rattle.ledger.specs.Stock.{Stock}
use Rattle.ledger.specs.Desk.{Ledger, found}

-- ## An order comes to rest

-- an order comes to rest on side sd, and hides its namesakes
abbrev pub rested : Side → ℕ → ℕ → ℕ → List (Order (Unit {0})) → List (Order (Unit {0}))
rested sd id q p l = place sd (record { id = id; quantity = q; price = p; found = true; tag = tt }) (map (hide id) l)

-- the book then
abbrev pub rest_in : Side → ℕ → ℕ → ℕ → Book (Unit {0}) → Book (Unit {0})
rest_in bid id q p k = record { bids = rested bid id q p k.bids; asks = map (hide id) k.asks }
rest_in ask id q p k = record { bids = map (hide id) k.bids; asks = rested ask id q p k.asks }

-- a price new to its side has room there
abbrev pub RoomOn : Side → Stock → ℕ → Type 0
RoomOn bid k p = RoomFor k.bids k.book.bids p
RoomOn ask k p = RoomFor k.asks k.book.asks p

-- ## An order leaves

-- the code c rests on the side: bw are the levels of the bids, aw those of the asks
abbrev pub On : Side → ℕ → List Lvl → List Lvl → Type 0
On bid c bw aw = 1 ≤ times c (ups bw)
On ask c bw aw = 1 ≤ times c (ups aw)

abbrev pub RestsOn : Side → ℕ → Stock → Type 0
RestsOn sd c k = On sd c (levels_in k.records k.bids k.book.bids) (levels_in k.records k.asks k.book.asks)

-- the order of code c leaves side sd
abbrev pub drop_in : Side → ℕ → List ℕ → List ℕ → List Lvl → List Lvl → Book (Unit {0})
drop_in bid c rs se bw aw = record { bids = orders rs (found se rs) (cut c (codes bid bw)); asks = orders rs (found se rs) (codes ask aw) }
drop_in ask c rs se bw aw = record { bids = orders rs (found se rs) (codes bid bw); asks = orders rs (found se rs) (cut c (codes ask aw)) }

abbrev pub dropped : Side → ℕ → Stock → Book (Unit {0})
dropped sd c k =
    drop_in sd c k.records k.search (levels_in k.records k.bids k.book.bids) (levels_in k.records k.asks k.book.asks)

-- ## A cancel

-- no bid at or above an ask, by the codes
abbrev pub ApartAt : List ℕ → List Lvl → List Lvl → Type 0
ApartAt rs bw aw = (x y : ℕ) → 1 ≤ times x (ups bw) → 1 ≤ times y (ups aw) → field rs 2 x < field rs 2 y

abbrev pub ApartIn : Stock → Type 0
ApartIn k = ApartAt k.records (levels_in k.records k.bids k.book.bids) (levels_in k.records k.asks k.book.asks)

-- what the highest bid says of the side that c rests on
abbrev pub SideTold : Side → List ℕ → List ℕ → ℕ → ℕ → Type 0
SideTold bid rs bd n c = (1 ≤ n) × (field rs 2 c ≤ price_of bd (n - 1))
SideTold ask rs bd n c = (n ≡ 0) ⊎ (price_of bd (n - 1) < field rs 2 c)

-- ## The best order

-- the side has a row
abbrev pub Fronted : Side → OrderBook → List ℕ → List ℕ → Type 0
Fronted bid b bd ak = (1 ≤ b.bids) × (b.bids * 3 ≤ length bd)
Fronted ask b bd ak = (1 ≤ b.asks) × (b.asks * 3 ≤ length ak)

-- the first code of its best price's queue
abbrev pub front_of : Side → OrderBook → List ℕ → List ℕ → ℕ
front_of bid b bd ak = head_of bd (b.bids - 1)
front_of ask b bd ak = head_of ak 0

-- ## The doors of one side, for whatever the other side is

pub record CanJoin (rs lv se : List ℕ) (s c p : ℕ) : Type 0 where
  pub n : ℕ
  pub ov : List ℕ
  pub t : ℕ
  pub r : ℕ
  pub ws : List Lvl
  pub vs : List Lvl
  pub fr : List ℕ
  pub all : Ledger n rs lv ov se s t c r ws vs (c ∷ fr)
  pub room : RoomFor lv s p

pub record Joins (rs lv se : List ℕ) (s c id q p : ℕ) (rs' lv' se' : List ℕ) (s' f' : ℕ) : Type 0 where
  pub all : {n : ℕ} {ov : List ℕ} {t r : ℕ} {ws vs : List Lvl} {fr : List ℕ} → Ledger n rs lv ov se s t c r ws vs (c ∷ fr)
      → Ledger n rs' lv' ov se' s' t f' (r + 1) (resting c p ws) vs fr
  pub own : {n : ℕ} {ov : List ℕ} {t r : ℕ} {ws vs : List Lvl} {fr : List ℕ} → Ledger n rs lv ov se s t c r ws vs (c ∷ fr) → (sd : Side)
      → orders rs' (found se' rs') (codes sd (resting c p ws)) ≡ rested sd id q p (orders rs (found se rs) (codes sd ws))
  pub other : {n : ℕ} {ov : List ℕ} {t r : ℕ} {ws vs : List Lvl} {fr : List ℕ} → Ledger n rs lv ov se s t c r ws vs (c ∷ fr) → (sd : Side)
      → orders rs' (found se' rs') (codes sd vs) ≡ map (hide id) (orders rs (found se rs) (codes sd vs))

pub record CanQuit (rs lv se : List ℕ) (s f c : ℕ) : Type 0 where
  pub n : ℕ
  pub ov : List ℕ
  pub t : ℕ
  pub r : ℕ
  pub ws : List Lvl
  pub vs : List Lvl
  pub fr : List ℕ
  pub all : Ledger n rs lv ov se s t f r ws vs fr
  pub inside : 1 ≤ times c (ups ws)

pub record Quits (rs lv se : List ℕ) (s f c : ℕ) (rs' lv' se' : List ℕ) (s' f' : ℕ) : Type 0 where
  pub all : {n : ℕ} {ov : List ℕ} {t r : ℕ} {ws vs : List Lvl} {fr : List ℕ} → Ledger n rs lv ov se s t f r ws vs fr → 1 ≤ times c (ups ws)
      → Ledger n rs' lv' ov se' s' t f' (r - 1) (without c ws) vs (c ∷ fr)
  pub own : {n : ℕ} {ov : List ℕ} {t r : ℕ} {ws vs : List Lvl} {fr : List ℕ} → Ledger n rs lv ov se s t f r ws vs fr → 1 ≤ times c (ups ws) → (sd : Side)
      → orders rs' (found se' rs') (codes sd (without c ws)) ≡ orders rs (found se rs) (cut c (codes sd ws))
  pub other : {n : ℕ} {ov : List ℕ} {t r : ℕ} {ws vs : List Lvl} {fr : List ℕ} → Ledger n rs lv ov se s t f r ws vs fr → 1 ≤ times c (ups ws) → (sd : Side)
      → orders rs' (found se' rs') (codes sd vs) ≡ orders rs (found se rs) (codes sd vs)
