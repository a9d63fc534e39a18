-- The rules of document 01, in its own words and in whole numbers without a ceiling: 2 ^ 64 stands only in refusals 3 and 7.
-- A book is two lists of orders, each best price first and earliest first at one price.
-- An order carries a tag of any type A, which no rule looks at: it only tells two orders of one id apart. The desk's contracts use `Unit`.
-- Assumes nothing.
use Rattle.std.specs.Prelude.{ℕ, zero, suc, ◌+◌, ◌-◌, ◌*◌, ◌/◌, ◌^◌, min, Bool, true, false, not, ◌&&◌, ◌||◌, cond, List, [], ◌∷◌, map, reverse, leb, ltb, eqb, length, pos, Float}
use Rattle.std.proofs.Math.Option.{Option, none, some}
use Rattle.std.specs.Float.{binary64}
use Rattle.std.specs.Float.Ieee.{of_int, div}

-- ---- sides and prices

pub data Side : Type 0 where
  bid ask : Side

abbrev pub opposite : Side → Side
opposite bid = ask
opposite ask = bid

-- among orders that rest on side s, price p is as good as q or better
abbrev pub as_good : Side → ℕ → ℕ → Bool
as_good bid p q = leb q p
as_good ask p q = leb p q

-- ---- orders and books

-- `found`: the search by id finds it; an older one of the same id is hidden
pub record Order (A : Type 0) : Type 0 where
  pub id : ℕ
  pub quantity : ℕ
  pub price : ℕ
  pub found : Bool
  pub tag : A

pub record Book (A : Type 0) : Type 0 where
  pub bids : List (Order A)
  pub asks : List (Order A)

pub data Kind : Type 0 where
  market : Kind
  limit : ℕ → Kind

-- the prices that a taker of side s and kind k meets
abbrev pub within : Side → Kind → ℕ → Bool
within s market p = true
within s (limit q) p = as_good (opposite s) p q

-- the price at which a remainder of r rests, if it does
abbrev pub standing : Kind → ℕ → Option ℕ
standing market r = none
standing (limit p) zero = none
standing (limit p) (suc r) = some p

-- an order that comes in, with the number of places lent for its fills
pub record Taker (A : Type 0) : Type 0 where
  pub side : Side
  pub kind : Kind
  pub id : ℕ
  pub quantity : ℕ
  pub room : ℕ
  pub tag : A

-- `tag` is the maker's
pub record Fill (A : Type 0) : Type 0 where
  pub taker : ℕ
  pub maker : ℕ
  pub quantity : ℕ
  pub price : ℕ
  pub side : Side
  pub whole : Bool
  pub tag : A

pub record Outcome (A : Type 0) : Type 0 where
  pub fills : List (Fill A)
  pub left : List (Order A)
  pub rest : ℕ

pub record Level : Type 0 where
  pub price : ℕ
  pub total : ℕ

abbrev pub joined : ℕ → ℕ → List Level → List Level
joined p q [] = record { price = p; total = q } ∷ []
joined p q (v ∷ l) = cond (eqb p v.price) (record { price = p; total = q + v.total } ∷ l) (record { price = p; total = q } ∷ v ∷ l)

-- the price and quantity of an order that is found, or else o
abbrev pub either : Bool → ℕ → ℕ → Option (ℕ × ℕ) → Option (ℕ × ℕ)
either true p q o = some (p, q)
either false p q o = o

-- an element that passes a test stands in front of the others
abbrev pub also {ℓ} : {X : Type ℓ} → Bool → X → List X → List X
also true x l = x ∷ l
also false x l = l

unfoldable pub keep {ℓ} : {X : Type ℓ} → (X → Bool) → List X → List X
keep f [] = []
keep f (x ∷ l) = also (f x) x (keep f l)

module _ {A : Type 0} where
  abbrev pub own : Side → Book A → List (Order A)
  own bid b = b.bids
  own ask b = b.asks

  -- the book with these orders on side s and those on the other
  abbrev pub book : Side → List (Order A) → List (Order A) → Book A
  book bid l m = record { bids = l; asks = m }
  book ask l m = record { bids = m; asks = l }

  -- ---- matching

  -- what maker m gives to t, which still wants w
  abbrev pub given : Taker A → ℕ → Order A → ℕ
  given t w m = cond (within t.side t.kind m.price) (min m.quantity w) 0

  -- a fill of q from the maker m
  abbrev pub fill_from : Taker A → Order A → ℕ → Bool → Fill A
  fill_from t m q w = record { taker = t.id; maker = m.id; quantity = q; price = m.price; side = t.side; whole = w; tag = m.tag }

  -- m with q left
  abbrev pub with_left : Order A → ℕ → Order A
  with_left m q = record { id = m.id; quantity = q; price = m.price; found = m.found; tag = m.tag }

  -- the remainder r of t, at rest at the price p
  abbrev pub at_rest : Taker A → ℕ → ℕ → Order A
  at_rest t p r = record { id = t.id; quantity = r; price = p; found = true; tag = t.tag }

  -- a fill of g from m stands in front of the later fills
  abbrev pub filling : Taker A → Order A → ℕ → List (Fill A) → List (Fill A)
  filling t m zero l = l
  filling t m (suc g) l = fill_from t m (suc g) (eqb (suc g) m.quantity) ∷ l

  -- m with q left keeps its turn; a used-up maker leaves
  abbrev pub keeping : Order A → ℕ → List (Order A) → List (Order A)
  keeping m zero l = l
  keeping m (suc q) l = with_left m (suc q) ∷ l

  -- m gives g, and o comes of those behind it
  abbrev pub meet : Taker A → Order A → ℕ → Outcome A → Outcome A
  meet t m g o = record { fills = filling t m g o.fills; left = keeping m (m.quantity - g) o.left; rest = o.rest }

  -- t, still wanting w, meets the makers in their turn
  unfoldable pub matching : Taker A → ℕ → List (Order A) → Outcome A
  matching t w [] = record { fills = []; left = []; rest = w }
  matching t w (m ∷ l) = meet t m (given t w m) (matching t (w - given t w m) l)

  -- ---- resting

  -- behind all orders at its price or a better one
  unfoldable pub place : Side → Order A → List (Order A) → List (Order A)
  place s o [] = o ∷ []
  place s o (m ∷ l) = cond (as_good s m.price o.price) (m ∷ place s o l) (o ∷ m ∷ l)

  -- an order of this id is found no more
  abbrev pub hide : ℕ → Order A → Order A
  hide i m = record { id = m.id; quantity = m.quantity; price = m.price; found = m.found && not (eqb m.id i); tag = m.tag }

  -- what a remainder of r that rests (at `some p`) makes of its own side, and of the other: it becomes the one found under its id
  abbrev pub joining : Taker A → Option ℕ → ℕ → List (Order A) → List (Order A)
  joining t none r l = l
  joining t (some p) r l = place t.side (at_rest t p r) (map (hide t.id) l)

  abbrev pub hiding : Taker A → Option ℕ → List (Order A) → List (Order A)
  hiding t none l = l
  hiding t (some p) l = map (hide t.id) l

  -- ---- cancel

  abbrev pub stays : ℕ → Order A → Bool
  stays i m = not (m.found && eqb m.id i)

  -- the book with only the orders that pass a test
  unfoldable pub only : (Order A → Bool) → Book A → Book A
  only f b = record { bids = keep f b.bids; asks = keep f b.asks }

  -- ---- levels and quotes

  -- the occupied prices with their totals, best first
  unfoldable pub levels : List (Order A) → List Level
  levels [] = []
  levels (m ∷ l) = joined m.price m.quantity (levels l)

  abbrev pub best : List (Order A) → Option ℕ
  best [] = none
  best (m ∷ l) = some m.price

  unfoldable pub occupied : ℕ → List (Order A) → Bool
  occupied p [] = false
  occupied p (m ∷ l) = eqb p m.price || occupied p l

  -- the order found under the id i, or else o
  unfoldable pub lookup : ℕ → List (Order A) → Option (ℕ × ℕ) → Option (ℕ × ℕ)
  lookup i [] o = o
  lookup i (m ∷ l) o = either (m.found && eqb m.id i) m.price m.quantity (lookup i l o)

  -- ---- sums over fills

  unfoldable pub total : List (Fill A) → ℕ
  total [] = 0
  total (f ∷ l) = f.quantity + total l

  unfoldable pub worth : List (Fill A) → ℕ
  worth [] = 0
  worth (f ∷ l) = f.price * f.quantity + worth l

  unfoldable pub last_price : List (Fill A) → ℕ
  last_price [] = 0
  last_price (f ∷ []) = f.price
  last_price (f ∷ g ∷ l) = last_price (g ∷ l)

  unfoldable pub last_quantity : List (Fill A) → ℕ
  last_quantity [] = 0
  last_quantity (f ∷ []) = f.quantity
  last_quantity (f ∷ g ∷ l) = last_quantity (g ∷ l)

-- ---- statistics

-- S and the filled quantity, each turned to the nearest double, and divided with one rounding
unfoldable pub average : ℕ → ℕ → Float
unfolding of_int div
average s q = div binary64 (of_int binary64 (pos s)) (of_int binary64 (pos q))

pub record Trade : Type 0 where
  pub quantity : ℕ
  pub average : Float
  pub whole_average : ℕ
  pub last_price : ℕ
  pub last_quantity : ℕ

pub record Stats : Type 0 where
  pub tracking : Bool
  pub volume : ℕ
  pub last : Option Trade

abbrev pub most : ℕ
most = 2 ^ 64 - 1

abbrev pub some? {ℓ} : {X : Type ℓ} → List X → Bool
some? [] = false
some? (x ∷ l) = true

-- the statistics after q in fills whose prices times quantities sum to s
abbrev pub traded : Bool → ℕ → ℕ → ℕ → ℕ → Stats → Stats
traded false q s p n st = st
traded true zero s p n st = st
traded true (suc q) s p n st =
    record {
      tracking = true;
      volume = st.volume + suc q;
      last = some (record { quantity = suc q; average = average s (suc q); whole_average = s / suc q; last_price = p; last_quantity = n });
    }

pub data Recorded : Type 0 where
  refused : ℕ → Recorded
  recorded : Stats → Recorded

-- ---- the desk

pub record Desk (A : Type 0) : Type 0 where
  pub book : Book A
  pub stats : Stats

pub data Call (A : Type 0) : Type 0 where
  order : Taker A → Call A
  cancel : ℕ → Call A
  tracking : Bool → Call A

pub data Event : Type 0 where
  unfilled placed canceled : ℕ → Event
  partially_filled filled : ℕ → ℕ → ℕ → Event

abbrev pub no_fill : Kind → ℕ → Event
no_fill market i = unfilled i
no_fill (limit p) i = placed i

pub data Answer (A : Type 0) : Type 0 where
  refused : ℕ → Answer A
  done : Event → List (Fill A) → Answer A
  switched : Answer A

pub record Result (A : Type 0) : Type 0 where
  pub desk : Desk A
  pub answer : Answer A

-- how many orders may rest, and how many prices a side may have
pub record Size : Type 0 where
  pub orders : ℕ
  pub prices : ℕ

abbrev pub hall : Size
hall = record { orders = 1024; prices = 128 }

-- the first number whose test passes
abbrev pub unless : Bool → ℕ → Option ℕ → Option ℕ
unless true n o = some n
unless false n o = o

unfoldable pub first_of : List (ℕ × Bool) → Option ℕ
first_of [] = none
first_of (c ∷ l) = unless c.1 c.0 (first_of l)

module _ {A : Type 0} where
  unfoldable pub stats_after : List (Fill A) → Stats → Stats
  stats_after l st = traded st.tracking (total l) (worth l) (last_price l) (last_quantity l) st

  unfoldable pub too_large : List (Fill A) → Stats → Bool
  too_large l st = st.tracking && (some? l && (ltb most (worth l) || ltb most (st.volume + total l)))

  -- what the statistics make of any list of fills
  unfoldable pub recording : List (Fill A) → Stats → Recorded
  recording l st = cond (too_large l st) (refused 3) (recorded (stats_after l st))

  abbrev pub full : Size → Book A → Option ℕ → Bool
  full z b none = false
  full z b (some p) = leb z.orders (length b.bids + length b.asks)

  abbrev pub crowded : Size → List (Order A) → Option ℕ → Bool
  crowded z l none = false
  crowded z l (some p) = not (occupied p l) && leb z.prices (length (levels l))

  -- what comes of t among the makers l
  unfoldable pub outcome : Taker A → List (Order A) → Outcome A
  outcome t l = matching t t.quantity l

  -- the makers that t meets
  abbrev pub makers : Taker A → Desk A → List (Order A)
  makers t d = own (opposite t.side) d.book

  -- the tests, in the order in which they are made
  unfoldable pub checks : Size → Desk A → Taker A → List (ℕ × Bool)
  checks z d t =
      let o = outcome t (makers t d) in
      let r = standing t.kind o.rest in
      (2, ltb t.room (length o.fills)) ∷
      (3, too_large o.fills d.stats) ∷
      (4, full z d.book r) ∷
      (5, crowded z (own t.side d.book) r) ∷
      []

  unfoldable pub refusal : Size → Desk A → Taker A → Option ℕ
  refusal z d t = first_of (checks z d t)

  abbrev pub event : Kind → ℕ → List (Fill A) → ℕ → Event
  event k i [] r = no_fill k i
  event k i (f ∷ l) zero = filled i (total (f ∷ l)) (length (f ∷ l))
  event k i (f ∷ l) (suc r) = partially_filled i (total (f ∷ l)) (length (f ∷ l))

  unfoldable pub carried : Desk A → Taker A → Result A
  carried d t =
      let o = outcome t (makers t d) in
      let r = standing t.kind o.rest in
      record {
        desk = record {
          book = book t.side (joining t r o.rest (own t.side d.book)) (hiding t r o.left);
          stats = stats_after o.fills d.stats;
        };
        answer = done (event t.kind t.id o.fills o.rest) o.fills;
      }

  abbrev pub verdict : Option ℕ → Desk A → Result A → Result A
  verdict none d r = r
  verdict (some n) d r = record { desk = d; answer = refused n }

  unfoldable pub perform : Size → Desk A → Call A → Result A
  perform z d (order t) = verdict (refusal z d t) d (carried d t)
  perform z d (cancel i) = record { desk = record { book = only (stays i) d.book; stats = d.stats }; answer = done (canceled i) [] }
  perform z d (tracking b) =
      record {
        desk = record { book = d.book; stats = record { tracking = b; volume = d.stats.volume; last = d.stats.last } };
        answer = switched;
      }

  abbrev pub after : Size → Desk A → Call A → Desk A
  after z d c = (perform z d c).desk

  abbrev pub fresh : Desk A
  fresh = record { book = record { bids = []; asks = [] }; stats = record { tracking = false; volume = 0; last = none } }

  -- where a history from the fresh book ends; the latest call stands first
  unfoldable pub end : Size → List (Call A) → Desk A
  end z [] = fresh
  end z (c ∷ h) = after z (end z h) c

-- ---- questions: they change nothing

pub data Question : Type 0 where
  quotes : Question
  depth : ℕ → ℕ → Question
  statistics : Question
  search : ℕ → Question

pub data Reply : Type 0 where
  refused : ℕ → Reply
  quoted : Option ℕ → Option ℕ → Option ℕ → Reply
  deep : ℕ → List Level → List Level → Reply
  counted : Stats → Reply
  found : Option (ℕ × ℕ) → Reply

unfoldable pub any_above : ℕ → List Level → Bool
any_above n [] = false
any_above n (v ∷ l) = ltb n v.total || any_above n l

abbrev pub spread : Option ℕ → Option ℕ → Option ℕ
spread none none = none
spread none (some a) = none
spread (some b) none = none
spread (some b) (some a) = some (a - b)

abbrev pub or_else : Option ℕ → Reply → Reply
or_else none r = r
or_else (some n) r = refused n

module _ {A : Type 0} where
  -- the highest bid, the lowest ask, the spread; depth for n levels in room places: asks ascending, then bids ascending
  unfoldable pub reply : Desk A → Question → Reply
  reply d quotes = let b = best d.book.bids in let a = best d.book.asks in quoted b a (spread b a)
  reply d (depth n room) =
      let a = levels d.book.asks in
      let b = reverse (levels d.book.bids) in
      or_else
      (first_of ((6, ltb room (length a + length b)) ∷ (7, any_above most a || any_above most b) ∷ []))
      (deep n a b)
  reply d statistics = counted d.stats
  reply d (search i) = found (lookup i d.book.bids (lookup i d.book.asks none))
