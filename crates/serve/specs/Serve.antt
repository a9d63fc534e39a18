-- The desk at one field of a tape, in the terms of the rules. Assumes nothing.
use Rattle.std.specs.Prelude.{ℕ, ◌+◌, ◌≡◌, List, [], drop}
use Rattle.overlay.specs.Over.{Put}
use Rattle.rules.specs.Rules as rule
use Rattle.models.specs.declared.OrderType.{OrderType}
use Rattle.rows.specs.Rows.{fill_row, places}
use Rattle.stats.specs.declared.Statistics.{Statistics}
use Rattle.ledger.specs.Stock.{Stock}
use Rattle.whole.specs.Whole.{WholeStock}
use Rattle.desk.specs.Stock.{read_desk}
use Rattle.tape.specs.Orders.{order, refused, nothing, item}
use Rattle.text.specs.Text.{stopped_line}
use Rattle.feed.specs.Feed.{answer_text, result}
use Rattle.serve.specs.declared.State.{State}
use Rattle.serve.specs.declared.State.TheVariants.{Going, Stopped, Ended}

-- ---- what stands beside the tape

-- the stored book, its statistics, and the rows for fills
pub record Keeping : Type 0 where
  pub stock : Stock
  pub statistics : Statistics
  pub fills : List ℕ

abbrev pub keeping : Stock → Statistics → List ℕ → Keeping
keeping k st rows = record { stock = k; statistics = st; fills = rows }

abbrev pub desk_of : Keeping → rule.Desk (Unit {0})
desk_of x = read_desk x.stock x.statistics

-- ready for an order: a whole book, and a row for a fill of every order that can rest
pub record Ready (z : rule.Size) (x : Keeping) : Type 0 where
  pub whole : WholeStock z x.stock
  pub roomy : places fill_row x.fills ≡ z.orders

-- ---- one field

-- the order o was carried out and answered as the definition of a tape has it, and the desk is ready again
pub record Follows (z : rule.Size) (x : Keeping) (o : OrderType) (said : List ℕ) (x' : Keeping) : Type 0 where
  pub text : said ≡ answer_text (result z (desk_of x) o).answer
  pub desk : desk_of x' ≡ (result z (desk_of x) o).desk
  pub ready : Ready z x'

-- The bytes w begin at the offset `base` of the tape. What the field at their place `at` makes of the desk: what is said, whether the tape goes on, and from
-- which place.
pub data Stepped (z : rule.Size) (w : List ℕ) (base at : ℕ) (x : Keeping) : List ℕ → State → ℕ → Keeping → Type 0 where
  -- there is none: the tape ends
  ended : item (drop at w) ≡ nothing → Stepped z w base at x [] Ended at x
  -- a bad one: it is said with its offset, and ends the tape
  stopped : {n : ℕ} → item (drop at w) ≡ refused n → Stepped z w base at x (stopped_line n (base + at)) Stopped at x
  -- an order
  went : (o : OrderType) {k : ℕ} {said : List ℕ} {x' : Keeping} → item (drop at w) ≡ order o k → Follows z x o said x'
      → Stepped z w base at x said Going (at + k) x'

-- the contract of a step: what was said stands in the buffer out from the place `to` up to the place `behind`
pub record Step (z : rule.Size) (w : List ℕ) (base at : ℕ) (x : Keeping) (out : List ℕ) (to : ℕ) (s : State) (next behind : ℕ) (x' : Keeping) (out' : List ℕ)
    : Type 0 where
  pub said : List ℕ
  pub stepped : Stepped z w base at x said s next x'
  pub put : Put out to said out' behind
