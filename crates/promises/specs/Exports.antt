-- What the contracts of the exported calls promise together: when two outcomes of an export agree, and the histories of exports. By
-- `exported_reached` (proofs/Exports.antt) such a history is one of public calls; so for callers from C and Rust demand 1 is `reached_whole`, demand 2
-- `follows2` and demand 3 `follows3`, at the stock and the statistics that the lent numbers stand for. Assumes nothing.
use Rattle.std.specs.Prelude.{ℕ, ◌≡◌, not, List, [], ◌∷◌, T, eqb, set}
use Rattle.std.proofs.Math.Option.{Option, none, some}
use Rattle.std.specs.Float.{binary64}
use Rattle.std.specs.Float.Ieee.{fits}
use Rattle.rules.specs.Rules as rule
use Rattle.models.specs.declared.OrderType.{OrderType}
use Rattle.desk.specs.Stock.{read_desk}
use Rattle.numbers.specs.Numbers.{book_in, statistics_in, yes}
use Rattle.ledger.specs.Stock.{stock}
use Rattle.ffi.specs.Exports.{Carried, OpenedAs}
use Rattle.promises.specs.History.{call_with}

-- the desk that the twelve numbers d and the four lists read as
abbrev pub desk_at : List ℕ → List ℕ → List ℕ → List ℕ → List ℕ → rule.Desk (Unit {0})
desk_at d rs bd ak se = read_desk (stock (book_in d) rs bd ak se) (statistics_in d)

-- the twelve numbers but the first free code, the one that is left to placement
abbrev pub but_free : List ℕ → List ℕ
but_free d = set d 1 0

-- the last trade's average, if there is one, is a double: so it is its bits' value
abbrev pub HasDouble : Option rule.Trade → Type 0
HasDouble none = Unit {0}
HasDouble (some t) = T (fits binary64 t.average)

-- ---- one outcome

-- what two outcomes leave reads alike, and is the same twelve numbers but for the first free code
pub record SameNumbers (d₁ rs₁ bd₁ ak₁ se₁ d₂ rs₂ bd₂ ak₂ se₂ : List ℕ) : Type 0 where
  pub desk : desk_at d₁ rs₁ bd₁ ak₁ se₁ ≡ desk_at d₂ rs₂ bd₂ ak₂ se₂
  pub numbers : but_free d₁ ≡ but_free d₂

-- two outcomes of an exported order or cancel
pub record AgreeCarried (n₁ : ℕ) (d₁ rs₁ bd₁ ak₁ se₁ out₁ an₁ : List ℕ) (n₂ : ℕ) (d₂ rs₂ bd₂ ak₂ se₂ out₂ an₂ : List ℕ) : Type 0 where
  pub result : n₁ ≡ n₂
  pub answer : an₁ ≡ an₂
  pub left : SameNumbers d₁ rs₁ bd₁ ak₁ se₁ d₂ rs₂ bd₂ ak₂ se₂
  pub buffer : out₁ ≡ out₂

-- ---- histories

-- The twelve numbers and the four lists after the history h of exports, the latest call first. A call of another export, or with a wrong side, changes
-- nothing of them and is no step; a refused order is one, and its desk is the rules' too.
pub data Exported : List (rule.Call (Unit {0})) → List ℕ → List ℕ → List ℕ → List ℕ → List ℕ → Type 0 where
  -- felavuti_fresh, accepted
  begun : {d rs bd ak se d' rs' bd' ak' se' : List ℕ} → OpenedAs d rs bd ak se 0 d' rs' bd' ak' se' → Exported [] d' rs' bd' ak' se'
  -- felavuti_market, felavuti_limit, felavuti_cancel (out is [])
  called : {h : List (rule.Call (Unit {0}))} {d rs bd ak se out an d' rs' bd' ak' se' out' an' : List ℕ} {n : ℕ} (o : OrderType) → Exported h d rs bd ak se
      → Carried (call_with out o) d rs bd ak se out an n d' rs' bd' ak' se' out' an' → Exported (call_with out o ∷ h) d' rs' bd' ak' se'
  -- felavuti_track_stats
  switched : {h : List (rule.Call (Unit {0}))} {d rs bd ak se d' : List ℕ} (on : ℕ) → Exported h d rs bd ak se → d' ≡ set d 4 (yes (not (eqb on 0)))
      → Exported (rule.tracking (not (eqb on 0)) ∷ h) d' rs bd ak se
