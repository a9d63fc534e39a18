-- What carrying an order out asks of storage, and what it does there. Assumes nothing.
use Rattle.std.specs.Prelude.{ℕ, ◌+◌, ◌-◌, ◌<◌, ◌≤◌, Bool, List, [], ◌∷◌, ◌≢◌, ◌≡◌, leb, length}
use Rattle.side.specs.Orders.{orders_in}
use Rattle.rules.specs.Rules.{Fill, last_price, last_quantity, outcome}
use Rattle.records.specs.Rows.{field, put}
use Rattle.models.specs.Readings.{side_of}
use Rattle.rows.specs.Rows.{fill_row, places, written}
use Rattle.arena.specs.Times.{times}
use Rattle.side.specs.Levels.{ups}
use Rattle.side.specs.Read.{levels_in}
use Rattle.survey.specs.declared.Taker.{Taker}
use Rattle.survey.specs.Makers.{CanMatch, gift}
use Rattle.survey.specs.Taker.{met_side, taker_of}
use Rattle.matching.specs.declared.Last.{Last}
use Rattle.matching.specs.declared.Progress.{Progress}
use Rattle.matching.specs.Thinned.{thinned}

-- the fills that the order u has among the makers stored; `room` and `fnd` make no difference to them
abbrev pub fills_made : Taker → List ℕ → List ℕ → ℕ → ℕ → (ℕ → Bool) → List (Fill (Unit {0}))
fills_made u rs lv n room fnd = (outcome (taker_of room u) (orders_in (met_side u) rs fnd lv n)).fills

-- the makers can be matched, and `out` has a place for each fill
pub record CanCarry (u : Taker) (rs lv : List ℕ) (n : ℕ) (out : List ℕ) : Type 0 where
  pub able : CanMatch rs lv n
  pub room : (room : ℕ) (fnd : ℕ → Bool) → length (fills_made u rs lv n room fnd) ≤ places fill_row out

-- the fills stand from the start of the buffer, and what lay beyond stays; each maker has less by what it gave, and nothing else changes in the records
pub record Carries (u : Taker) (rs lv : List ℕ) (n : ℕ) (out rs' out' : List ℕ) (last : Last) : Type 0 where
  pub fills : (room : ℕ) (fnd : ℕ → Bool) → out' ≡ written fill_row out 0 (fills_made u rs lv n room fnd)
  pub makers : (room : ℕ) (fnd : ℕ → Bool) → orders_in (met_side u) rs' fnd lv n ≡ thinned (taker_of room u) (orders_in (met_side u) rs fnd lv n)
  pub price : (room : ℕ) (fnd : ℕ → Bool) → last.price.0 ≡ last_price (fills_made u rs lv n room fnd)
  pub quantity : (room : ℕ) (fnd : ℕ → Bool) → last.qty.0 ≡ last_quantity (fills_made u rs lv n room fnd)
  pub columns : (g x : ℕ) → g < 5 → g ≢ 1 → field rs' g x ≡ field rs g x
  pub others : (x : ℕ) → 1 ≤ x → times x (ups (levels_in rs lv n)) ≡ 0 → field rs' 1 x ≡ field rs 1 x
  pub long : length rs' ≡ length rs

-- ## One maker

-- its fill, where the order still wants w
abbrev pub fill_at : Taker → List ℕ → ℕ → ℕ → Fill (Unit {0})
fill_at u rs w c =
    record {
      taker = u.id.0;
      maker = field rs 0 c;
      quantity = gift rs w c;
      price = field rs 2 c;
      side = side_of u.side;
      whole = leb (field rs 1 c) w;
      tag = tt;
    }

-- the walk once the maker at code c has given
abbrev pub gone : List ℕ → ℕ → Progress → Progress
gone rs c p =
    let g = gift rs p.left.0 c in
    record {
      left = record { 0 = p.left.0 - g };
      fills = p.fills + 1;
      last = record { price = record { 0 = field rs 2 c }; qty = record { 0 = g } };
    }

pub record Gives (u : Taker) (c : ℕ) (p : Progress) (rs out rs' out' : List ℕ) (p' : Progress) : Type 0 where
  pub lowered : rs' ≡ put rs 1 c (field rs 1 c - gift rs p.left.0 c)
  pub filled : out' ≡ written fill_row out p.fills (fill_at u rs p.left.0 c ∷ [])
  pub progress : p' ≡ gone rs c p
