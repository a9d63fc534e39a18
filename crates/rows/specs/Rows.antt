-- Fills and levels as rows of numbers in a lent list. A place is a whole row; a rest too short for a row is no place.
-- Assumes nothing.
use Rattle.std.specs.Prelude.{ℕ, zero, suc, ◌+◌, ◌*◌, ◌/◌, ◌%◌, ◌≤◌, ◌≡◌, Bool, cond, List, [], ◌∷◌, ◌++◌, eqb, length, get_or, take, drop}
use Rattle.rules.specs.Rules as rule
use Rattle.rules.specs.Whole.{one}
use Rattle.models.specs.declared.BookDepth.{BookDepth}

-- how an X stands in a row: so many numbers; which they are; and what the numbers at the front of a list mean
pub record RowForm (X : Type 0) : Type 0 where
  pub width : ℕ
  pub write : X → List ℕ
  pub read : List ℕ → X

-- what is written takes up its width, and reads back
pub record Faithful {X : Type 0} (r : RowForm X) : Type 0 where
  pub long : (x : X) → length (r.write x) ≡ r.width
  pub back : (x : X) (l : List ℕ) → r.read (r.write x ++ l) ≡ x

module _ {X : Type 0} (r : RowForm X) where
  -- how many places a list has
  abbrev pub places : List ℕ → ℕ
  places l = length l / r.width

  -- it has a place i
  abbrev pub Place : List ℕ → ℕ → Type 0
  Place l i = i * r.width + r.width ≤ length l

  -- what stands in place i
  abbrev pub row_at : List ℕ → ℕ → X
  row_at l i = r.read (drop (i * r.width) l)

  -- what stands in the first n places
  unfoldable pub listed : List ℕ → ℕ → List X
  listed l zero = []
  listed l (suc n) = r.read l ∷ listed (drop r.width l) n

  -- rows one behind another
  unfoldable pub laid : List X → List ℕ
  laid [] = []
  laid (x ∷ xs) = r.write x ++ laid xs

  -- the list l once the xs are written to it from place n on: what lies before and beyond is kept
  unfoldable pub written : List ℕ → ℕ → List X → List ℕ
  written l n xs = take (n * r.width) l ++ laid xs ++ drop ((n + length xs) * r.width) l

-- side and use in one number: bid 0, ask 2, plus 1 if the maker was used up; of any number only the two lowest bits count
abbrev pub number_of_side : rule.Side → ℕ
number_of_side rule.bid = 0
number_of_side rule.ask = 2

abbrev pub side_numbered : ℕ → rule.Side
side_numbered v = cond (eqb (v / 2 % 2) 0) rule.bid rule.ask

abbrev pub whole_in : ℕ → Bool
whole_in v = eqb (v % 2) 1

-- a fill: taker, maker, quantity, price, side and use
abbrev pub fill_row : RowForm (rule.Fill (Unit {0}))
fill_row =
    record {
      width = 5;
      write = λ f. f.taker ∷ f.maker ∷ f.quantity ∷ f.price ∷ (number_of_side f.side + one f.whole) ∷ [];
      read = λ l. record {
        taker = get_or l 0 0;
        maker = get_or l 1 0;
        quantity = get_or l 2 0;
        price = get_or l 3 0;
        side = side_numbered (get_or l 4 0);
        whole = whole_in (get_or l 4 0);
        tag = tt;
      };
    }

-- a level: price, total
abbrev pub level_row : RowForm rule.Level
level_row = record { width = 2; write = λ v. v.price ∷ v.total ∷ []; read = λ l. record { price = get_or l 0 0; total = get_or l 1 0 } }

-- depth, with the lent list: asks from its start, bids from the first free place after them
abbrev pub depth_of : List ℕ → BookDepth → rule.Reply
depth_of l d = rule.deep d.levels (listed level_row l d.asks) (listed level_row (drop (d.asks * level_row.width) l) d.bids)
