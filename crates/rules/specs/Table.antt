-- The trading day of document 01, T1 to T12, with D1 and D2, as one list. `replayed` works every answer out again by the rules.
-- Assumes nothing.
use Rattle.std.specs.Prelude.{ℕ, Bool, true, false, List, [], ◌∷◌, pos}
use Rattle.std.proofs.Math.Option.{none, some}
use Rattle.std.specs.Float.{fin}
use Rattle.rules.specs.Rules.{Side, bid, ask, Kind, market, limit, Order, Fill, Level, Desk, Call, order, cancel, tracking}
use Rattle.rules.specs.Rules.{unfilled, placed, canceled, partially_filled, filled, Answer, done, switched, hall, perform, fresh}
use Rattle.rules.specs.Rules.{Question, quotes, depth, statistics, search, Reply, quoted, deep, counted, found, reply}

pub data Row : Type 0 where
  fresh_book : Row
  does : Call (Unit {0}) → Answer (Unit {0}) → Row
  tells : Question → Reply → Row
  -- the orders that rest: bids, then asks
  stands : List (Order (Unit {0})) → List (Order (Unit {0})) → Row

unfoldable pub replayed : Desk (Unit {0}) → List Row → List Row
replayed d [] = []
replayed d (fresh_book ∷ l) = fresh_book ∷ replayed fresh l
replayed d (does c a ∷ l) = does c (perform hall d c).answer ∷ replayed (perform hall d c).desk l
replayed d (tells q r ∷ l) = tells q (reply d q) ∷ replayed d l
replayed d (stands b a ∷ l) = stands d.book.bids d.book.asks ∷ replayed d l

-- an order with five places lent for its fills
abbrev pub enter : Side → Kind → ℕ → ℕ → Call (Unit {0})
enter s k i q = order (record { side = s; kind = k; id = i; quantity = q; room = 5; tag = tt })

-- taker's side and id; maker, quantity, price, whole or part
abbrev pub took : Side → ℕ → ℕ → ℕ → ℕ → Bool → Fill (Unit {0})
took s t m q p w = record { taker = t; maker = m; quantity = q; price = p; side = s; whole = w; tag = tt }

-- an order at rest: id, quantity, price, whether it is the one found under its id
abbrev pub at : ℕ → ℕ → ℕ → Bool → Order (Unit {0})
at i q p f = record { id = i; quantity = q; price = p; found = f; tag = tt }

abbrev pub level : ℕ → ℕ → Level
level p q = record { price = p; total = q }

abbrev pub figures : ℕ → ℕ → ℕ → ℕ → ℕ → Reply
figures v q a p n = counted (record { tracking = true; volume = v; last = some (record { quantity = q; average = fin false a (pos 0); whole_average = a; last_price = p; last_quantity = n }) })

unfoldable pub table : List Row
table =
    fresh_book ∷
    does (tracking true) switched ∷
    -- T1 to T3
    does (enter ask (limit 105) 1 10) (done (placed 1) []) ∷
    does (enter ask (limit 103) 2 5) (done (placed 2) []) ∷
    does (enter ask (limit 103) 3 7) (done (placed 3) []) ∷
    tells quotes (quoted none (some 103) none) ∷
    stands [] (at 2 5 103 true ∷ at 3 7 103 true ∷ at 1 10 105 true ∷ []) ∷
    -- T4
    does (enter bid (limit 104) 4 8) (done (filled 4 8 2) (took bid 4 2 5 103 true ∷ took bid 4 3 3 103 false ∷ [])) ∷
    tells statistics (figures 8 8 103 103 3) ∷
    stands [] (at 3 4 103 true ∷ at 1 10 105 true ∷ []) ∷
    -- T5
    does (enter bid (limit 103) 5 6) (done (partially_filled 5 4 1) (took bid 5 3 4 103 true ∷ [])) ∷
    tells quotes (quoted (some 103) (some 105) (some 2)) ∷
    tells statistics (figures 12 4 103 103 4) ∷
    stands (at 5 2 103 true ∷ []) (at 1 10 105 true ∷ []) ∷
    -- T6
    does (enter bid market 6 12) (done (partially_filled 6 10 1) (took bid 6 1 10 105 true ∷ [])) ∷
    tells statistics (figures 22 10 105 105 10) ∷
    stands (at 5 2 103 true ∷ []) [] ∷
    -- T7: the statistics stay
    does (enter bid market 7 1) (done (unfilled 7) []) ∷
    tells statistics (figures 22 10 105 105 10) ∷
    stands (at 5 2 103 true ∷ []) [] ∷
    -- T8: nothing changes
    does (cancel 1) (done (canceled 1) []) ∷
    tells quotes (quoted (some 103) none none) ∷
    tells statistics (figures 22 10 105 105 10) ∷
    stands (at 5 2 103 true ∷ []) [] ∷
    -- T9: nothing rests
    does (enter ask (limit 1) 8 0) (done (placed 8) []) ∷
    tells statistics (figures 22 10 105 105 10) ∷
    stands (at 5 2 103 true ∷ []) [] ∷
    -- T10
    does (enter ask market 10 0) (done (unfilled 10) []) ∷
    tells statistics (figures 22 10 105 105 10) ∷
    stands (at 5 2 103 true ∷ []) [] ∷
    -- T11
    does (enter ask (limit 103) 9 1) (done (filled 9 1 1) (took ask 9 5 1 103 false ∷ [])) ∷
    tells statistics (figures 23 1 103 103 1) ∷
    stands (at 5 1 103 true ∷ []) [] ∷
    -- T12: both sides empty
    does (cancel 5) (done (canceled 5) []) ∷
    tells quotes (quoted none none none) ∷
    tells statistics (figures 23 1 103 103 1) ∷
    stands [] [] ∷
    -- D1
    fresh_book ∷
    does (enter bid (limit 50) 7 3) (done (placed 7) []) ∷
    does (enter bid (limit 49) 7 4) (done (placed 7) []) ∷
    stands (at 7 3 50 false ∷ at 7 4 49 true ∷ []) [] ∷
    tells (search 7) (found (some (49, 4))) ∷
    does (cancel 7) (done (canceled 7) []) ∷
    stands (at 7 3 50 false ∷ []) [] ∷
    tells (search 7) (found none) ∷
    does (cancel 7) (done (canceled 7) []) ∷
    stands (at 7 3 50 false ∷ []) [] ∷
    does (enter ask market 8 3) (done (filled 8 3 1) (took ask 8 7 3 50 true ∷ [])) ∷
    stands [] [] ∷
    -- D2
    fresh_book ∷
    does (enter bid (limit 10) 1 5) (done (placed 1) []) ∷
    does (enter bid (limit 11) 2 2) (done (placed 2) []) ∷
    does (enter bid (limit 10) 3 3) (done (placed 3) []) ∷
    does (enter ask (limit 20) 4 1) (done (placed 4) []) ∷
    tells (depth 1 3) (deep 1 (level 20 1 ∷ []) (level 10 8 ∷ level 11 2 ∷ [])) ∷
    tells (depth 1 2) (Reply.refused 6) ∷
    []
