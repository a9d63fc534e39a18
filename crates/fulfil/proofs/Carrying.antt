-- What an order comes to by the rules, in the terms of the doors: carried out, with a remainder that rests or not. Assumes nothing.
use Prim.Native.Nat.{ℕ, zero, suc}
use mathlib.Core.Path.{◌≡◌, refl}
use mathlib.Core.Bool.{true}
use mathlib.Core.List.{List, map}
use mathlib.Core.Option as maybe
use Rattle.std.specs.Prelude.{Option, Some, None}
use Rattle.rules.specs.Rules as rule
use Rattle.rules.specs.Rules.{Book, Desk, Order, Outcome, book, carried, hide, makers, outcome, own, standing}
use Rattle.stats.specs.declared.Statistics.{Statistics}
use Rattle.models.specs.declared.Price.{Price}
use Rattle.models.specs.Readings.{side_of}
use Rattle.stats.specs.Statistics.{statistics_of}
use Rattle.ledger.specs.Doors.{rest_in}
use Rattle.survey.specs.declared.Taker.{Taker}
use Rattle.survey.specs.Taker.{taker_of, kind_of}
use Rattle.order.specs.Decided.{remains}

module _ (room : ℕ) (t : Taker) (b : Book (Unit {0})) (st : Statistics) where
  abbrev d : Desk (Unit {0})
  d = record { book = b; stats = statistics_of st }

  abbrev u : rule.Taker (Unit {0})
  u = taker_of room t

  abbrev o : Outcome (Unit {0})
  o = outcome u (makers u d)

  -- the book once the makers have given, and those used up have left
  abbrev pub traded : Book (Unit {0})
  traded = book (side_of t.side) (own (side_of t.side) b) o.left

  -- the price at which a remainder rests, as the rules have it
  abbrev rests_at : Option Price → maybe.Option ℕ
  rests_at None = maybe.none
  rests_at (Some p) = maybe.some p.0

  standing_is : (l : Option Price) (r : ℕ) → standing (kind_of l) r ≡ rests_at (remains l r)
  standing_is None zero = refl
  standing_is None (suc r) = refl
  standing_is (Some p) zero = refl
  standing_is (Some p) (suc r) = refl

  -- a remainder rests
  pub carried_rests : (p : Price) → remains t.limit o.rest ≡ Some p → (carried d u).desk.book ≡ rest_in (side_of t.side) t.id.0 o.rest p.0 traded
  unfolding carried
  carried_rests p e = rw (standing_is t.limit o.rest, e) (go (side_of t.side) (own (side_of t.side) b) o.left)
    where
      go : (s : rule.Side) (l k : List (Order (Unit {0})))
          → book s (rule.place s (record { id = t.id.0; quantity = o.rest; price = p.0; found = true; tag = tt }) (map (hide t.id.0) l))
          (map (hide t.id.0) k)
          ≡ rest_in s t.id.0 o.rest p.0 (book s l k)
      go rule.bid l k = refl
      go rule.ask l k = refl

  -- or nothing rests
  pub carried_lapses : remains t.limit o.rest ≡ None → (carried d u).desk.book ≡ traded
  unfolding carried
  carried_lapses e = rw (standing_is t.limit o.rest, e)
