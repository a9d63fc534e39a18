-- Document 02's own examples, by computation: the tapes of T1 to T4 and of T1 to T12, and a bad field. Assumes nothing.
use Prim.Native.Nat.{ℕ}
use mathlib.Core.Path.{◌≡◌, refl}
use mathlib.Core.Bool.{true}
use mathlib.Core.List.{List, [], ◌∷◌, ◌++◌}
use lib.Ieee.{round, units, size, odd, span, climb}
use Rattle.rules.specs.Rules as rule
use Rattle.rules.specs.Rules.{keep, matching, place, only, levels, occupied, lookup, total, worth, last_price, last_quantity, average, stats_after, too_large, outcome, checks, refusal, carried, first_of, perform}
use Rattle.models.specs.declared.Side.{Side}
use Rattle.models.specs.declared.Side.TheVariants.{Bid, Ask}
use Rattle.models.specs.declared.OrderType.{OrderType}
use Rattle.models.specs.declared.OrderType.TheVariants.{Market, Limit, Cancel}
use Rattle.fields.specs.Bytes.{number, bytes}
use Rattle.fields.specs.Fields.{field}
use Rattle.tape.specs.Orders as orders
use Rattle.tape.specs.Orders.{length_of, order_in, item, field_of}
use Rattle.tape.specs.Tape.{read_up_to, tape_of}
use Rattle.text.specs.Text.{spelled, digits_of}
use Rattle.feed.specs.Feed.{fill_lines, after, answers, answers_text, tape_text, tape_desk}

abbrev limit : ℕ → Side → ℕ → ℕ → OrderType
limit i s q p = Limit (record { 0 = i }) s (record { 0 = q }) (record { 0 = p })

abbrev market : ℕ → Side → ℕ → OrderType
market i s q = Market (record { 0 = i }) s (record { 0 = q })

abbrev cancel : ℕ → OrderType
cancel i = Cancel (record { 0 = i })

abbrev at : ℕ → ℕ → ℕ → rule.Order (Unit {0})
at i q p = record { id = i; quantity = q; price = p; found = true; tag = tt }

-- T1 to T4
abbrev four : List OrderType
four = limit 1 Ask 10 105 ∷ limit 2 Ask 5 103 ∷ limit 3 Ask 7 103 ∷ limit 4 Bid 8 104 ∷ []

-- T5 to T12
abbrev eight : List OrderType
eight = limit 5 Bid 6 103 ∷ market 6 Bid 12 ∷ market 7 Bid 1 ∷ cancel 1 ∷ limit 8 Ask 0 1 ∷ market 10 Ask 0 ∷ limit 9 Ask 1 103 ∷ cancel 5 ∷ []

-- the six lines, and the desk that is left
pub four_lines : (tape_text (tape_of four) ≡ spelled "Placed 1\nPlaced 2\nPlaced 3\nFilled 4 8 2\nfill 2 5 103 whole\nfill 3 3 103 part\n")
    × ((tape_desk (tape_of four)).book.asks ≡ at 3 4 103 ∷ at 1 10 105 ∷ [])
unfolding keep matching place only levels occupied lookup total worth last_price last_quantity average stats_after too_large outcome rule.checks refusal carried first_of perform round units size odd span climb number bytes field length_of order_in orders.checks item field_of read_up_to tape_of digits_of fill_lines after answers answers_text
four_lines = (refl, refl)

-- the whole day: T1 to T12
pub day_lines : tape_text (tape_of (four ++ eight))
    ≡ spelled "Placed 1\nPlaced 2\nPlaced 3\nFilled 4 8 2\nfill 2 5 103 whole\nfill 3 3 103 part\nPartiallyFilled 5 4 1\nfill 3 4 103 whole\nPartiallyFilled 6 10 1\nfill 1 10 105 whole\nUnfilled 7\nCanceled 1\nPlaced 8\nUnfilled 10\nFilled 9 1 1\nfill 5 1 103 part\nCanceled 5\n"
unfolding keep matching place only levels occupied lookup total worth last_price last_quantity average stats_after too_large outcome rule.checks refusal carried first_of perform round units size odd span climb number bytes field length_of order_in orders.checks item field_of read_up_to tape_of digits_of fill_lines after answers answers_text
day_lines = refl

-- a cancel of 7, and then a field of each bad kind, at 11: a tag without a length, an unknown tag, a wrong length for the tag, a value cut off, a side above 1;
-- where several are wrong, the first in this order is said; and what follows a bad field isn't read
abbrev then : List ℕ → List ℕ
then l = tape_text (tape_of (cancel 7 ∷ []) ++ l)

pub bad_fields : (then (3 ∷ 0 ∷ []) ≡ spelled "Canceled 7\nRefused 11 at 11\n")
    × (then (4 ∷ 0 ∷ 9 ∷ []) ≡ spelled "Canceled 7\nRefused 8 at 11\n")
    × (then (1 ∷ 0 ∷ 16 ∷ []) ≡ spelled "Canceled 7\nRefused 9 at 11\n")
    × (then (3 ∷ 0 ∷ 8 ∷ 0 ∷ 0 ∷ []) ≡ spelled "Canceled 7\nRefused 11 at 11\n")
    × (then (1 ∷ 0 ∷ 17 ∷ 0 ∷ 0 ∷ 0 ∷ 0 ∷ 0 ∷ 0 ∷ 0 ∷ 1 ∷ 2 ∷ 0 ∷ 0 ∷ 0 ∷ 0 ∷ 0 ∷ 0 ∷ 0 ∷ 1 ∷ []) ≡ spelled "Canceled 7\nRefused 10 at 11\n")
    × (then (1 ∷ 0 ∷ 17 ∷ 0 ∷ 0 ∷ 0 ∷ 0 ∷ 0 ∷ 0 ∷ 0 ∷ 1 ∷ 2 ∷ []) ≡ spelled "Canceled 7\nRefused 11 at 11\n")
    × (then (0 ∷ 0 ∷ 1 ∷ 3 ∷ tape_of (cancel 7 ∷ [])) ≡ spelled "Canceled 7\nRefused 8 at 11\n")
unfolding keep matching place only levels occupied lookup total worth last_price last_quantity average stats_after too_large outcome rule.checks refusal carried first_of perform round units size odd span climb number bytes field length_of order_in orders.checks item field_of read_up_to tape_of digits_of fill_lines after answers answers_text
bad_fields = (refl, refl, refl, refl, refl, refl, refl)
