-- What a tape comes to: its orders are carried out one after another on a desk, and what the desk says of each is a text. Assumes nothing.
use Rattle.std.specs.Prelude.{ℕ, List, [], ◌∷◌, ◌++◌, ◌⊎◌, ◌≡◌}
use Rattle.rules.specs.Rules as rule
use Rattle.models.specs.declared.OrderType.{OrderType}
use Rattle.models.specs.Readings.{call_of}
use Rattle.tape.specs.Tape.{Ending, ended, stopped, Reading, read_tape}
use Rattle.text.specs.Text.{event_line, fill_line, refused_line, stopped_line}

-- ---- the desk

-- what the rules make of an order on the desk d of size z, with a place for a fill of every order that can rest
abbrev pub result : rule.Size → rule.Desk (Unit {0}) → OrderType → rule.Result (Unit {0})
result z d o = rule.perform z d (call_of z.orders o)

-- the desk after some orders, and what it answered to each
unfoldable pub after : rule.Size → rule.Desk (Unit {0}) → List OrderType → rule.Desk (Unit {0})
after z d [] = d
after z d (o ∷ os) = after z (result z d o).desk os

unfoldable pub answers : rule.Size → rule.Desk (Unit {0}) → List OrderType → List (rule.Answer (Unit {0}))
answers z d [] = []
answers z d (o ∷ os) = (result z d o).answer ∷ answers z (result z d o).desk os

-- ---- text

unfoldable pub fill_lines : List (rule.Fill (Unit {0})) → List ℕ
fill_lines [] = []
fill_lines (f ∷ l) = fill_line f ++ fill_lines l

-- an answer: its line, and a line a fill
abbrev pub answer_text : rule.Answer (Unit {0}) → List ℕ
answer_text (rule.Answer.refused n) = refused_line n
answer_text (rule.done e l) = event_line e ++ fill_lines l
answer_text rule.switched = []

unfoldable pub answers_text : List (rule.Answer (Unit {0})) → List ℕ
answers_text [] = []
answers_text (a ∷ l) = answer_text a ++ answers_text l

-- a bad field ends the tape with a line
abbrev pub ending_text : Ending → List ℕ
ending_text ended = []
ending_text (stopped n at) = stopped_line n at

-- ---- a tape

-- what was read of a tape, at the desk d: the whole text
abbrev pub text_of : rule.Size → rule.Desk (Unit {0}) → Reading → List ℕ
text_of z d r = answers_text (answers z d r.orders) ++ ending_text r.ending

-- the text of a tape at the base's fresh desk, whose tracking is off; and the desk at the tape's end
abbrev pub tape_text : List ℕ → List ℕ
tape_text l = text_of rule.hall rule.fresh (read_tape l)

abbrev pub tape_desk : List ℕ → rule.Desk (Unit {0})
tape_desk l = after rule.hall rule.fresh (read_tape l).orders

-- ---- refusals

-- an answer that a tape's order can get: where it is a refusal, 4 or 5
abbrev pub Possible : rule.Answer (Unit {0}) → Type 0
Possible (rule.Answer.refused n) = (n ≡ 4) ⊎ (n ≡ 5)
Possible (rule.done e l) = Unit
Possible rule.switched = Unit
