-- What the rules make of an order or a cancel on a stored book, with the buffer lent for fills. Assumes nothing.
use Rattle.std.specs.Prelude.{ℕ, ◌≡◌, List, [], Result, Ok, Err}
use Rattle.rules.specs.Rules as rule
use Rattle.stats.specs.declared.Statistics.{Statistics}
use Rattle.models.specs.declared.OrderEvent.{OrderEvent}
use Rattle.models.specs.declared.Refusal.{Refusal}
use Rattle.models.specs.Readings.{event_of, refusal_number}
use Rattle.rows.specs.Rows.{fill_row, written}
use Rattle.ledger.specs.Stock.{Stock}
use Rattle.desk.specs.Stock.{read_desk}

-- document 01's number or event of an answer, with its fills
abbrev pub answer_of : Result OrderEvent Refusal → List (rule.Fill (Unit {0})) → rule.Answer (Unit {0})
answer_of (Err r) l = rule.Answer.refused (refusal_number r)
answer_of (Ok e) l = rule.done (event_of e) l

-- What the rules make of the call c on the stock k, with the statistics st and the buffer out for fills: the answer a, and what stands afterwards.
-- P is what is known of the stock afterwards.
pub data Performs (P : Stock → Type 0) (z : rule.Size) (c : rule.Call (Unit {0})) (k : Stock) (st : Statistics) (out : List ℕ)
    (a : Result OrderEvent Refusal) (k' : Stock) (st' : Statistics) (out' : List ℕ) : Type 0 where
  -- a refusal by the rules: its number and no other result; nothing changes
  refused : (n : ℕ) → (rule.perform z (read_desk k st) c).answer ≡ rule.Answer.refused n → answer_of a [] ≡ rule.Answer.refused n
      → k' ≡ k → st' ≡ st → out' ≡ out → Performs P z c k st out a k' st' out'
  -- carried out as the rules say: event, fills, book and statistics; the fills stand in the buffer, and what lies beyond them keeps its value
  carried : (e : rule.Event) (l : List (rule.Fill (Unit {0}))) → (rule.perform z (read_desk k st) c).answer ≡ rule.done e l → answer_of a l ≡ rule.done e l
      → read_desk k' st' ≡ (rule.perform z (read_desk k st) c).desk → P k' → out' ≡ written fill_row out 0 l → Performs P z c k st out a k' st' out'
