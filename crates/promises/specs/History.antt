-- Books reached from a fresh one by public calls, each step meeting its contract; and the demands as they read for such books. Assumes nothing.
use Rattle.std.specs.Prelude.{ℕ, ◌≡◌, Bool, true, List, [], ◌∷◌, take, Result, Ok}
use Rattle.rules.specs.Rules as rule
use Rattle.rules.specs.Turns.{Demand2}
use Rattle.rules.specs.Late.{plain, fills_of, rests, turn, share, answer_to}
use Rattle.models.specs.declared.OrderType.{OrderType}
use Rattle.models.specs.declared.OrderEvent.{OrderEvent}
use Rattle.stats.specs.declared.Statistics.{Statistics}
use Rattle.models.specs.Readings.{call_of}
use Rattle.rows.specs.Rows.{fill_row, places, written}
use Rattle.models.specs.declared.Refusal.{Refusal}
use Rattle.ledger.specs.Stock.{Stock}
use Rattle.desk.specs.Stock.{read_desk}
use Rattle.desk.specs.Performs.{answer_of}
use Rattle.calls.specs.Calls.{Executes, Begins}

-- an order, with the buffer lent for its fills, as a call of the rules
abbrev pub call_with : List ℕ → OrderType → rule.Call (Unit {0})
call_with out o = call_of (places fill_row out) o

abbrev pub switch : Bool → Statistics → Statistics
switch b st = record { tracking = b; volume = st.volume; last = st.last }

-- the stock k and the statistics st after the history h of public calls, the latest call first
pub data Reached (z : rule.Size) : List (rule.Call (Unit {0})) → Stock → Statistics → Type 0 where
  begun : {k : Stock} {st : Statistics} → Begins z k st → Reached z [] k st
  called : {h : List (rule.Call (Unit {0}))} {k k' : Stock} {st st' : Statistics} {out out' : List ℕ} {a : Result OrderEvent Refusal} (o : OrderType) → Reached z h k st
      → Executes z (call_with out o) k st out a k' st' out' → Reached z (call_with out o ∷ h) k' st'
  switched : {h : List (rule.Call (Unit {0}))} {k : Stock} {st : Statistics} (b : Bool) → Reached z h k st
      → Reached z (rule.tracking b ∷ h) k (switch b st)

-- the fills of the call c on the desk d
abbrev pub fills_by : rule.Size → rule.Desk (Unit {0}) → rule.Call (Unit {0}) → List (rule.Fill (Unit {0}))
fills_by z d c = fills_of (rule.perform z d c).answer

-- the answer is the rules' answer, and the buffer has its fills (a refusal has none, and keeps the buffer)
pub record Answers (z : rule.Size) (c : rule.Call (Unit {0})) (d : rule.Desk (Unit {0})) (out : List ℕ) (a : Result OrderEvent Refusal) (out' : List ℕ) : Type 0 where
  pub same : answer_of a (fills_by z d c) ≡ (rule.perform z d c).answer
  pub buffer : out' ≡ written fill_row out 0 (fills_by z d c)

-- demand 2 for the code: the fills stand in the buffer, and answer, book and statistics are what demand 2 asks
pub record Follows2 (t : rule.Taker (Unit {0})) (k : Stock) (st : Statistics) (out : List ℕ) (a : Result OrderEvent Refusal) (k' : Stock) (st' : Statistics) (out' : List ℕ)
    : Type 0 where
  pub fills : List (rule.Fill (Unit {0}))
  pub buffer : out' ≡ written fill_row out 0 fills
  pub follows : Demand2 (read_desk k st) t (record { desk = read_desk k' st'; answer = answer_of a fills })

-- Demand 3 for the code: X rests after the histories h and k (marked as in the rules' statement), whose books are reached by public calls; the same order
-- c comes to both, with equal room. a and b are its answers, l and m its fills (they stand in the buffers: `Answers`), d and e the desks afterwards.
pub record Follows3 (z : rule.Size) (h k : List (rule.Call Bool)) (c : rule.Call (Unit {0})) (a b : Result OrderEvent Refusal) (l m : List (rule.Fill (Unit {0})))
    (d e : rule.Desk (Unit {0})) : Type 0 where
  -- X stays or leaves alike
  pub leaves : rests (rule.end z (plain c ∷ h)) ≡ rests (rule.end z (plain c ∷ k))
  -- if X stays and the order is accepted, answer and fills are the same
  pub answer : rests (rule.end z (plain c ∷ h)) ≡ true → (v : OrderEvent) → a ≡ Ok v → answer_of a l ≡ answer_of b m
  -- If X stays, as many orders stand up to it on each side, and the same. On the side that X isn't on, `turn` is the whole length after each history:
  -- so that whole side is equal.
  pub turns : rests (rule.end z (plain c ∷ h)) ≡ true → (s : rule.Side)
      → (turn s (rule.end z (plain c ∷ h)) ≡ turn s (rule.end z (plain c ∷ k)))
      × (take (turn s (rule.end z (plain c ∷ h))) (rule.own s d.book) ≡ take (turn s (rule.end z (plain c ∷ h))) (rule.own s e.book))
  -- and the statistics are the same
  pub statistics : rests (rule.end z (plain c ∷ h)) ≡ true → d.stats ≡ e.stats
  -- in any case the fills up to X's are as many, and the same; with no fill of X, `share` counts them all
  pub shares : share (answer_to z h (plain c)) ≡ share (answer_to z k (plain c))
  pub fills : take (share (answer_to z h (plain c))) (fills_of (answer_of a l)) ≡ take (share (answer_to z h (plain c))) (fills_of (answer_of b m))
