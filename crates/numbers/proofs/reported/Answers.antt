-- `numbers::reported` meets its contract: the desk's numbers are written where the answer is no refusal. Assumes nothing.
use Rattle.std.proofs.Common.{◌≡◌, ℕ, Bool, true, false, List, Result, is_ok, sym, ap, ◌∙◌}
use Rattle.models.specs.declared.OrderEvent.{OrderEvent}
use Rattle.models.specs.declared.Refusal.{Refusal}
use Rattle.stats.specs.declared.Statistics.{Statistics}
use Rattle.ledger.specs.declared.OrderBook.{OrderBook}
use Rattle.numbers.specs.Numbers.{numbers_of, event_as_numbers}
use Rattle.numbers.specs.Reports.{Told, Reported}
use Rattle.numbers.specs.Reports as report
use Rattle.numbers.proofs.reported.Goals as goal
use Rattle.numbers.proofs.reported.Goals.{then-is_ok, else-is_ok}

reports : {d an d' an' : List ℕ} {a : Result OrderEvent Refusal} {b : OrderBook} {st : Statistics} {n : ℕ} (o : Bool) → o ≡ is_ok a
    → (o ≡ true → d' ≡ numbers_of b st) → (o ≡ false → d' ≡ d) → Told event_as_numbers an a n an' → Reported d an a b st n d' an'
reports o e f g (report.told x p q r) = report.done x p q (f (e ∙ ap is_ok p)) r
reports o e f g (report.refused x p q r) = report.refused x p q (g (e ∙ ap is_ok p)) r

pub returns : goal.returns
returns c = reports c.is_ok.result c.is_ok.ensures.value
    (λ t. elim c.if-is_ok.branch [ then-is_ok w ↦ w.desk-is ∙ w.written.ensures | else-is_ok w ↦ absurd (let z : true ≡ false = sym t ∙ w.if-is_ok.false in cc) ])
    (λ t. elim c.if-is_ok.branch [ then-is_ok w ↦ absurd (let z : true ≡ false = sym w.if-is_ok.true ∙ t in cc) | else-is_ok w ↦ w.desk-is ])
    c.told.ensures
