-- A call's contract leaves room for one outcome: two that meet it on one input agree. On a whole stock that is Placement's law for the stock and itself.
-- Assumes nothing.
use Prim.Native.Nat.{ℕ}
use mathlib.Core.Path.{◌≡◌, refl, sym, ap, ◌∙◌}
use mathlib.Core.List.{List, []}
use mathlib.Core.Option as maybe
use Rattle.std.specs.Prelude.{Option, Result}
use Rattle.rules.specs.Rules as rule
use Rattle.models.specs.declared.BookDepth.{BookDepth}
use Rattle.models.specs.declared.OrderEvent.{OrderEvent}
use Rattle.models.specs.declared.Price.{Price}
use Rattle.depth.specs.declared.Lookup.{Lookup}
use Rattle.stats.specs.declared.Statistics.{Statistics}
use Rattle.models.specs.declared.Refusal.{Refusal}
use Rattle.ledger.specs.declared.OrderBook.{OrderBook}
use Rattle.ledger.specs.Stock.{Stock, stock}
use Rattle.calls.specs.Calls.{Executes, Makes}
use Rattle.questions.specs.Questions.{Tells, Shows, Finds}
use Rattle.calls.specs.Calls as call
use Rattle.questions.specs.Questions as ask
use Rattle.promises.specs.Outcomes.{Agree, AgreeFresh, neither, both}
use Rattle.promises.proofs.Answers.{answer_same, quoted_same, deep_same, got_same, opening_same}
use Rattle.promises.proofs.Performed.{finds}
use Rattle.promises.proofs.Placement.{same_desk, same_here, executes_alike, tells_alike, shows_alike}

-- orders and cancels
pub one_outcome : {z : rule.Size} {c : rule.Call (Unit {0})} {k k₁ k₂ : Stock} {st st₁ st₂ : Statistics} {out out₁ out₂ : List ℕ} {a b : Result OrderEvent Refusal}
    → Executes z c k st out a k₁ st₁ out₁ → Executes z c k st out b k₂ st₂ out₂ → Agree a b k₁ k₂ st₁ st₂ out₁ out₂
one_outcome {a = a} {b = b} (call.broken w p q r s) (call.broken w' p' q' r' s') =
    record { answer = answer_same a b [] [] (p ∙ sym p'); left = same_here (q ∙ sym q') (r ∙ sym r'); buffer = s ∙ sym s' }
one_outcome (call.broken w p q r s) (call.performed w' y) = absurd (w w')
one_outcome (call.performed w x) (call.broken w' p q r s) = absurd (w' w)
one_outcome (call.performed w x) (call.performed w' y) = executes_alike w w refl (call.performed w x) (call.performed w y)

-- lowest ask, highest bid, spread: one answer
pub tells_once : {z : rule.Size} {f : rule.Book (Unit {0}) → maybe.Option ℕ} {k : Stock} {a b : Result (Option Price) Refusal} → Tells z f k a → Tells z f k b → a ≡ b
tells_once {a = a} {b = b} (ask.broken w p) (ask.broken w' p') = quoted_same a b (p ∙ sym p')
tells_once (ask.broken w p) (ask.told w' p') = absurd (w w')
tells_once (ask.told w p) y = tells_alike w w refl (ask.told w p) y

-- depth: one answer, one buffer
pub shows_once : {z : rule.Size} {n : ℕ} {k : Stock} {out out₁ out₂ : List ℕ} {a b : Result BookDepth Refusal} → Shows z n k out a out₁ → Shows z n k out b out₂ → (a ≡ b) × (out₁ ≡ out₂)
shows_once {a = a} {b = b} (ask.broken w p o) (ask.broken w' p' o') = (deep_same a b (p ∙ sym p'), o ∙ sym o')
shows_once (ask.broken w p o) (ask.refused w' m r' p' o') = absurd (w w')
shows_once (ask.broken w p o) (ask.shown w' l m r' p' o') = absurd (w w')
shows_once (ask.refused w m r p o) y = shows_alike w w refl (ask.refused w m r p o) y
shows_once (ask.shown w l m r p o) y = shows_alike w w refl (ask.shown w l m r p o) y

-- the search by id: one answer, the count included
pub finds_once : {z : rule.Size} {i : ℕ} {k : Stock} {a b : Result Lookup Refusal} → Finds z i k a → Finds z i k b → a ≡ b
finds_once {a = a} {b = b} (ask.broken w p) (ask.broken w' p') = got_same a b (p ∙ sym p')
finds_once (ask.broken w p) (ask.found w' o r' p') = absurd (w w')
finds_once {a = a} {b = b} (ask.found w o r p) y = got_same a b (finds {a = a} w (ask.found w o r p) ∙ sym (finds w y))

-- a fresh book, whatever small values are lent with the lists
pub makes_once : {z : rule.Size} {b₁ b₂ : OrderBook} {rs bd ak se : List ℕ} {k₁ k₂ : Stock} {a b : Result Statistics Refusal}
    → Makes z (stock b₁ rs bd ak se) a k₁ → Makes z (stock b₂ rs bd ak se) b k₂ → AgreeFresh b₁ b₂ a b k₁ k₂
makes_once {k₁ = k₁} {k₂ = k₂} {a = a} {b = b} (call.short l p q) (call.short l' p' q') =
    neither p (opening_same k₁.book k₂.book a b (p ∙ sym p')) (ap (λ (k : Stock). k.book) q) (ap (λ (k : Stock). k.book) q')
    (ap (λ (k : Stock). k.records) q ∙ sym (ap (λ (k : Stock). k.records) q')) (ap (λ (k : Stock). k.bids) q ∙ sym (ap (λ (k : Stock). k.bids) q'))
    (ap (λ (k : Stock). k.asks) q ∙ sym (ap (λ (k : Stock). k.asks) q')) (ap (λ (k : Stock). k.search) q ∙ sym (ap (λ (k : Stock). k.search) q'))
makes_once (call.short l p q) (call.made l' st' p' g') = absurd (l l')
makes_once (call.made l st p g) (call.short l' p' q') = absurd (l' l)
makes_once (call.made l st p g) (call.made l' st' p' g') =
    let x = g.whole.lengths in
    let y = g'.whole.lengths in
    both st st' p p' (same_desk g.whole g'.whole (g.desk ∙ sym g'.desk))
    (x.records ∙ sym y.records) (x.bids ∙ sym y.bids) (x.asks ∙ sym y.asks) (x.search ∙ sym y.search)
