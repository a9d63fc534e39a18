-- What a call on a whole stock comes to is the rules' alone: answer, buffer and the desk afterwards depend on the desk that the stock reads as, the call
-- and the buffer lent. Assumes nothing.
use Prim.Native.Nat.{ℕ}
use mathlib.Core.Path.{◌≡◌, sym, ap, subst, ◌∙◌}
use mathlib.Core.List.{List, [], ◌++◌}
use mathlib.Core.Option as maybe
use lib.ListN.{length}
use Rattle.std.specs.Prelude.{Option, Result}
use Rattle.rules.specs.Rules as rule
use Rattle.models.specs.declared.BookDepth.{BookDepth}
use Rattle.models.specs.declared.OrderEvent.{OrderEvent}
use Rattle.models.specs.declared.Price.{Price}
use Rattle.depth.specs.declared.Lookup.{Lookup}
use Rattle.rules.specs.Late.{refuses, fills_of}
use Rattle.rules.proofs.Demand2.{refused_same}
use Rattle.stats.specs.declared.Statistics.{Statistics}
use Rattle.rows.specs.Rows.{fill_row, level_row, places, written}
use Rattle.rows.proofs.Places.{written_none, fill_faithful, level_faithful}
use Rattle.search.specs.Seek.{sought}
use Rattle.models.specs.declared.Refusal.{Refusal}
use Rattle.ledger.specs.Stock.{Stock}
use Rattle.ledger.specs.Desk.{read_book}
use Rattle.desk.specs.Stock.{read_desk}
use Rattle.desk.specs.Performs.{answer_of, refused, carried}
use Rattle.models.specs.Readings.{Reading, number, value}
use Rattle.questions.specs.Answers.{quoted_of, deep_of, got_of}
use Rattle.whole.specs.Whole.{WholeStock}
use Rattle.calls.specs.Calls.{Executes}
use Rattle.questions.specs.Questions.{Tells, Shows, Finds}
use Rattle.calls.specs.Calls as call
use Rattle.questions.specs.Questions as ask
use Rattle.promises.specs.History.{fills_by, Answers}

-- ## orders and cancels

module _ {z : rule.Size} {c : rule.Call (Unit {0})} {k k' : Stock} {st st' : Statistics} {out out' : List ℕ} {a : Result OrderEvent Refusal} where
  -- what a call leaves is the rules' desk after it, and whole
  pub leaves_desk : WholeStock z k → Executes z c k st out a k' st' out' → read_desk k' st' ≡ rule.after z (read_desk k st) c
  leaves_desk w (call.broken n p q r s) = absurd (n w)
  leaves_desk w (call.performed _ (refused n u p q r s)) =
      (λ i. read_desk (q i) (r i)) ∙ sym (refused_same z (read_desk k st) c (ap (refuses {A = Unit {0}}) u))
  leaves_desk w (call.performed _ (carried e l u p d v t)) = d

  pub leaves_whole : WholeStock z k → Executes z c k st out a k' st' out' → WholeStock z k'
  leaves_whole w (call.broken n p q r s) = absurd (n w)
  leaves_whole w (call.performed _ (refused n u p q r s)) = subst (WholeStock z) (sym q) w
  leaves_whole w (call.performed _ (carried e l u p d v t)) = v

  -- and its answer the rules' answer, with the fills in the buffer
  pub answers : WholeStock z k → Executes z c k st out a k' st' out' → Answers z c (read_desk k st) out a out'
  answers w (call.broken n p q r s) = absurd (n w)
  answers w (call.performed _ (refused n u p q r s)) =
      let f : fills_by z (read_desk k st) c ≡ [] = ap (fills_of {A = Unit {0}}) u in
      record { same = ap (answer_of a) f ∙ (p ∙ sym u); buffer = s ∙ (sym (written_none fill_row fill_faithful.long out 0) ∙ ap (written fill_row out 0) (sym f)) }
  answers w (call.performed _ (carried e l u p d v t)) =
      let f : fills_by z (read_desk k st) c ≡ l = ap (fills_of {A = Unit {0}}) u in
      record { same = ap (answer_of a) f ∙ (p ∙ sym u); buffer = t ∙ ap (written fill_row out 0) (sym f) }

-- ## questions: what each reads off the rules' reply. The statistics are no part of it, so any will do.

abbrev pub reply_of : rule.Book (Unit {0}) → rule.Question → rule.Reply
reply_of b q = rule.reply (record { book = b; stats = (rule.fresh {A = Unit {0}}).stats }) q

abbrev pub depth_in : rule.Reply → Reading (ℕ × ℕ × ℕ)
depth_in (rule.Reply.refused n) = number n
depth_in (rule.quoted b a s) = number 0
depth_in (rule.deep n l m) = value (n, length l, length m)
depth_in (rule.counted st) = number 0
depth_in (rule.found o) = number 0

abbrev pub levels_in : rule.Reply → List rule.Level
levels_in (rule.Reply.refused n) = []
levels_in (rule.quoted b a s) = []
levels_in (rule.deep n l m) = l ++ m
levels_in (rule.counted st) = []
levels_in (rule.found o) = []

abbrev pub order_in : rule.Reply → maybe.Option (ℕ × ℕ)
order_in (rule.Reply.refused n) = maybe.none
order_in (rule.quoted b a s) = maybe.none
order_in (rule.deep n l m) = maybe.none
order_in (rule.counted st) = maybe.none
order_in (rule.found o) = o

module _ {z : rule.Size} {k : Stock} where
  pub tells : {f : rule.Book (Unit {0}) → maybe.Option ℕ} {a : Result (Option Price) Refusal} → WholeStock z k → Tells z f k a → quoted_of a ≡ value (f (read_book k))
  tells w (ask.broken n p) = absurd (n w)
  tells w (ask.told _ p) = p

  pub shows : {n : ℕ} {out out' : List ℕ} {a : Result BookDepth Refusal} → WholeStock z k → Shows z n k out a out'
      → (deep_of a ≡ depth_in (reply_of (read_book k) (rule.depth n (places level_row out))))
      × (out' ≡ written level_row out 0 (levels_in (reply_of (read_book k) (rule.depth n (places level_row out)))))
  shows w (ask.broken n p o) = absurd (n w)
  shows {out = out} w (ask.refused _ m r p o) =
      (p ∙ ap depth_in (sym (r _)), o ∙ (sym (written_none level_row level_faithful.long out 0) ∙ ap (λ (q : rule.Reply). written level_row out 0 (levels_in q)) (sym (r _))))
  shows {out = out} w (ask.shown _ l m r p o) = (p ∙ ap depth_in (sym (r _)), o ∙ ap (λ (q : rule.Reply). written level_row out 0 (levels_in q)) (sym (r _)))

  pub finds : {i : ℕ} {a : Result Lookup Refusal} → WholeStock z k → Finds z i k a
      → got_of a ≡ value (order_in (reply_of (read_book k) (rule.search i)), (sought k.search k.records i).count)
  finds w (ask.broken n p) = absurd (n w)
  finds {i = i} w (ask.found _ o r p) = p ∙ ap (λ (q : rule.Reply). value (order_in q, (sought k.search k.records i).count)) (sym (r _))
