-- A step follows the definition of a tape: what was carried out is what the rules say, and the fills told are those that were made. Assumes nothing.
use Prim.Native.Nat.{ℕ, zero, suc, ◌+◌, ◌*◌, ◌/◌, ◌≤◌, min}
use mathlib.Core.Path.{◌≡◌, refl, sym, ap, subst, ◌∙◌}
use mathlib.Core.Bool.{Bool, true, false}
use mathlib.Core.List.{List, [], ◌∷◌}
use mathlib.Core.Option.{Option, none, some}
use native.Mathlib.Omega.{arith}
use native.Mathlib.Nat.{le-div_iff_mul-le}
use lib.ListN.{length}
use borrow.Author.Tests.{ltb-false}
use Rattle.rules.specs.Rules as rule
use Rattle.rules.specs.Rules.{perform, verdict, refusal, carried, checks, first_of, outcome, makers}
use Rattle.rules.specs.Late.{refuses}
use Rattle.rules.proofs.Demand2.{refused_same}
use Rattle.models.specs.declared.OrderType.{OrderType}
use Rattle.models.specs.declared.OrderType.TheVariants.{Market, Limit, Cancel}
use Rattle.models.specs.declared.OrderEvent.{OrderEvent}
use Rattle.models.specs.declared.OrderEvent.TheVariants.{Unfilled, Placed, Canceled, PartiallyFilled, Filled}
use Rattle.models.specs.Readings.{call_of, event_of}
use Rattle.rows.specs.Rows.{fill_row, places, listed, written}
use Rattle.rows.proofs.Places.{written_length, listed_written, fill_faithful}
use Rattle.stats.specs.Statistics.{fills_in}
use Rattle.stats.specs.declared.Statistics.{Statistics}
use Rattle.ledger.specs.Stock.{Stock}
use Rattle.whole.specs.Whole.{WholeStock}
use Rattle.std.specs.Prelude.{Result, Ok, Err}
use Rattle.models.specs.declared.Refusal.{Refusal}
use Rattle.desk.specs.Performs.{Performs, refused, carried as carried_out, answer_of}
use Rattle.feed.specs.Feed.{answer_text, result}
use Rattle.reply.specs.Reply.{count_of, fill_count, told_of}
use Rattle.serve.specs.Serve.{Keeping, keeping, desk_of, Ready, Follows}

-- ---- what the rules say of an answer

event_count : rule.Event → ℕ
event_count (rule.unfilled i) = 0
event_count (rule.placed i) = 0
event_count (rule.canceled i) = 0
event_count (rule.partially_filled i q n) = n
event_count (rule.filled i q n) = n

count_is : (e : OrderEvent) → count_of e ≡ event_count (event_of e)
unfolding event_count
count_is (Unfilled id) = refl
count_is (Placed id) = refl
count_is (Canceled id) = refl
count_is (PartiallyFilled id qty fills) = refl
count_is (Filled id qty fills) = refl

-- the event of an order counts its fills
event_counts : (k : rule.Kind) (i : ℕ) (l : List (rule.Fill (Unit {0}))) (r : ℕ) → event_count (rule.event k i l r) ≡ length l
unfolding event_count
event_counts rule.market i [] r = refl
event_counts (rule.limit p) i [] r = refl
event_counts k i (f ∷ l) zero = refl
event_counts k i (f ∷ l) (suc r) = refl

-- an order that isn't refused has room for its fills
first_false : (n : ℕ) (b : Bool) (l : List (ℕ × Bool)) → first_of ((n, b) ∷ l) ≡ none → b ≡ false
unfolding first_of
first_false n true l e = absurd (let z : ◌≡◌ {A = ℕ} 0 1 = cc in let x : ⊥ = omega arith in x)
first_false n false l e = refl

fits : (z : rule.Size) (d : rule.Desk (Unit {0})) (t : rule.Taker (Unit {0})) → refusal z d t ≡ none → length (outcome t (makers t d)).fills ≤ t.room
unfolding refusal checks
fits z d t e = ltb-false t.room (length (outcome t (makers t d)).fills) (first_false 2 _ _ e)

-- what is known of an order that was carried out
record Counted (n : ℕ) (e : rule.Event) (l : List (rule.Fill (Unit {0}))) : Type 0 where
  count : event_count e ≡ length l
  room : length l ≤ n

module _ (z : rule.Size) (d : rule.Desk (Unit {0})) where
  order_counted : (t : rule.Taker (Unit {0})) (e : rule.Event) (l : List (rule.Fill (Unit {0}))) → (perform z d (rule.order t)).answer ≡ rule.done e l → Counted t.room e l
  unfolding perform carried
  order_counted t e l h = go (refusal z d t) refl h
    where
      go : (o : Option ℕ) → refusal z d t ≡ o → (verdict o d (carried d t)).answer ≡ rule.done e l → Counted t.room e l
      go none p h =
          let o = outcome t (makers t d) in
          let q : rule.event t.kind t.id (outcome t (makers t d)).fills (outcome t (makers t d)).rest ≡ e = cc in
          let f : (outcome t (makers t d)).fills ≡ l = cc in
          record {
            count = ap event_count (sym q) ∙ event_counts t.kind t.id (outcome t (makers t d)).fills (outcome t (makers t d)).rest ∙ ap length f;
            room = subst (λ (m : List (rule.Fill (Unit {0}))). length m ≤ t.room) f (fits z d t p);
          }
      go (some n) p h = absurd (let y : ◌≡◌ {A = ℕ} 0 1 = cc in let x : ⊥ = omega arith in x)

  cancel_counted : (n i : ℕ) (e : rule.Event) (l : List (rule.Fill (Unit {0}))) → (perform z d (rule.cancel i)).answer ≡ rule.done e l → Counted n e l
  unfolding perform event_count
  cancel_counted n i e l h =
      let q : rule.canceled i ≡ e = cc in
      let f : ◌≡◌ {A = List (rule.Fill (Unit {0}))} [] l = cc in
      record { count = ap event_count (sym q) ∙ ap length f; room = subst (λ (m : List (rule.Fill (Unit {0}))). length m ≤ n) f (omega arith) }

  counted : (n : ℕ) (o : OrderType) (e : rule.Event) (l : List (rule.Fill (Unit {0}))) → (perform z d (call_of n o)).answer ≡ rule.done e l → Counted n e l
  counted n (Market id side qty) e l h = order_counted _ e l h
  counted n (Limit id side qty price) e l h = order_counted _ e l h
  counted n (Cancel id) e l h = cancel_counted n id.0 e l h

-- ---- the fills told are those that were made

told_fills : (out out' : List ℕ) (l : List (rule.Fill (Unit {0}))) (n : ℕ) → n ≡ length l → length l ≤ places fill_row out → out' ≡ written fill_row out 0 l → (fills_in out' n ≡ l) × (length out' ≡ length out)
told_fills out out' l n e h w =
    let f : length l * 5 ≤ length out = (le-div_iff_mul-le {k = 5} (omega arith)).0 h in
    let g : length (written fill_row out 0 l) ≡ length out = written_length fill_row fill_faithful.long out 0 l (let y : (0 + length l) * 5 ≤ length out = omega arith in y) in
    let k : length out' ≡ length out = ap length w ∙ g in
    let m : min n (places fill_row out') ≡ length l = (let p : places fill_row out' ≡ places fill_row out = ap (λ (j : ℕ). j / 5) k in omega (arith, p)) in
    (ap (listed fill_row out') m ∙ ap (λ (x : List ℕ). listed fill_row x (length l)) w ∙ listed_written fill_row fill_faithful out l, k)

-- ---- a step follows

-- a refusal says nothing of fills
refused_any : (a : Result OrderEvent Refusal) (l : List (rule.Fill (Unit {0}))) (n : ℕ) → answer_of a [] ≡ rule.Answer.refused n → answer_of a l ≡ rule.Answer.refused n
refused_any (Err m) l n e = e
refused_any (Ok v) l n e = absurd (let y : ◌≡◌ {A = ℕ} 0 1 = cc in let x : ⊥ = omega arith in x)

-- an answer counts the fills of its event
answer_counts : (a : Result OrderEvent Refusal) (e : rule.Event) (l m : List (rule.Fill (Unit {0}))) → answer_of a l ≡ rule.done e m → fill_count a ≡ event_count e
answer_counts (Err n) e l m h = absurd (let y : ◌≡◌ {A = ℕ} 0 1 = cc in let x : ⊥ = omega arith in x)
answer_counts (Ok v) e l m h = count_is v ∙ ap event_count (let z : event_of v ≡ e = cc in z)

module _ (z : rule.Size) (x x' : Keeping) (o : OrderType) (a : Result OrderEvent Refusal) (ready : Ready z x) where
  -- the rules' result with the places lent is that with a place for every order that can rest
  same : perform z (desk_of x) (call_of (places fill_row x.fills) o) ≡ result z (desk_of x) o
  same = ap (λ (m : ℕ). perform z (desk_of x) (call_of m o)) ready.roomy

  follows : Performs (WholeStock z) z (call_of (places fill_row x.fills) o) x.stock x.statistics x.fills a x'.stock x'.statistics x'.fills
      → Follows z x o (told_of a x'.fills) x'
  follows (refused n h e k s f) =
      record {
        text = ap answer_text (refused_any a (fills_in x'.fills (fill_count a)) n e ∙ sym h ∙ ap (λ (r : rule.Result (Unit {0})). r.answer) same);
        desk = cc (k, s) ∙ sym (refused_same z (desk_of x) (call_of (places fill_row x.fills) o) (ap refuses h)) ∙ ap (λ (r : rule.Result (Unit {0})). r.desk) same;
        ready = record { whole = subst (WholeStock z) (sym k) ready.whole; roomy = ap (places fill_row) f ∙ ready.roomy };
      }
  follows (carried_out e l h p d w f) =
      let q : Counted (places fill_row x.fills) e l = counted z (desk_of x) (places fill_row x.fills) o e l h in
      let t = told_fills x.fills x'.fills l (fill_count a) (answer_counts a e l l p ∙ q.count) q.room f in
      record {
        text = ap (λ (m : List (rule.Fill (Unit {0}))). answer_text (answer_of a m)) t.0 ∙ ap answer_text (p ∙ sym h ∙ ap (λ (r : rule.Result (Unit {0})). r.answer) same);
        desk = d ∙ ap (λ (r : rule.Result (Unit {0})). r.desk) same;
        ready = record { whole = w; roomy = ap (λ (m : ℕ). m / 5) t.1 ∙ ready.roomy };
      }

-- the same of the values that a call is lent and leaves
pub followed : {z : rule.Size} {k k' : Stock} {st st' : Statistics} {rows rows' : List ℕ} (o : OrderType) {a : Result OrderEvent Refusal} → Ready z (keeping k st rows)
    → Performs (WholeStock z) z (call_of (places fill_row rows) o) k st rows a k' st' rows' → Follows z (keeping k st rows) o (told_of a rows') (keeping k' st' rows')
followed {z} {k} {k'} {st} {st'} {rows} {rows'} o {a} h p = follows z (keeping k st rows) (keeping k' st' rows') o a h p
