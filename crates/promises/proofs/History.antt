-- Every book reached from a fresh one by public calls is whole, and its desk is the rules' end of that history; so the demands hold for the code.
-- Assumes nothing.
use Prim.Native.Nat.{ℕ}
use mathlib.Core.Path.{◌≡◌, sym, ap, subst, ◌∙◌}
use mathlib.Core.Bool.{Bool, true, false}
use mathlib.Core.List.{List, ◌∷◌}
use lib.ListN.{take}
use Rattle.std.specs.Prelude.{Result, Ok}
use Rattle.rules.specs.Rules as rule
use Rattle.rules.specs.Turns.{Demand2}
use Rattle.rules.specs.Late.{plain, Names, refuses, rests, Alike, Histories, unmark, turn, plainly}
use Rattle.rules.proofs.Demand2.{demand2}
use Rattle.rules.proofs.Plain.{alone}
use Rattle.models.specs.declared.OrderEvent.{OrderEvent}
use Rattle.stats.specs.declared.Statistics.{Statistics}
use Rattle.models.specs.declared.Refusal.{Refusal}
use Rattle.ledger.specs.Stock.{Stock}
use Rattle.desk.specs.Stock.{read_desk}
use Rattle.desk.specs.Performs.{answer_of}
use Rattle.whole.specs.Whole.{WholeStock}
use Rattle.perform.proofs.Wholly.{whole_sound}
use Rattle.calls.specs.Calls.{Executes}
use Rattle.promises.specs.History.{call_with, Reached, begun, called, switched, fills_by, Follows2, Follows3}
use Rattle.promises.proofs.Performed.{leaves_desk, leaves_whole, answers}

-- ## demand 1 and the desk of a history

pub reached_whole : {z : rule.Size} {h : List (rule.Call (Unit {0}))} {k : Stock} {st : Statistics} → Reached z h k st → WholeStock z k
reached_whole (begun b) = b.whole
reached_whole (called o r x) = leaves_whole (reached_whole r) x
reached_whole (switched b r) = reached_whole r

pub reached_desk : {z : rule.Size} {h : List (rule.Call (Unit {0}))} {k : Stock} {st : Statistics} → Reached z h k st → read_desk k st ≡ rule.end z h
unfolding rule.end rule.perform
reached_desk (begun b) = b.desk
reached_desk {z} (called {out = out} o r x) = leaves_desk (reached_whole r) x ∙ ap (λ (d : rule.Desk (Unit {0})). rule.after z d (call_with out o)) (reached_desk r)
reached_desk {z} (switched b r) = ap (λ (d : rule.Desk (Unit {0})). rule.after z d (rule.tracking b)) (reached_desk r)

-- ## demand 2

accepted : (a : Result OrderEvent Refusal) (l : List (rule.Fill (Unit {0}))) (v : OrderEvent) → a ≡ Ok v → refuses (answer_of a l) ≡ false
accepted a l v e = rw e

-- an accepted order on a whole stock follows the rules
pub follows2 : {z : rule.Size} {k k' : Stock} {st st' : Statistics} {out out' : List ℕ} {a : Result OrderEvent Refusal} (t : rule.Taker (Unit {0})) (v : OrderEvent) → WholeStock z k
    → Executes z (rule.order t) k st out a k' st' out' → a ≡ Ok v → Follows2 t k st out a k' st' out'
follows2 {z} {k} {k'} {st} {st'} {a = a} t v w x e =
    let s = answers w x in
    let l : List (rule.Fill (Unit {0})) = fills_by z (read_desk k st) (rule.order t) in
    let p : rule.perform z (read_desk k st) (rule.order t) ≡ record { desk = read_desk k' st'; answer = answer_of a l } =
    λ i. record { desk = (sym (leaves_desk w x)) i; answer = (sym s.same) i } in
    let q : refuses (rule.perform z (read_desk k st) (rule.order t)).answer ≡ false = ap (refuses {A = Unit {0}}) (sym s.same) ∙ accepted a l v e in
    record { fills = l; buffer = s.buffer; follows = subst (Demand2 (read_desk k st) t) p (demand2 z (read_desk k st) t (whole_sound {k = k} w).orderly.orderly q) }

-- ## demand 3

-- two books reached by public calls, after histories that differ by latecomers behind X alone, take the same order with equal room
pub follows3 : {z : rule.Size} (N : ℕ → Bool) {h k : List (rule.Call Bool)} {s s' u u' : Stock} {st st' tt tt' : Statistics} {out out' put put' : List ℕ} {a b : Result OrderEvent Refusal} (c : rule.Call (Unit {0}))
    → Histories z N true h k → rests (rule.end z h) ≡ true → Names N c → Alike z h k (plain c)
    → Reached z (unmark h) s st → Reached z (unmark k) u tt → Executes z c s st out a s' st' out' → Executes z c u tt put b u' tt' put'
    → Follows3 z h k c a b (fills_by z (read_desk s st) c) (fills_by z (read_desk u tt) c) (read_desk s' st') (read_desk u' tt')
follows3 {z} N {h} {k} {s} {s'} {u} {u'} {st} {st'} {tt} {tt'} {a = a} {b = b} c i r n like ws wu x y =
    let al = alone z N i r c n like in
    let l : List (rule.Fill (Unit {0})) = fills_by z (read_desk s st) c in
    let m : List (rule.Fill (Unit {0})) = fills_by z (read_desk u tt) c in
    let da : answer_of a l ≡ plainly z h c = (answers (reached_whole ws) x).same ∙ ap (λ (d : rule.Desk (Unit {0})). (rule.perform z d c).answer) (reached_desk ws) in
    let db : answer_of b m ≡ plainly z k c = (answers (reached_whole wu) y).same ∙ ap (λ (d : rule.Desk (Unit {0})). (rule.perform z d c).answer) (reached_desk wu) in
    let es : read_desk s' st' ≡ rule.end z (c ∷ unmark h) = unfold rule.end in leaves_desk (reached_whole ws) x ∙ ap (λ (d : rule.Desk (Unit {0})). rule.after z d c) (reached_desk ws) in
    let eu : read_desk u' tt' ≡ rule.end z (c ∷ unmark k) = unfold rule.end in leaves_desk (reached_whole wu) y ∙ ap (λ (d : rule.Desk (Unit {0})). rule.after z d c) (reached_desk wu) in
    record {
      leaves = al.leaves;
      answer = λ q v e. da ∙ (al.answer q (ap (refuses {A = Unit {0}}) (sym da) ∙ accepted a l v e) ∙ sym db);
      turns = λ q sd.
          let part : rule.Desk (Unit {0}) → List (rule.Order (Unit {0})) = λ d. take (turn sd (rule.end z (plain c ∷ h))) (rule.own sd d.book) in
          ((al.turns q sd).0, ap part es ∙ ((al.turns q sd).1 ∙ sym (ap part eu)));
      statistics = λ q. ap (λ (d : rule.Desk (Unit {0})). d.stats) es ∙ (al.statistics q ∙ sym (ap (λ (d : rule.Desk (Unit {0})). d.stats) eu));
      shares = al.shares;
      fills = rw (da, db) al.fills;
    }
