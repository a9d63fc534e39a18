-- Demand 3 on the desk that knows no marks: its answers, when X leaves, and the fills up to X's. Assumes nothing.
use Prim.Native.Nat.{ℕ}
use mathlib.Core.Path.{◌≡◌, refl, ap, ◌∙◌, sym}
use mathlib.Core.Bool.{Bool, true, false}
use mathlib.Core.List.{List, [], ◌∷◌, map}
use lib.ListN.{length, take}
use Rattle.rules.specs.Rules.{own, Call, order, cancel, tracking, Answer, done, switched, Result, Size, perform, end}
use Rattle.rules.specs.Retag.{re_order, re_fill, re_call, re_answer, re_desk, re_result}
use Rattle.rules.specs.Late.{plain, Names, refuses, fills_of, rests, up_to, Alike, Histories, shared, answer_to, unmark, plainly, Alone}
use Rattle.rules.proofs.Retag.{own_re, perform_re, end_re}
use Rattle.rules.proofs.Latecomers.{demand3}

abbrev forget : Bool → Unit {0}
forget b = tt

forget_plain : (c : Call (Unit {0})) → re_call forget (plain c) ≡ c
forget_plain (order t) = refl
forget_plain (cancel i) = refl
forget_plain (tracking b) = refl

plain_is : (z : Size) (h : List (Call Bool)) (c : Call (Unit {0})) → perform z (end z (unmark h)) c ≡ re_result forget (perform z (end z h) (plain c))
plain_is z h c =
    rw (end_re forget z h) (
    ap (λ (x : Call (Unit {0})). perform z (re_desk forget (end z h)) x) (sym (forget_plain c)) ∙ perform_re forget z (end z h) (plain c))

plain_answer : (z : Size) (h : List (Call Bool)) (c : Call (Unit {0})) → plainly z h c ≡ re_answer forget (answer_to z h (plain c))
plain_answer z h c = ap (λ (r : Result (Unit {0})). r.answer) (plain_is z h c)

plain_end : (z : Size) (h : List (Call Bool)) (c : Call (Unit {0})) → end z (c ∷ unmark h) ≡ re_desk forget (end z (plain c ∷ h))
unfolding end
plain_end z h c = ap (λ (r : Result (Unit {0})). r.desk) (plain_is z h c)

refuses_re : (a : Answer Bool) → refuses (re_answer forget a) ≡ refuses a
refuses_re (Answer.refused n) = refl
refuses_re (done e l) = refl
refuses_re switched = refl

fills_re : (a : Answer Bool) → fills_of (re_answer forget a) ≡ map (re_fill forget) (fills_of a)
fills_re (Answer.refused n) = refl
fills_re (done e l) = refl
fills_re switched = refl

-- as many from the front as stand up to X are those that stand up to X
take_up_to : {X Y : Type 0} (g : X → Bool) (f : X → Y) (l : List X) → take (length (up_to g l)) (map f l) ≡ map f (up_to g l)
unfolding up_to
take_up_to g f [] = refl
take_up_to g f (x ∷ l) = go (g x) (take_up_to g f l)
  where
    go : (b : Bool) → take (length (up_to g l)) (map f l) ≡ map f (up_to g l)
        → take (length (mathlib.Core.Bool.cond b (x ∷ []) (x ∷ up_to g l))) (f x ∷ map f l) ≡ map f (mathlib.Core.Bool.cond b (x ∷ []) (x ∷ up_to g l))
    go true h = refl
    go false h = ap (λ (r : List _). f x ∷ r) h

-- one part of two lists, up to X in each: as many, and the same once marks are forgotten
up_same : {X Y : Type 0} (g : X → Bool) (f : X → Y) (l k : List X) → up_to g l ≡ up_to g k → take (length (up_to g l)) (map f l) ≡ take (length (up_to g l)) (map f k)
up_same g f l k e = take_up_to g f l ∙ (ap (map f) e ∙ (sym (take_up_to g f k) ∙ ap (λ (u : List _). take (length u) (map f k)) (sym e)))

-- no shared call is touched, on the desk without marks
pub alone : (z : Size) (N : ℕ → Bool) {h k : List (Call Bool)} → Histories z N true h k → rests (end z h) ≡ true → (c : Call (Unit {0})) → Names N c
    → Alike z h k (plain c) → Alone z h k c
alone z N {h} {k} i r c n l =
    let u = (demand3 N z).untouched i r c n l in
    let both : Histories z N true (plain c ∷ h) (plain c ∷ k) = shared i c n l in
    record {
      answer = λ y f. plain_answer z h c ∙ (ap (re_answer forget) (u.answer y (sym (refuses_re (answer_to z h (plain c))) ∙ rw (plain_answer z h c) at f)) ∙ sym (plain_answer z k c));
      leaves = u.leaves;
      turns = λ y s.
          let t = ((demand3 N z).unmoved both y).turn s in (
            ap length t,
            rw (plain_end z h c, plain_end z k c, own_re forget s (end z (plain c ∷ h)).book, own_re forget s (end z (plain c ∷ k)).book)
                (up_same (λ m. m.tag) (re_order forget) (own s (end z (plain c ∷ h)).book) (own s (end z (plain c ∷ k)).book) t),
          );
      statistics = λ y. rw (plain_end z h c, plain_end z k c) ((demand3 N z).unmoved both y).statistics;
      shares = ap length u.fills;
      fills = rw (plain_answer z h c, plain_answer z k c, fills_re (answer_to z h (plain c)), fills_re (answer_to z k (plain c)))
          (up_same (λ f. f.tag) (re_fill forget) (fills_of (answer_to z h (plain c))) (fills_of (answer_to z k (plain c))) u.fills);
    }
