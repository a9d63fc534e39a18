-- Every accepted order follows demand 2, and demand 2 leaves room for one outcome; a refusal changes nothing. Assumes nothing.
use Prim.Native.Nat.{ℕ}
use native.Mathlib.Omega.{arith}
use mathlib.Core.Path.{◌≡◌, refl, sym, ap, ◌∙◌, subst}
use mathlib.Core.Bool.{true, false}
use mathlib.Core.List.{List}
use mathlib.Core.Option.{Option, none, some}
use Rattle.rules.specs.Rules.{Side, bid, ask, opposite, Order, Book, Taker, Outcome, own, book, standing, joining, hiding, Desk, Call, order, cancel, tracking, done, Result, Size}
use Rattle.rules.specs.Rules.{stats_after, outcome, makers, refusal, event, carried, verdict, perform, after, end}
use Rattle.rules.specs.Whole.{Whole}
use Rattle.rules.specs.Turns.{Demand2}
use Rattle.rules.specs.Late.{refuses}
use Rattle.rules.proofs.Basics.{own_book, other_book}
use Rattle.rules.proofs.Reached.{whole_end, whole_carried}
use Rattle.rules.proofs.Turns.{outcome_taken, outcome_gains, outcome_losses, pinned}

module _ {A : Type 0} where
  -- what an outcome o of t makes of the desk
  abbrev made : Desk A → Taker A → Outcome A → Result A
  made d t o =
      record {
        desk = record {
          book = book t.side (joining t (standing t.kind o.rest) o.rest (own t.side d.book)) (hiding t (standing t.kind o.rest) o.left);
          stats = stats_after o.fills d.stats;
        };
        answer = done (event t.kind t.id o.fills o.rest) o.fills;
      }

  made_own : (d : Desk A) (t : Taker A) (o : Outcome A) (r : Option ℕ) → standing t.kind o.rest ≡ r
      → own t.side (made d t o).desk.book ≡ joining t r o.rest (own t.side d.book)
  made_own d t o r e = own_book t.side _ _ ∙ rw e

  made_other : (d : Desk A) (t : Taker A) (o : Outcome A) (r : Option ℕ) → standing t.kind o.rest ≡ r
      → makers t (made d t o).desk ≡ hiding t r o.left
  made_other d t o r e = other_book t.side _ _ ∙ rw e

  carried_made : (d : Desk A) (t : Taker A) → carried d t ≡ made d t (outcome t (makers t d))
  unfolding carried
  carried_made d t = refl

  -- a refusal returns its number and no other result, and the desk keeps its value
  pub refused_same : (z : Size) (d : Desk A) (c : Call A) → refuses (perform z d c).answer ≡ true → after z d c ≡ d
  unfolding perform carried
  refused_same z d (order t) = go (refusal z d t)
    where
      go : (o : Option ℕ) → refuses (verdict o d (carried d t)).answer ≡ true → (verdict o d (carried d t)).desk ≡ d
      go none e = absurd (let n : ◌≡◌ {A = ℕ} 0 1 = cc in let x : ⊥ = omega arith in x)
      go (some n) e = refl
  refused_same z d (cancel i) = λ e. absurd (let n : ◌≡◌ {A = ℕ} 0 1 = cc in let x : ⊥ = omega arith in x)
  refused_same z d (tracking b) = λ e. absurd (let n : ◌≡◌ {A = ℕ} 0 1 = cc in let x : ⊥ = omega arith in x)

  carries : (d : Desk A) (t : Taker A) → Whole d.book → Demand2 d t (carried d t)
  carries d t w =
      let o = outcome t (makers t d) in
      let m : Demand2 d t (made d t o) =
      record {
        fills = o.fills;
        left = o.left;
        rest = o.rest;
        turns = outcome_taken t (w.sorted (opposite t.side)) (w.positive (opposite t.side));
        says = refl;
        gains = outcome_gains t (makers t d);
        losses = outcome_losses t (makers t d);
        stands = λ p e. (made_own d t o (some p) e, made_other d t o (some p) e);
        lapses = λ e. (made_own d t o none e, made_other d t o none e);
        statistics = refl;
        whole = subst (λ (r : Result A). Whole r.desk.book) (carried_made d t) (whole_carried d t w);
      } in
      subst (Demand2 d t) (sym (carried_made d t)) m

  -- every accepted order on a whole book follows the rules
  pub demand2 : (z : Size) (d : Desk A) (t : Taker A) → Whole d.book → refuses (perform z d (order t)).answer ≡ false → Demand2 d t (perform z d (order t))
  unfolding perform
  demand2 z d t w = go (refusal z d t)
    where
      go : (r : Option ℕ) → refuses (verdict r d (carried d t)).answer ≡ false → Demand2 d t (verdict r d (carried d t))
      go none e = carries d t w
      go (some n) e = absurd (let i : ◌≡◌ {A = ℕ} 0 1 = cc in let x : ⊥ = omega arith in x)

  -- so in every history
  pub demand2_end : (z : Size) (h : List (Call A)) (t : Taker A) → refuses (perform z (end z h) (order t)).answer ≡ false
      → Demand2 (end z h) t (perform z (end z h) (order t))
  demand2_end z h t e = demand2 z (end z h) t (whole_end z h) e

  book_is : (s : Side) (b : Book A) {l k : List (Order A)} → own s b ≡ l → own (opposite s) b ≡ k → b ≡ book s l k
  book_is bid b e f = λ i. record { bids = e i; asks = f i }
  book_is ask b e f = λ i. record { bids = f i; asks = e i }

  -- and the rules leave room for no other outcome
  pub follows : (d : Desk A) (t : Taker A) (r : Result A) → Whole d.book → Demand2 d t r → r ≡ carried d t
  unfolding outcome
  follows d t r w x =
      let o : Outcome A = record { fills = x.fills; left = x.left; rest = x.rest } in
      let e : outcome t (makers t d) ≡ o = pinned x.turns (w.sorted (opposite t.side)) (w.positive (opposite t.side)) in
      let b : r.desk.book ≡ (made d t o).desk.book = books (standing t.kind x.rest) refl in
      let m : r ≡ made d t o = λ i. record { desk = record { book = b i; stats = x.statistics i }; answer = x.says i } in
      m ∙ (ap (made d t) (sym e) ∙ sym (carried_made d t))
    where
      books : (s : Option ℕ) → standing t.kind x.rest ≡ s
          → r.desk.book ≡ book t.side (joining t (standing t.kind x.rest) x.rest (own t.side d.book)) (hiding t (standing t.kind x.rest) x.left)
      books none e = rw e (book_is t.side r.desk.book (x.lapses e).0 (x.lapses e).1)
      books (some p) e = rw e (book_is t.side r.desk.book (x.stands p e).0 (x.stands p e).1)

  pub one_outcome : (d : Desk A) (t : Taker A) (r q : Result A) → Whole d.book → Demand2 d t r → Demand2 d t q → r ≡ q
  one_outcome d t r q w x y = follows d t r w x ∙ sym (follows d t q w y)
