-- The sums over the fills of an order, fill by fill: what `surveyed` says of the whole outcome, a walk can add up. Assumes nothing.
use Prim.Native.Nat.{suc, zero, ℕ, ◌*◌, ◌+◌, ◌-◌, ◌≤◌, min}
use mathlib.Core.Bool.{true}
use mathlib.Core.List.{List, [], ◌∷◌}
use mathlib.Core.Logic.{⊎_elim}
use mathlib.Core.Path.{refl, sym, ◌∙◌, ◌≡◌}
use native.Mathlib.Omega.{arith}
use lib.Dec.{eqb, leb}
use lib.ListN.{length}
use borrow.Author.Tests.{eq-eqb, le-leb, lt-leb, ne_eqb}
use Rattle.rules.specs.Rules.{Fill, Order, Taker, fill_from, filling, matching, total, within, worth}
use Rattle.rules.specs.Whole.{one}
use Rattle.rules.proofs.Match.{given_within}
use Rattle.rules.proofs.Turns.{gains}
use Rattle.records.proofs.Cases.{le?}
use Rattle.sums.specs.Sums.{capped, plus_of}
use Rattle.sums.proofs.Capped.{plus_capped}
use Rattle.survey.specs.declared.Outlook.{Outlook}
use Rattle.survey.specs.Surveyed.{surveyed, wholes}

-- one fill more
abbrev pub add : Outlook → Fill (Unit {0}) → Outlook
add s f =
    record {
      left = record { 0 = s.left.0 - f.quantity };
      fills = s.fills + 1;
      used = s.used + one f.whole;
      worth = plus_of s.worth (capped (f.price * f.quantity));
    }

unfoldable pub tallied : Outlook → List (Fill (Unit {0})) → Outlook
tallied s [] = s
tallied s (f ∷ l) = tallied (add s f) l

-- w left, n fills, u makers used up, v the sum
abbrev pub at : ℕ → ℕ → ℕ → ℕ → Outlook
at w n u v = record { left = record { 0 = w }; fills = n; used = u; worth = capped v }

at_same : {w w' n n' u u' v v' : ℕ} → w ≡ w' → n ≡ n' → u ≡ u' → v ≡ v' → at w n u v ≡ at w' n' u' v'
at_same e f g h = λ k. at (e k) (f k) (g k) (h k)

come_to : (w n u v : ℕ) (l : List (Fill (Unit {0}))) → tallied (at w n u v) l ≡ at (w - total l) (n + length l) (u + wholes l) (v + worth l)
unfolding tallied total wholes worth
come_to w n u v [] = at_same (omega arith) (omega arith) (omega arith) (omega arith)
come_to w n u v (f ∷ l) =
    rw (plus_capped v (f.price * f.quantity))
    (come_to (w - f.quantity) (n + 1) (u + one f.whole) (v + f.price * f.quantity) l ∙ at_same (omega arith) (omega arith) (omega arith) (omega arith))

pub surveyed_is : (t : Taker (Unit {0})) (w : ℕ) (l : List (Order (Unit {0}))) → surveyed (matching t w l) ≡ tallied (at w 0 0 0) (matching t w l).fills
surveyed_is t w l =
    let o = matching t w l in
    sym (come_to w 0 0 0 o.fills ∙ at_same (omega (arith, gains t w l)) (omega arith) (omega arith) (omega arith))

-- ## The next maker

filling_is : (t : Taker (Unit {0})) (m : Order (Unit {0})) (g : ℕ) (l : List (Fill (Unit {0}))) → 1 ≤ g → filling t m g l ≡ fill_from t m g (eqb g m.quantity) ∷ l
filling_is t m zero l h = absurd (let f : ⊥ = omega arith in f)
filling_is t m (suc g) l h = refl

-- it is used up where it has no more than is wanted
whole_is : (q w : ℕ) → eqb (min q w) q ≡ leb q w
whole_is q w = ⊎_elim
    (λ h. eq-eqb (min q w) q (omega arith) ∙ sym (le-leb q w h))
    (λ h. ne_eqb (min q w) q (λ e. omega arith) ∙ sym (lt-leb q w h)) (le? q w)

module _ (t : Taker (Unit {0})) (w : ℕ) (m : Order (Unit {0})) (l : List (Order (Unit {0}))) (e : within t.side t.kind m.price ≡ true) (h : 1 ≤ w) (g : 1 ≤ m.quantity) where
  pub next_fill : (matching t w (m ∷ l)).fills ≡ fill_from t m (min m.quantity w) (leb m.quantity w) ∷ (matching t (w - min m.quantity w) l).fills
  unfolding matching
  next_fill = rw (given_within t w m e, filling_is t m (min m.quantity w) (matching t (w - min m.quantity w) l).fills (omega arith), whole_is m.quantity w)
