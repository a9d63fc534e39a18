-- Demand 2's rules as theorems over `matching`. Assumes nothing.
use Prim.Native.Nat.{ℕ, zero, suc, ◌+◌, ◌-◌, ◌≤◌, ◌<◌, min}
use native.Mathlib.Omega.{arith}
use native.Mathlib.Nat.{sub_self}
use mathlib.Core.Path.{◌≡◌, refl, sym, ◌∙◌, subst}
use mathlib.Core.Bool.{Bool, true, false}
use mathlib.Core.List.{List, [], ◌∷◌}
use mathlib.Core.Option.{some}
use lib.Dec.{leb, eqb}
use borrow.Author.Tests.{leb-true, leb-false, eq-eqb, ne_eqb}
use Rattle.rules.specs.Rules.{bid, opposite, within, Order, Book, Taker, Fill, Outcome, best, given, fill_from, with_left, filling, keeping, matching, total, outcome, Call, Size, end}
use Rattle.rules.specs.Whole.{◌&◌, Sorted, sorted[], sorted∷, Positive, Apart, Whole}
use Rattle.rules.specs.Turns.{Taken, enough, nobody, beyond, wholly, partly, supply}
use Rattle.rules.proofs.Basics.{within_worse, all_map, all_head}
use Rattle.rules.proofs.Match.{given_within, given_le, idle_done, idle_beyond}
use Rattle.rules.proofs.Reached.{whole_end}

module _ {A : Type 0} where
  filling_is : (t : Taker A) (m : Order A) (g : ℕ) (l : List (Fill A)) → 1 ≤ g → filling t m g l ≡ fill_from t m g (eqb g m.quantity) ∷ l
  filling_is t m zero l h = absurd (let f : ⊥ = omega arith in f)
  filling_is t m (suc g) l h = refl

  keeping_is : (m : Order A) (q : ℕ) (l : List (Order A)) → 1 ≤ q → keeping m q l ≡ with_left m q ∷ l
  keeping_is m zero l h = absurd (let f : ⊥ = omega arith in f)
  keeping_is m (suc q) l h = refl

  -- the next maker is used up
  pub match_whole : (t : Taker A) (w : ℕ) (m : Order A) (l : List (Order A)) → within t.side t.kind m.price ≡ true → 1 ≤ m.quantity → m.quantity ≤ w
      → matching t w (m ∷ l)
      ≡ record {
        fills = fill_from t m m.quantity true ∷ (matching t (w - m.quantity) l).fills;
        left = (matching t (w - m.quantity) l).left;
        rest = (matching t (w - m.quantity) l).rest;
      }
  unfolding matching
  match_whole t w m l e h k =
      let g : given t w m ≡ m.quantity = given_within t w m e ∙ (let f : min m.quantity w ≡ m.quantity = omega arith in f) in
      rw (g, filling_is t m m.quantity _ h, eq-eqb m.quantity m.quantity refl, sub_self m.quantity)

  -- the next maker is used in part, and nothing more is wanted
  pub match_part : (t : Taker A) (w : ℕ) (m : Order A) (l : List (Order A)) → within t.side t.kind m.price ≡ true → 1 ≤ w → w < m.quantity → Positive l
      → matching t w (m ∷ l) ≡ record { fills = fill_from t m w false ∷ []; left = with_left m (m.quantity - w) ∷ l; rest = 0 }
  unfolding matching
  match_part t w m l e h k p =
      let g : given t w m ≡ w = given_within t w m e ∙ (let f : min m.quantity w ≡ w = omega arith in f) in
      rw (g, sub_self w, idle_done t l p, filling_is t m w _ h, ne_eqb w m.quantity (λ q. omega arith), keeping_is m (m.quantity - w) _ (omega arith))

  Reads : Taker A → ℕ → List (Order A) → Outcome A → Type 0
  Reads t w l o = Taken t w l o.fills o.left o.rest

  -- matching takes the makers in their turn
  pub taken : (t : Taker A) (w : ℕ) {l : List (Order A)} → Sorted (opposite t.side) l → Positive l
      → Taken t w l (matching t w l).fills (matching t w l).left (matching t w l).rest
  unfolding matching Reads
  taken t w sorted[] p = nobody
  taken t w (sorted∷ {m = m} {l = l} a b) (p & q) = go (within t.side t.kind m.price) refl (leb m.quantity w) refl (taken t (w - m.quantity) b q)
    where
      go : (c : Bool) → within t.side t.kind m.price ≡ c → (d : Bool) → leb m.quantity w ≡ d
          → Reads t (w - m.quantity) l (matching t (w - m.quantity) l) → Reads t w (m ∷ l) (matching t w (m ∷ l))
      go false e d h r =
          subst (Reads t w (m ∷ l))
          (sym (idle_beyond t w (m ∷ l) (p & q) (e & all_map (λ n g. within_worse t.side t.kind m.price n.price g e) a))) (beyond e)
      go true e true h r = subst (Reads t w (m ∷ l)) (sym (match_whole t w m l e p (leb-true m.quantity w h))) (wholly e (leb-true m.quantity w h) r)
      go true e false h r = start w h
        where
          start : (v : ℕ) → leb m.quantity v ≡ false → Reads t v (m ∷ l) (matching t v (m ∷ l))
          start zero k = subst (Reads t 0 (m ∷ l)) (sym (idle_done t (m ∷ l) (p & q))) enough
          start (suc v) k =
              let one : 1 ≤ suc v = omega arith in
              subst (Reads t (suc v) (m ∷ l)) (sym (match_part t (suc v) m l e one (leb-false m.quantity (suc v) k) q)) (partly e one (leb-false m.quantity (suc v) k))

  -- and in no other way: the rules leave room for one outcome
  pub pinned : {t : Taker A} {w r : ℕ} {l k : List (Order A)} {f : List (Fill A)} → Taken t w l f k r → Sorted (opposite t.side) l → Positive l
      → matching t w l ≡ record { fills = f; left = k; rest = r }
  unfolding matching
  pinned {t} (enough {l = l}) a p = idle_done t l p
  pinned nobody a p = refl
  pinned {t} {w} (beyond {m = m} {l = l} e) (sorted∷ a b) p =
      idle_beyond t w (m ∷ l) p (e & all_map (λ n g. within_worse t.side t.kind m.price n.price g e) a)
  pinned {t} {w} (wholly {m = m} {l = l} e h d) (sorted∷ a b) (p & q) = match_whole t w m l e p h ∙ rw (pinned d b q)
  pinned {t} {w} (partly {m = m} {l = l} e h g) (sorted∷ a b) (p & q) = match_part t w m l e h g q

  -- makers lose what the taker gains
  pub losses : (t : Taker A) (w : ℕ) (l : List (Order A)) → supply l ≡ total (matching t w l).fills + supply (matching t w l).left
  unfolding matching supply total
  losses t w [] = refl
  losses t w (m ∷ l) = go (given t w m) (m.quantity - given t w m) (given_le t w m).0 refl (matching t (w - given t w m) l).fills (matching t (w - given t w m) l).left (losses t (w - given t w m) l)
    where
      go : (g q : ℕ) → g ≤ m.quantity → m.quantity - g ≡ q → (f : List (Fill A)) (k : List (Order A)) → supply l ≡ total f + supply k
          → m.quantity + supply l ≡ total (filling t m g f) + supply (keeping m q k)
      go zero zero h e f k r = omega arith
      go zero (suc q) h e f k r = omega arith
      go (suc g) zero h e f k r = omega arith
      go (suc g) (suc q) h e f k r = omega arith

  pub gains : (t : Taker A) (w : ℕ) (l : List (Order A)) → w ≡ total (matching t w l).fills + (matching t w l).rest
  unfolding matching total
  gains t w [] = omega arith
  gains t w (m ∷ l) = go (given t w m) (given_le t w m).1 (matching t (w - given t w m) l).fills (matching t (w - given t w m) l).rest (gains t (w - given t w m) l)
    where
      go : (g : ℕ) → g ≤ w → (f : List (Fill A)) (r : ℕ) → w - g ≡ total f + r → w ≡ total (filling t m g f) + r
      go zero h f r e = omega arith
      go (suc g) h f r e = omega arith

  pub outcome_taken : {l : List (Order A)} (t : Taker A) → Sorted (opposite t.side) l → Positive l
      → Taken t t.quantity l (outcome t l).fills (outcome t l).left (outcome t l).rest
  unfolding outcome
  outcome_taken t a p = taken t t.quantity a p

  pub outcome_losses : (t : Taker A) (l : List (Order A)) → supply l ≡ total (outcome t l).fills + supply (outcome t l).left
  unfolding outcome
  outcome_losses t l = losses t t.quantity l

  pub outcome_gains : (t : Taker A) (l : List (Order A)) → t.quantity ≡ total (outcome t l).fills + (outcome t l).rest
  unfolding outcome
  outcome_gains t l = gains t t.quantity l

  -- ---- the book

  -- the best bid of a whole book is below its best ask; so it stays in every history
  pub best_apart : (b : Book A) → Whole b → (p q : ℕ) → best b.bids ≡ some p → best b.asks ≡ some q → p < q
  best_apart b w p q = go b.bids b.asks (w.apart bid)
    where
      go : (l k : List (Order A)) → Apart bid l k → best l ≡ some p → best k ≡ some q → p < q
      go [] k a e f = absurd (let n : ◌≡◌ {A = ℕ} 0 1 = cc in let x : ⊥ = omega arith in x)
      go (m ∷ l) [] a e f = absurd (let n : ◌≡◌ {A = ℕ} 0 1 = cc in let x : ⊥ = omega arith in x)
      go (m ∷ l) (n ∷ k) a e f =
          let x : m.price ≡ p = cc in
          let y : n.price ≡ q = cc in
          omega (arith, leb-false n.price m.price (all_head (all_head a)))

  pub spread_positive : (z : Size) (h : List (Call A)) (p q : ℕ) → best (end z h).book.bids ≡ some p → best (end z h).book.asks ≡ some q → p < q
  spread_positive z h p q = best_apart (end z h).book (whole_end z h) p q
