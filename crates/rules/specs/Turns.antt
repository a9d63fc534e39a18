-- Demand 2's rules once more, as a reader would check them by hand: makers in their turn, whole ones first, then perhaps a part of the next.
-- Assumes nothing.
use Rattle.std.specs.Prelude.{ℕ, ◌+◌, ◌-◌, ◌≤◌, ◌<◌, ◌≡◌, true, false, List, [], ◌∷◌, map}
use Rattle.std.proofs.Math.Option.{none, some}
use Rattle.rules.specs.Whole.{Whole}
use Rattle.rules.specs.Rules.{within, Order, Taker, Fill, fill_from, with_left, at_rest, place, hide, own, standing, total, Desk, done, Result, makers, event, stats_after}

module _ {A : Type 0} where
  -- t, wanting w, meets these makers: its fills, the makers left, and what it still wants
  pub data Taken (t : Taker A) : ℕ → List (Order A) → List (Fill A) → List (Order A) → ℕ → Type 0 where
    enough : {l : List (Order A)} → Taken t 0 l [] l 0
    nobody : {w : ℕ} → Taken t w [] [] [] w
    beyond : {w : ℕ} {m : Order A} {l : List (Order A)} → within t.side t.kind m.price ≡ false → Taken t w (m ∷ l) [] (m ∷ l) w
    wholly : {w r : ℕ} {m : Order A} {l k : List (Order A)} {f : List (Fill A)} → within t.side t.kind m.price ≡ true → m.quantity ≤ w
        → Taken t (w - m.quantity) l f k r → Taken t w (m ∷ l) (fill_from t m m.quantity true ∷ f) k r
    partly : {w : ℕ} {m : Order A} {l : List (Order A)} → within t.side t.kind m.price ≡ true → 1 ≤ w → w < m.quantity
        → Taken t w (m ∷ l) (fill_from t m w false ∷ []) (with_left m (m.quantity - w) ∷ l) 0

  -- the quantities that rest
  unfoldable pub supply : List (Order A) → ℕ
  supply [] = 0
  supply (m ∷ l) = m.quantity + supply l

  -- Demand 2: what an accepted order t makes of the desk d. It takes the makers in their turn, as far as limit and quantity reach, and says so; they lose
  -- what t gains; the rest stands behind all others at its price and is the one found under its id, or lapses; the statistics get the fills; nothing else
  -- changes, and the best bid stays below the best ask.
  pub record Demand2 (d : Desk A) (t : Taker A) (r : Result A) : Type 0 where
    pub fills : List (Fill A)
    pub left : List (Order A)
    pub rest : ℕ
    pub turns : Taken t t.quantity (makers t d) fills left rest
    pub says : r.answer ≡ done (event t.kind t.id fills rest) fills
    pub gains : t.quantity ≡ total fills + rest
    pub losses : supply (makers t d) ≡ total fills + supply left
    pub stands : (p : ℕ) → standing t.kind rest ≡ some p
        → (own t.side r.desk.book ≡ place t.side (at_rest t p rest) (map (hide t.id) (own t.side d.book))) × (makers t r.desk ≡ map (hide t.id) left)
    pub lapses : standing t.kind rest ≡ none → (own t.side r.desk.book ≡ own t.side d.book) × (makers t r.desk ≡ left)
    pub statistics : r.desk.stats ≡ stats_after fills d.stats
    pub whole : Whole r.desk.book
