-- Codes as the orders of the rules: all of them, their turns, their levels, the prices they occupy, and those found under an id. Assumes nothing.
use Prim.Native.Nat.{suc, ℕ, ◌+◌, ◌<◌, ◌≤◌}
use mathlib.Core.Bool.{Bool, cond, false, not, true, ◌&&◌}
use mathlib.Core.List.{List, [], ◌++◌, ◌∷◌}
use mathlib.Core.Logic.{◌≢◌, ⊎_elim}
use mathlib.Core.Path.{ap, refl, sym, ◌∙◌, ◌≡◌}
use native.Mathlib.Omega.{arith}
use lib.Dec.{eqb}
use lib.ListN.{length, length-append}
use borrow.Author.Tests.{eq-eqb, eqb-true, le-leb, ne_eqb}
use Rattle.rules.specs.Rules.{Level, Order, Side, as_good, ask, bid, joined, levels, occupied}
use Rattle.rules.specs.Whole.{All, Sorted, empty, one, seen, sorted[], sorted∷, ◌&◌}
use Rattle.rules.proofs.Bounds.{joined_head}
use Rattle.records.specs.Rows.{field}
use Rattle.records.proofs.Cases.{lt?}
use Rattle.search.specs.Seek.{entry_for}
use Rattle.arena.specs.Times.{times}
use Rattle.arena.proofs.Times.{one_self, times_append}
use Rattle.side.specs.Levels.{Lvl, downs, ups}
use Rattle.side.specs.Orders.{codes, order_at, orders}
use Rattle.side.proofs.Levels.{downs_times}
use Rattle.side.proofs.Orders.{Tiers}
use Rattle.ledger.specs.Desk.{Busy, found}
use Rattle.ranks.proofs.Queues.{each_more}

-- a code is in a joined list where it is in one of the two
pub split : (P : Type 0) (x : ℕ) (a b : List ℕ) → 1 ≤ times x (a ++ b) → (1 ≤ times x a → P) → (1 ≤ times x b → P) → P
split P x a b h f g = ⊎_elim (λ (l : times x a < 1). g (omega (arith, times_append x a b))) (λ (l : 1 ≤ times x a). f l) (lt? (times x a) 1)

pub codes_length : (s : Side) (ws : List Lvl) → length (codes s ws) ≡ length (ups ws)
codes_length ask ws = refl
codes_length bid [] = refl
codes_length bid (w ∷ ws) = omega (arith, length-append (downs ws) w.queue, length-append w.queue (ups ws), codes_length bid ws)

module _ (rs : List ℕ) (fnd : ℕ → Bool) where
  pub orders_length : (l : List ℕ) → length (orders rs fnd l) ≡ length l
  orders_length [] = refl
  orders_length (x ∷ l) = ap suc (orders_length l)

  -- ## All of them
  pub all_of : (P : Order (Unit {0}) → Type 0) (l : List ℕ) → ((x : ℕ) → 1 ≤ times x l → P (order_at rs fnd x)) → All P (orders rs fnd l)
  all_of P [] h = empty
  all_of P (x ∷ l) h = h x (omega (arith, one_self x)) & all_of P l (λ y i. h y (omega arith))

  pub all_at : (P : Order (Unit {0}) → Type 0) (l : List ℕ) (x : ℕ) → All P (orders rs fnd l) → 1 ≤ times x l → P (order_at rs fnd x)
  all_at P [] x a i = absurd (let z : ⊥ = omega arith in z)
  all_at P (y ∷ l) x (p & a) i = each_more (λ z. P (order_at rs fnd z)) y l p (λ z j. all_at P l z a j) x i

  -- ## Their turns

  -- each is as good as those behind it
  abbrev Falls : Side → List ℕ → Type 0
  Falls s [] = Unit {0}
  Falls s (x ∷ l) = ((y : ℕ) → 1 ≤ times y l → as_good s (field rs 2 x) (field rs 2 y) ≡ true) × Falls s l

  falls_append : (s : Side) (a b : List ℕ) → Falls s a → Falls s b → ((x y : ℕ) → 1 ≤ times x a → 1 ≤ times y b → as_good s (field rs 2 x) (field rs 2 y) ≡ true) → Falls s (a ++ b)
  falls_append s [] b f g h = g
  falls_append s (x ∷ a) b f g h =
      (λ y i. split _ y a b i (f.0 y) (λ j. h x y (omega (arith, one_self x)) j), falls_append s a b f.1 g (λ z y i j. h z y (omega arith) j))

  falls_queue : (s : Side) (p : ℕ) (q : List ℕ) → ((x : ℕ) → 1 ≤ times x q → field rs 2 x ≡ p) → Falls s q
  falls_queue s p [] h = tt
  falls_queue s p (x ∷ q) h = (λ y i. equal s (h x (omega (arith, one_self x))) (h y (omega arith)), falls_queue s p q (λ y i. h y (omega arith)))
    where
      equal : (s : Side) {u v : ℕ} → u ≡ p → v ≡ p → as_good s u v ≡ true
      equal bid {u} {v} e f = le-leb v u (omega arith)
      equal ask {u} {v} e f = le-leb u v (omega arith)

  falls_side : (s : Side) (ws : List Lvl) → Tiers rs ws → Falls s (codes s ws)
  falls_side bid [] t = tt
  falls_side bid (w ∷ ws) t = falls_append bid (downs ws) w.queue (falls_side bid ws t.2) (falls_queue bid w.price w.queue t.0)
      (λ x y i j. le-leb (field rs 2 y) (field rs 2 x) (omega (arith, t.0 y j, t.1 x (omega (arith, downs_times x ws)))))
  falls_side ask [] t = tt
  falls_side ask (w ∷ ws) t = falls_append ask w.queue (ups ws) (falls_queue ask w.price w.queue t.0) (falls_side ask ws t.2)
      (λ x y i j. le-leb (field rs 2 x) (field rs 2 y) (omega (arith, t.0 x i, t.1 y j)))

  sorted_of : (s : Side) (l : List ℕ) → Falls s l → Sorted s (orders rs fnd l)
  sorted_of s [] f = sorted[]
  sorted_of s (x ∷ l) f = sorted∷ (all_of (λ m. as_good s (field rs 2 x) m.price ≡ true) l f.0) (sorted_of s l f.1)

  pub sorted_side : (s : Side) (ws : List Lvl) → Tiers rs ws → Sorted s (orders rs fnd (codes s ws))
  sorted_side s ws t = sorted_of s (codes s ws) (falls_side s ws t)

  -- ## Their levels
  joined_length : (p q : ℕ) (v : Level) (l : List Level) → length (joined p q (v ∷ l)) ≡ one (not (eqb p v.price)) + length (v ∷ l)
  joined_length p q v l = go (eqb p v.price)
    where
      go : (b : Bool) → length (cond b (record { price = p; total = q + v.total } ∷ l) (record { price = p; total = q } ∷ v ∷ l)) ≡ one (not b) + length (v ∷ l)
      go true = omega arith
      go false = omega arith

  levels_one : (c : ℕ) → length (levels (orders rs fnd (c ∷ []))) ≡ 1
  unfolding levels
  levels_one c = refl

  levels_two : (c d : ℕ) (l : List ℕ) → length (levels (orders rs fnd (c ∷ d ∷ l))) ≡ one (not (eqb (field rs 2 c) (field rs 2 d))) + length (levels (orders rs fnd (d ∷ l)))
  unfolding levels
  levels_two c d l =
      let h = joined_head (field rs 2 d) (field rs 1 d) (levels (orders rs fnd l)) in
      rw h.2 (joined_length (field rs 2 c) (field rs 1 c) h.0 h.1 ∙ ap (λ (x : ℕ). one (not (eqb (field rs 2 c) x)) + length (h.0 ∷ h.1)) h.3)

  -- a queue is one level,
  levels_queue : (p : ℕ) (q : List ℕ) → 1 ≤ length q → ((x : ℕ) → 1 ≤ times x q → field rs 2 x ≡ p) → length (levels (orders rs fnd q)) ≡ 1
  levels_queue p [] o h = absurd (let z : ⊥ = omega arith in z)
  levels_queue p (c ∷ []) o h = levels_one c
  levels_queue p (c ∷ d ∷ q) o h =
      let e : field rs 2 c ≡ field rs 2 d = h c (omega (arith, one_self c)) ∙ sym (h d (omega (arith, one_self d))) in
      omega (arith, levels_two c d q, ap (λ (b : Bool). one (not b)) (eq-eqb (field rs 2 c) (field rs 2 d) e), levels_queue p (d ∷ q) (omega arith) (λ x i. h x (omega arith)))

  -- and those of lists whose prices differ add up
  levels_append : (a b : List ℕ) → ((x y : ℕ) → 1 ≤ times x a → 1 ≤ times y b → field rs 2 x ≢ field rs 2 y)
      → length (levels (orders rs fnd (a ++ b))) ≡ length (levels (orders rs fnd a)) + length (levels (orders rs fnd b))
  unfolding levels
  levels_append [] b h = omega arith
  levels_append (c ∷ []) [] h = omega arith
  levels_append (c ∷ []) (d ∷ b) h =
      omega (arith, levels_one c, levels_two c d b, ap (λ (t : Bool). one (not t)) (ne_eqb (field rs 2 c) (field rs 2 d) (h c d (omega (arith, one_self c)) (omega (arith, one_self d)))))
  levels_append (c ∷ d ∷ a) b h = omega (arith, levels_two c d (a ++ b), levels_two c d a, levels_append (d ∷ a) b (λ x y i j. h x y (omega arith) j))

  pub levels_side : (s : Side) (ws : List Lvl) → Tiers rs ws → Busy ws → length (levels (orders rs fnd (codes s ws))) ≡ length ws
  unfolding levels
  levels_side bid [] t b = refl
  levels_side bid (w ∷ ws) t b =
      omega (
        arith,
        levels_append (downs ws) w.queue (λ x y i j. omega (arith, t.0 y j, t.1 x (omega (arith, downs_times x ws)))),
        levels_queue w.price w.queue b.0 t.0,
        levels_side bid ws t.2 b.1,
      )
  levels_side ask [] t b = refl
  levels_side ask (w ∷ ws) t b =
      omega (
        arith,
        levels_append w.queue (ups ws) (λ x y i j. omega (arith, t.0 x i, t.1 y j)),
        levels_queue w.price w.queue b.0 t.0,
        levels_side ask ws t.2 b.1,
      )

  -- ## The prices they occupy
  pub occupied_no : (p : ℕ) (l : List ℕ) → ((x : ℕ) → 1 ≤ times x l → field rs 2 x ≢ p) → occupied p (orders rs fnd l) ≡ false
  unfolding occupied
  occupied_no p [] h = refl
  occupied_no p (y ∷ l) h = rw (ne_eqb p (field rs 2 y) (λ e. h y (omega (arith, one_self y)) (sym e)), occupied_no p l (λ x i. h x (omega arith)))

-- ## Those found under an id: only what the search finds there
pub seen_most : (rs se : List ℕ) (i : ℕ) (l : List ℕ) → seen i (orders rs (found se rs) l) ≤ times (entry_for se rs i) l
unfolding seen
seen_most rs se i [] = omega arith
seen_most rs se i (x ∷ l) = go (found se rs x) refl (eqb (field rs 0 x) i) refl (seen_most rs se i l)
  where
    go : (a : Bool) → found se rs x ≡ a → (b : Bool) → eqb (field rs 0 x) i ≡ b → seen i (orders rs (found se rs) l) ≤ times (entry_for se rs i) l
        → one (a && b) + seen i (orders rs (found se rs) l) ≤ one (eqb (entry_for se rs i) x) + times (entry_for se rs i) l
    go true e true f k =
        let y : entry_for se rs i ≡ x = sym (ap (entry_for se rs) (eqb-true (field rs 0 x) i f)) ∙ eqb-true (entry_for se rs (field rs 0 x)) x e in
        omega (arith, ap one (eq-eqb (entry_for se rs i) x y))
    go true e false f k = omega arith
    go false e b f k = omega arith
