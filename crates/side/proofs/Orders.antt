-- A side's codes as orders: what leaving and coming to rest make of them, in the rules' terms. Assumes nothing.
use Prim.Native.Nat.{suc, ℕ, ◌<◌, ◌≤◌}
use mathlib.Core.Bool.{Bool, cond, false, not, true, ◌&&◌}
use mathlib.Core.List.{List, append_assoc, append-nil, map, [], ◌++◌, ◌∷◌}
use mathlib.Core.Logic.{◌≢◌}
use mathlib.Core.Path.{ap, refl, sym, ◌∙◌, ◌≡◌}
use native.Mathlib.Omega.{arith}
use lib.Dec.{eqb, ltb}
use lib.ListN.{length}
use borrow.Author.Tests.{eqb-false, eqb-true, le-leb, lt-leb, ltb-false, ltb-true}
use Rattle.rules.specs.Rules.{Order, Side, as_good, ask, bid, hide, place}
use Rattle.rules.specs.Whole.{one}
use Rattle.records.specs.Rows.{field}
use Rattle.arena.specs.Ring.{cut}
use Rattle.arena.specs.Times.{times}
use Rattle.arena.proofs.Times.{one_self, times_append}
use Rattle.side.specs.Doors.{keep_level, resting, without}
use Rattle.side.specs.Levels.{Ladder, Lvl, downs, nth, ups}
use Rattle.side.specs.Orders.{codes, order_at, orders}
use Rattle.side.proofs.Leaving.{stands}
use Rattle.side.proofs.Levels.{downs_times}

pub codes_times : (s : Side) (x : ℕ) (ws : List Lvl) → times x (codes s ws) ≡ times x (ups ws)
codes_times bid x ws = downs_times x ws
codes_times ask x ws = refl

-- ## leaving
cut_left : (c : ℕ) (a b : List ℕ) → 1 ≤ times c a → cut c (a ++ b) ≡ cut c a ++ b
cut_left c [] b h = absurd (let z : ⊥ = omega arith in z)
cut_left c (x ∷ a) b h = go (eqb c x) refl (cut_left c a b)
  where
    go : (t : Bool) → eqb c x ≡ t → (1 ≤ times c a → cut c (a ++ b) ≡ cut c a ++ b) → cond t (a ++ b) (x ∷ cut c (a ++ b)) ≡ cond t a (x ∷ cut c a) ++ b
    go true e k = refl
    go false e k = ap (λ (l : List ℕ). x ∷ l) (k (omega (arith, ap one e)))

cut_right : (c : ℕ) (a b : List ℕ) → times c a ≡ 0 → cut c (a ++ b) ≡ a ++ cut c b
cut_right c [] b h = refl
cut_right c (x ∷ a) b h = go (eqb c x) refl (cut_right c a b)
  where
    go : (t : Bool) → eqb c x ≡ t → (times c a ≡ 0 → cut c (a ++ b) ≡ a ++ cut c b) → cond t (a ++ b) (x ∷ cut c (a ++ b)) ≡ x ∷ (a ++ cut c b)
    go true e k = absurd (let z : ⊥ = omega (arith, ap one e) in z)
    go false e k = ap (λ (l : List ℕ). x ∷ l) (k (omega arith))

keep_ups : (p : ℕ) (q : List ℕ) (ws : List Lvl) → ups (keep_level p q ws) ≡ q ++ ups ws
keep_ups p [] ws = refl
keep_ups p (x ∷ q) ws = refl

keep_downs : (p : ℕ) (q : List ℕ) (ws : List Lvl) → downs (keep_level p q ws) ≡ downs ws ++ q
keep_downs p [] ws = sym (append-nil (downs ws))
keep_downs p (x ∷ q) ws = refl

without_ups : (c : ℕ) (ws : List Lvl) → 1 ≤ times c (ups ws) → ups (without c ws) ≡ cut c (ups ws)
without_ups c [] h = absurd (let z : ⊥ = omega arith in z)
without_ups c (w ∷ ws) h = go (ltb 0 (times c w.queue)) refl (without_ups c ws)
  where
    go : (t : Bool) → ltb 0 (times c w.queue) ≡ t → (1 ≤ times c (ups ws) → ups (without c ws) ≡ cut c (ups ws))
        → ups (cond t (keep_level w.price (cut c w.queue) ws) (w ∷ without c ws)) ≡ cut c (w.queue ++ ups ws)
    go true e k = keep_ups w.price (cut c w.queue) ws ∙ sym (cut_left c w.queue (ups ws) (ltb-true 0 (times c w.queue) e))
    go false e k =
        let z : times c w.queue ≡ 0 = omega (arith, ltb-false 0 (times c w.queue) e) in
        ap (λ (l : List ℕ). w.queue ++ l) (k (omega (arith, times_append c w.queue (ups ws)))) ∙ sym (cut_right c w.queue (ups ws) z)

without_downs : (c : ℕ) (ws : List Lvl) → 1 ≤ times c (ups ws) → times c (ups ws) ≤ 1 → downs (without c ws) ≡ cut c (downs ws)
without_downs c [] h o = absurd (let z : ⊥ = omega arith in z)
without_downs c (w ∷ ws) h o = go (ltb 0 (times c w.queue)) refl (without_downs c ws)
  where
    go : (t : Bool) → ltb 0 (times c w.queue) ≡ t → (1 ≤ times c (ups ws) → times c (ups ws) ≤ 1 → downs (without c ws) ≡ cut c (downs ws))
        → downs (cond t (keep_level w.price (cut c w.queue) ws) (w ∷ without c ws)) ≡ cut c (downs ws ++ w.queue)
    go true e k =
        let i : 1 ≤ times c w.queue = ltb-true 0 (times c w.queue) e in
        keep_downs w.price (cut c w.queue) ws ∙ sym (cut_right c (downs ws) w.queue (omega (arith, downs_times c ws, times_append c w.queue (ups ws))))
    go false e k =
        let z : times c w.queue ≡ 0 = omega (arith, ltb-false 0 (times c w.queue) e) in
        let i : 1 ≤ times c (ups ws) = omega (arith, times_append c w.queue (ups ws)) in
        ap (λ (l : List ℕ). l ++ w.queue) (k i (omega (arith, times_append c w.queue (ups ws)))) ∙ sym (cut_left c (downs ws) w.queue (omega (arith, downs_times c ws)))

pub without_codes : (s : Side) (c : ℕ) (ws : List Lvl) → 1 ≤ times c (ups ws) → times c (ups ws) ≤ 1 → codes s (without c ws) ≡ cut c (codes s ws)
without_codes bid c ws h o = without_downs c ws h o
without_codes ask c ws h o = without_ups c ws h

-- ## coming to rest
-- each level's codes have its price, and the later levels' are higher
abbrev pub Tiers : List ℕ → List Lvl → Type 0
Tiers rs [] = Unit {0}
Tiers rs (w ∷ ws) = ((x : ℕ) → 1 ≤ times x w.queue → field rs 2 x ≡ w.price) × ((x : ℕ) → 1 ≤ times x (ups ws) → w.price < field rs 2 x) × Tiers rs ws

tiers : (rs : List ℕ) (ws : List Lvl) → ((i x : ℕ) → i < length ws → 1 ≤ times x (nth ws i).queue → field rs 2 x ≡ (nth ws i).price)
    → ((i j : ℕ) → i < j → j < length ws → (nth ws i).price < (nth ws j).price) → Tiers rs ws
tiers rs [] a b = tt
tiers rs (w ∷ ws) a b = (
  λ x i. a 0 x (omega arith) i,
  λ x i. let v = stands ws x i in omega (arith, a (suc v.at) x (omega (arith, v.below)) v.inside, b 0 (suc v.at) (omega arith) (omega (arith, v.below))),
  tiers rs ws (λ i x h g. a (suc i) x (omega arith) g) (λ i j h g. b (suc i) (suc j) (omega arith) (omega arith)),
)

pub tiers_frame : (rs ss : List ℕ) (ws : List Lvl) → ((x : ℕ) → 1 ≤ times x (ups ws) → field ss 2 x ≡ field rs 2 x) → Tiers rs ws → Tiers ss ws
tiers_frame rs ss [] e t = tt
tiers_frame rs ss (w ∷ ws) e t = (
  λ x i. e x (omega (arith, times_append x w.queue (ups ws))) ∙ t.0 x i,
  λ x i. omega (arith, e x (omega (arith, times_append x w.queue (ups ws))), t.1 x i),
  tiers_frame rs ss ws (λ x i. e x (omega (arith, times_append x w.queue (ups ws)))) t.2,
)

pub side_tiers : {rs lv : List ℕ} {n : ℕ} {ws : List Lvl} → Ladder rs lv n ws → Tiers rs ws
side_tiers {rs} {lv} {n} {ws} s = tiers rs ws (λ i x h g. (s.level i (omega (arith, s.count))).priced x g) (λ i j h g. s.rising i j h (omega (arith, s.count)))

module _ (rs : List ℕ) (fnd : ℕ → Bool) (s : Side) (c : ℕ) where
  pub orders_append : (a b : List ℕ) → orders rs fnd (a ++ b) ≡ orders rs fnd a ++ orders rs fnd b
  orders_append [] b = refl
  orders_append (x ∷ a) b = ap (λ (l : List (Order (Unit {0}))). order_at rs fnd x ∷ l) (orders_append a b)

  -- past all that are as good
  place_pass : (a b : List ℕ) → ((x : ℕ) → 1 ≤ times x a → as_good s (field rs 2 x) (field rs 2 c) ≡ true)
      → place s (order_at rs fnd c) (orders rs fnd (a ++ b)) ≡ orders rs fnd a ++ place s (order_at rs fnd c) (orders rs fnd b)
  unfolding place
  place_pass [] b h = refl
  place_pass (x ∷ a) b h = rw (h x (omega (arith, one_self x)), place_pass a b (λ y i. h y (omega arith)))

  -- before all that are not
  place_stop : (b : List ℕ) → ((x : ℕ) → 1 ≤ times x b → as_good s (field rs 2 x) (field rs 2 c) ≡ false) → place s (order_at rs fnd c) (orders rs fnd b) ≡ orders rs fnd (c ∷ b)
  unfolding place
  place_stop [] h = refl
  place_stop (x ∷ b) h = rw (h x (omega (arith, one_self x)))

  place_keep : (a b : List ℕ) → ((x : ℕ) → 1 ≤ times x b → as_good s (field rs 2 x) (field rs 2 c) ≡ false)
      → place s (order_at rs fnd c) (orders rs fnd (a ++ b)) ≡ place s (order_at rs fnd c) (orders rs fnd a) ++ orders rs fnd b
  unfolding place
  place_keep [] b h = place_stop b h
  place_keep (x ∷ a) b h = go (as_good s (field rs 2 x) (field rs 2 c)) (place_keep a b h)
    where
      go : (t : Bool) → place s (order_at rs fnd c) (orders rs fnd (a ++ b)) ≡ place s (order_at rs fnd c) (orders rs fnd a) ++ orders rs fnd b
          → cond t (order_at rs fnd x ∷ place s (order_at rs fnd c) (orders rs fnd (a ++ b))) (order_at rs fnd c ∷ order_at rs fnd x ∷ orders rs fnd (a ++ b))
          ≡ cond t (order_at rs fnd x ∷ place s (order_at rs fnd c) (orders rs fnd a)) (order_at rs fnd c ∷ order_at rs fnd x ∷ orders rs fnd a) ++ orders rs fnd b
      go true e = ap (λ (l : List (Order (Unit {0}))). order_at rs fnd x ∷ l) e
      go false e = ap (λ (l : List (Order (Unit {0}))). order_at rs fnd c ∷ order_at rs fnd x ∷ l) (orders_append a b)

-- the levels with c at rest, as orders: the rules' `place`
place_ups : (rs : List ℕ) (fnd : ℕ → Bool) (c p : ℕ) (ws : List Lvl) → field rs 2 c ≡ p → Tiers rs ws
    → orders rs fnd (ups (resting c p ws)) ≡ place ask (order_at rs fnd c) (orders rs fnd (ups ws))
place_ups rs fnd c p [] e t = sym (place_stop rs fnd ask c [] (λ x i. absurd (let z : ⊥ = omega arith in z)))
place_ups rs fnd c p (w ∷ ws) e t = go (ltb w.price p) refl (eqb w.price p) refl (place_ups rs fnd c p ws e t.2)
  where
    go : (a : Bool) → ltb w.price p ≡ a → (b : Bool) → eqb w.price p ≡ b → orders rs fnd (ups (resting c p ws)) ≡ place ask (order_at rs fnd c) (orders rs fnd (ups ws))
        → orders rs fnd (ups (cond a (w ∷ resting c p ws) (cond b (record { price = w.price; queue = w.queue ++ c ∷ [] } ∷ ws) (record { price = p; queue = c ∷ [] } ∷ w ∷ ws))))
        ≡ place ask (order_at rs fnd c) (orders rs fnd (w.queue ++ ups ws))
    go true x b y k =
        orders_append rs fnd ask c w.queue (ups (resting c p ws)) ∙ (ap (λ (l : List (Order (Unit {0}))). orders rs fnd w.queue ++ l) k
        ∙ sym (place_pass rs fnd ask c w.queue (ups ws) (λ z i. le-leb (field rs 2 z) (field rs 2 c) (omega (arith, t.0 z i, ltb-true w.price p x)))))
    go false x true y k =
        ap (orders rs fnd) (append_assoc w.queue (c ∷ []) (ups ws))
        ∙ (orders_append rs fnd ask c w.queue (c ∷ ups ws)
        ∙ (ap (λ (l : List (Order (Unit {0}))). orders rs fnd w.queue ++ l) (sym (place_stop rs fnd ask c (ups ws) (λ z i. lt-leb (field rs 2 z) (field rs 2 c) (omega (arith, t.1 z i, eqb-true w.price p y)))))
        ∙ sym (place_pass rs fnd ask c w.queue (ups ws) (λ z i. le-leb (field rs 2 z) (field rs 2 c) (omega (arith, t.0 z i, eqb-true w.price p y))))))
    go false x false y k =
        let d : w.price ≢ p = eqb-false w.price p y in
        sym (place_stop rs fnd ask c (w.queue ++ ups ws) (λ z i. lt-leb (field rs 2 z) (field rs 2 c) (far z (ltb 0 (times z w.queue)) refl i)))
      where
        far : (z : ℕ) (b : Bool) → ltb 0 (times z w.queue) ≡ b → 1 ≤ times z (w.queue ++ ups ws) → field rs 2 c < field rs 2 z
        far z true f i = let d : w.price ≢ p = eqb-false w.price p y in omega (arith, t.0 z (ltb-true 0 (times z w.queue) f), ltb-false w.price p x)
        far z false f i = let d : w.price ≢ p = eqb-false w.price p y in omega (arith, t.1 z (omega (arith, ltb-false 0 (times z w.queue) f, times_append z w.queue (ups ws))), ltb-false w.price p x)

place_downs : (rs : List ℕ) (fnd : ℕ → Bool) (c p : ℕ) (ws : List Lvl) → field rs 2 c ≡ p → Tiers rs ws
    → orders rs fnd (downs (resting c p ws)) ≡ place bid (order_at rs fnd c) (orders rs fnd (downs ws))
place_downs rs fnd c p [] e t = sym (place_stop rs fnd bid c [] (λ x i. absurd (let z : ⊥ = omega arith in z)))
place_downs rs fnd c p (w ∷ ws) e t = go (ltb w.price p) refl (eqb w.price p) refl (place_downs rs fnd c p ws e t.2)
  where
    good : p ≤ w.price → (z : ℕ) → 1 ≤ times z (downs ws ++ w.queue) → as_good bid (field rs 2 z) (field rs 2 c) ≡ true
    good h z i = le-leb (field rs 2 c) (field rs 2 z) (near (ltb 0 (times z w.queue)) refl)
      where
        near : (b : Bool) → ltb 0 (times z w.queue) ≡ b → field rs 2 c ≤ field rs 2 z
        near true f = omega (arith, t.0 z (ltb-true 0 (times z w.queue) f))
        near false f = omega (arith, t.1 z (omega (arith, ltb-false 0 (times z w.queue) f, times_append z (downs ws) w.queue, downs_times z ws)))

    all_pass : (p ≤ w.price) → orders rs fnd ((downs ws ++ w.queue) ++ c ∷ []) ≡ place bid (order_at rs fnd c) (orders rs fnd (downs ws ++ w.queue))
    all_pass h =
        orders_append rs fnd bid c (downs ws ++ w.queue) (c ∷ [])
        ∙ (ap (λ (l : List (Order (Unit {0}))). orders rs fnd (downs ws ++ w.queue) ++ l) (sym (place_stop rs fnd bid c [] (λ x i. absurd (let z : ⊥ = omega arith in z))))
        ∙ (sym (place_pass rs fnd bid c (downs ws ++ w.queue) [] (good h)) ∙ ap (λ (l : List ℕ). place bid (order_at rs fnd c) (orders rs fnd l)) (append-nil (downs ws ++ w.queue))))

    go : (a : Bool) → ltb w.price p ≡ a → (b : Bool) → eqb w.price p ≡ b → orders rs fnd (downs (resting c p ws)) ≡ place bid (order_at rs fnd c) (orders rs fnd (downs ws))
        → orders rs fnd (downs (cond a (w ∷ resting c p ws) (cond b (record { price = w.price; queue = w.queue ++ c ∷ [] } ∷ ws) (record { price = p; queue = c ∷ [] } ∷ w ∷ ws))))
        ≡ place bid (order_at rs fnd c) (orders rs fnd (downs ws ++ w.queue))
    go true x b y k =
        orders_append rs fnd bid c (downs (resting c p ws)) w.queue ∙ (ap (λ (l : List (Order (Unit {0}))). l ++ orders rs fnd w.queue) k
        ∙ sym (place_keep rs fnd bid c (downs ws) w.queue (λ z i. lt-leb (field rs 2 c) (field rs 2 z) (omega (arith, t.0 z i, ltb-true w.price p x)))))
    go false x true y k = ap (orders rs fnd) (sym (append_assoc (downs ws) w.queue (c ∷ []))) ∙ all_pass (ltb-false w.price p x)
    go false x false y k = all_pass (ltb-false w.price p x)

pub place_codes : (s : Side) (rs : List ℕ) (fnd : ℕ → Bool) (c p : ℕ) (ws : List Lvl) → field rs 2 c ≡ p → Tiers rs ws
    → orders rs fnd (codes s (resting c p ws)) ≡ place s (order_at rs fnd c) (orders rs fnd (codes s ws))
place_codes bid rs fnd c p ws e t = place_downs rs fnd c p ws e t
place_codes ask rs fnd c p ws e t = place_ups rs fnd c p ws e t

-- ## frames
pub orders_frame : (rs ss : List ℕ) (fnd gnd : ℕ → Bool) (l : List ℕ) → ((g x : ℕ) → g < 3 → 1 ≤ times x l → field ss g x ≡ field rs g x) → ((x : ℕ) → 1 ≤ times x l → gnd x ≡ fnd x)
    → orders ss gnd l ≡ orders rs fnd l
orders_frame rs ss fnd gnd [] a b = refl
orders_frame rs ss fnd gnd (c ∷ l) a b =
    rw (
      a 0 c (omega arith) (omega (arith, one_self c)),
      a 1 c (omega arith) (omega (arith, one_self c)),
      a 2 c (omega arith) (omega (arith, one_self c)),
      b c (omega (arith, one_self c)),
      orders_frame rs ss fnd gnd l (λ g x h i. a g x h (omega arith)) (λ x i. b x (omega arith)),
    )

-- an id that is found elsewhere now
pub orders_hide : (rs ss : List ℕ) (fnd gnd : ℕ → Bool) (i : ℕ) (l : List ℕ) → ((g x : ℕ) → g < 3 → 1 ≤ times x l → field ss g x ≡ field rs g x)
    → ((x : ℕ) → 1 ≤ times x l → gnd x ≡ fnd x && not (eqb (field rs 0 x) i)) → orders ss gnd l ≡ map (hide i) (orders rs fnd l)
orders_hide rs ss fnd gnd i [] a b = refl
orders_hide rs ss fnd gnd i (c ∷ l) a b =
    rw (
      a 0 c (omega arith) (omega (arith, one_self c)),
      a 1 c (omega arith) (omega (arith, one_self c)),
      a 2 c (omega arith) (omega (arith, one_self c)),
      b c (omega (arith, one_self c)),
      orders_hide rs ss fnd gnd i l (λ g x h j. a g x h (omega arith)) (λ x j. b x (omega arith)),
    )
