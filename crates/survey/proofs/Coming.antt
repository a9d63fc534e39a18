-- What is still to come of a side while its prices are walked, best first: the levels that are left, their codes, and when none of them is met any more.
-- Assumes nothing.
use Prim.Native.Nat.{suc, zero, ℕ, ◌+◌, ◌-◌, ◌<◌, ◌≤◌}
use mathlib.Core.Bool.{Bool, false, true}
use mathlib.Core.List.{List, append_assoc, append-nil, [], ◌++◌, ◌∷◌}
use mathlib.Core.Logic.{⊎_elim}
use mathlib.Core.Path.{ap, refl, sym, ◌∙◌, ◌≡◌}
use native.Mathlib.Omega.{arith}
use lib.Dec.{eqb}
use lib.ListN.{drop, length, length-drop, length-take, take, take-append-drop}
use lib.Seq.{drop-cons, drop-length, get_or-drop, get_or-take, take-length, take-suc}
use borrow.Author.Tests.{eqb-true, le-leb}
use Rattle.rules.specs.Rules.{Order, Side, as_good, ask, bid}
use Rattle.rules.specs.Whole.{All, empty, one, ◌&◌}
use Rattle.records.specs.Rows.{field}
use Rattle.records.proofs.Cases.{lt?}
use Rattle.arena.specs.Links.{link}
use Rattle.arena.specs.Ring.{Run}
use Rattle.arena.specs.Times.{times}
use Rattle.arena.proofs.Once.{Ending}
use Rattle.arena.proofs.Times.{one_self, times_append}
use Rattle.side.specs.Levels as level
use Rattle.side.specs.Levels.{Ladder, Lvl, downs, nth, ups}
use Rattle.side.specs.Orders.{codes, order_at, orders}
use Rattle.side.proofs.Leaving.{stands}
use Rattle.side.proofs.Orders.{codes_times}
use Rattle.side.specs.Prices.{row_in_turn}

-- ## Orders at a list of codes

module _ (rs : List ℕ) (fnd : ℕ → Bool) where
  pub orders_all : (P : Order (Unit {0}) → Type 0) (l : List ℕ) → ((x : ℕ) → 1 ≤ times x l → P (order_at rs fnd x)) → All P (orders rs fnd l)
  orders_all P [] h = empty
  orders_all P (c ∷ l) h = h c (omega (arith, one_self c)) & orders_all P l (λ x i. h x (omega arith))

  pub orders_each : (P : Order (Unit {0}) → Type 0) (l : List ℕ) → All P (orders rs fnd l) → (x : ℕ) → 1 ≤ times x l → P (order_at rs fnd x)
  orders_each P [] a x i = absurd (let z : ⊥ = omega arith in z)
  orders_each P (c ∷ l) (p & a) x i = go (eqb x c) refl (orders_each P l a x)
    where
      go : (b : Bool) → eqb x c ≡ b → (1 ≤ times x l → P (order_at rs fnd x)) → P (order_at rs fnd x)
      go true e k = rw (eqb-true x c e) p
      go false e k = k (omega (arith, ap one e))

-- ## A queue from its first code on

pub run_ending : (rs : List ℕ) (h : ℕ) (B : ℕ → ℕ) (p : ℕ) (l : List ℕ) → Run (link rs 3 h) B p l 0 → times 0 l ≡ 0 → Ending (field rs 3) (link rs 3 h p) l
run_ending rs h B p [] r z = r.0
run_ending rs h B p (zero ∷ l) r z = absurd (let f : ⊥ = omega (arith, one_self 0) in f)
run_ending rs h B p (suc i ∷ l) r z = (r.0, omega arith, run_ending rs h B (suc i) l r.2 (omega arith))

-- the first code of a queue that has one, and what follows it
pub record First (F : ℕ → ℕ) (c : ℕ) (q : List ℕ) : Type 0 where
  pub rest : List ℕ
  pub is : q ≡ c ∷ rest
  pub ends : Ending F (F c) rest

pub ending_first : (F : ℕ → ℕ) (c : ℕ) (q : List ℕ) → 1 ≤ c → Ending F c q → First F c q
ending_first F c [] h p = absurd (let z : ⊥ = omega (arith, p) in z)
ending_first F c (d ∷ l) h p = record { rest = l; is = ap (λ (x : ℕ). x ∷ l) (sym p.0); ends = rw p.0 p.2 }

pub ending_none : (F : ℕ → ℕ) (c : ℕ) (q : List ℕ) → c ≡ 0 → Ending F c q → q ≡ []
ending_none F c [] e p = refl
ending_none F c (d ∷ l) e p = absurd (let z : ⊥ = omega (arith, p.0, p.1) in z)

-- ## The levels to come

-- the levels of side sd to come when k of the n are left
abbrev pub coming : Side → ℕ → List Lvl → ℕ → List Lvl
coming bid n ws k = take k ws
coming ask n ws k = drop (n - k) ws

ups_append : (a b : List Lvl) → ups (a ++ b) ≡ ups a ++ ups b
ups_append [] b = refl
ups_append (w ∷ a) b = ap (λ (l : List ℕ). w.queue ++ l) (ups_append a b) ∙ sym (append_assoc w.queue (ups a) (ups b))

downs_last : (a : List Lvl) (w : Lvl) → downs (a ++ w ∷ []) ≡ w.queue ++ downs a
downs_last [] w = sym (append-nil w.queue)
downs_last (v ∷ a) w = ap (λ (l : List ℕ). l ++ v.queue) (downs_last a w) ∙ append_assoc w.queue (downs a) v.queue

-- the queue of the level whose turn it is, and then those of the others
pub coming_step : (sd : Side) (n : ℕ) (ws : List Lvl) (k : ℕ) → length ws ≡ n → 1 ≤ k → k ≤ n
    → codes sd (coming sd n ws k) ≡ (nth ws (row_in_turn sd n k)).queue ++ codes sd (coming sd n ws (k - 1))
coming_step bid n ws zero e h g = absurd (let z : ⊥ = omega arith in z)
coming_step bid n ws (suc j) e h g =
    let f : suc j - 1 ≡ j = omega arith in
    rw f (ap downs (take-suc ws j (level.empty 0) (omega arith)) ∙ downs_last (take j ws) (nth ws j))
coming_step ask n ws k e h g =
    let f : n - (k - 1) ≡ suc (n - k) = omega arith in
    rw f (ap ups (drop-cons ws (n - k) (level.empty 0) (omega arith)))

pub coming_all : (sd : Side) (n : ℕ) (ws : List Lvl) → length ws ≡ n → codes sd (coming sd n ws n) ≡ codes sd ws
coming_all bid n ws e = rw (← e) (ap downs (take-length ws))
coming_all ask n ws e = let f : n - n ≡ 0 = omega arith in rw f

pub coming_none : (sd : Side) (n : ℕ) (ws : List Lvl) (k : ℕ) → length ws ≡ n → k ≤ 0 → codes sd (coming sd n ws k) ≡ []
coming_none bid n ws zero e h = refl
coming_none bid n ws (suc k) e h = absurd (let z : ⊥ = omega arith in z)
coming_none ask n ws k e h = let f : n - k ≡ length ws = omega arith in rw f (ap ups (drop-length ws))

-- each is a code of the side
part_times : (x a : ℕ) (ws : List Lvl) → times x (ups (take a ws)) + times x (ups (drop a ws)) ≡ times x (ups ws)
part_times x a ws = sym (times_append x (ups (take a ws)) (ups (drop a ws))) ∙ ap (times x) (sym (ups_append (take a ws) (drop a ws)) ∙ ap ups (take-append-drop a ws))

pub coming_times : (sd : Side) (n : ℕ) (ws : List Lvl) (k x : ℕ) → times x (codes sd (coming sd n ws k)) ≤ times x (ups ws)
coming_times bid n ws k x = omega (arith, codes_times bid x (take k ws), part_times x k ws)
coming_times ask n ws k x = omega (arith, part_times x (n - k) ws)

-- the level whose turn it is has the best price of them
pub coming_worse : {rs lv : List ℕ} {n : ℕ} {ws : List Lvl} (sd : Side) → Ladder rs lv n ws → (k x : ℕ) → 1 ≤ k → k ≤ n → 1 ≤ times x (codes sd (coming sd n ws k))
    → as_good sd (nth ws (row_in_turn sd n k)).price (field rs 2 x) ≡ true
coming_worse {rs} {lv} {n} {ws} bid s k x h g i =
    let v = stands (take k ws) x (omega (arith, codes_times bid x (take k ws))) in
    let b : v.at < k = omega (arith, v.below, length-take k ws) in
    let e : nth (take k ws) v.at ≡ nth ws v.at = get_or-take k ws v.at (level.empty 0) b in
    let f : field rs 2 x ≡ (nth ws v.at).price = (s.level v.at (omega arith)).priced x (rw e at v.inside) in
    le-leb (field rs 2 x) (nth ws (k - 1)).price
    (⊎_elim (λ q. omega (arith, s.rising v.at (k - 1) q (omega arith))) (λ q. let d : v.at ≡ k - 1 = omega arith in omega (arith, ap (λ (j : ℕ). (nth ws j).price) d)) (lt? v.at (k - 1)))
coming_worse {rs} {lv} {n} {ws} ask s k x h g i =
    let v = stands (drop (n - k) ws) x i in
    let b : n - k + v.at < n = omega (arith, v.below, length-drop (n - k) ws, s.count) in
    let e : nth (drop (n - k) ws) v.at ≡ nth ws (n - k + v.at) = get_or-drop (n - k) ws v.at (level.empty 0) in
    let f : field rs 2 x ≡ (nth ws (n - k + v.at)).price = (s.level (n - k + v.at) b).priced x (rw e at v.inside) in
    le-leb (nth ws (n - k)).price (field rs 2 x)
    (⊎_elim (λ q. omega (arith, s.rising (n - k) (n - k + v.at) q b)) (λ q. let d : n - k + v.at ≡ n - k = omega arith in omega (arith, ap (λ (j : ℕ). (nth ws j).price) d)) (lt? (n - k) (n - k + v.at)))
