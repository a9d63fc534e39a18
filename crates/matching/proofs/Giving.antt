-- One maker gives: what that makes of the makers to come and of the fills. Assumes nothing.
use Prim.Native.Nat.{ℕ, ◌-◌, ◌<◌, ◌≤◌}
use mathlib.Core.Bool.{Bool, true}
use mathlib.Core.List.{List, [], ◌∷◌}
use mathlib.Core.Path.{ap, refl, sym, ◌∙◌, ◌≡◌}
use native.Mathlib.Omega.{arith}
use lib.ListN.{length}
use Rattle.rules.specs.Rules.{Fill, Order, last_price, last_quantity, matching}
use Rattle.records.specs.Rows.{RecordAt, field}
use Rattle.records.proofs.Rows.{field_record}
use Rattle.rows.specs.Rows.{Place, fill_row}
use Rattle.rows.proofs.Places.{fill_faithful, written_length}
use Rattle.arena.specs.Times.{times}
use Rattle.arena.proofs.Times.{one_self}
use Rattle.side.specs.Orders.{order_at, orders}
use Rattle.side.proofs.Orders.{orders_frame}
use Rattle.survey.specs.declared.Taker.{Taker}
use Rattle.survey.specs.Makers.{gift}
use Rattle.survey.specs.Taker.{meets, taker_of}
use Rattle.survey.proofs.Tallied.{next_fill}
use Rattle.matching.specs.declared.Last.{Last}
use Rattle.matching.specs.declared.Progress.{Progress}
use Rattle.matching.specs.Carried.{Gives, fill_at}
use Rattle.matching.proofs.Lowered.{lowered}
use Rattle.matching.proofs.Quantities.{Only, only_put}

-- ## The fills to come

-- of an order that still wants w, among the makers at the codes cs
abbrev pub fills_from : Taker → List ℕ → ℕ → List ℕ → ℕ → (ℕ → Bool) → List (Fill (Unit {0}))
fills_from u rs w cs room fnd = (matching (taker_of room u) w (orders rs fnd cs)).fills

abbrev pub last_of : Fill (Unit {0}) → Last
last_of f = record { price = record { 0 = f.price }; qty = record { 0 = f.quantity } }

-- the last of them, or else l
unfoldable pub last_from : Last → List (Fill (Unit {0})) → Last
last_from l [] = l
last_from l (f ∷ fs) = last_from (last_of f) fs

abbrev pub nothing : Last
nothing = record { price = record { 0 = 0 }; qty = record { 0 = 0 } }

last_price_lem : (l : Last) (f : Fill (Unit {0})) (fs : List (Fill (Unit {0}))) → (last_from l (f ∷ fs)).price.0 ≡ last_price (f ∷ fs)
unfolding last_from last_price
last_price_lem l f [] = refl
last_price_lem l f (h ∷ fs) = last_price_lem (last_of f) h fs

last_quantity_lem : (l : Last) (f : Fill (Unit {0})) (fs : List (Fill (Unit {0}))) → (last_from l (f ∷ fs)).qty.0 ≡ last_quantity (f ∷ fs)
unfolding last_from last_quantity
last_quantity_lem l f [] = refl
last_quantity_lem l f (h ∷ fs) = last_quantity_lem (last_of f) h fs

pub last_is : (fs : List (Fill (Unit {0}))) → ((last_from nothing fs).price.0 ≡ last_price fs) × ((last_from nothing fs).qty.0 ≡ last_quantity fs)
unfolding last_from last_price last_quantity
last_is [] = (refl, refl)
last_is (f ∷ fs) = (last_price_lem nothing f fs, last_quantity_lem nothing f fs)

module _ {u : Taker} {c : ℕ} {p : Progress} {rs out rs' out' : List ℕ} {p' : Progress} (g : Gives u c p rs out rs' out' p') where
  pub gives_only : Only rs rs'
  gives_only = rw g.lowered (only_put rs c _)

  pub gives_wide : Place fill_row out p.fills → length out' ≡ length out
  gives_wide h = rw g.filled (written_length fill_row fill_faithful.long out p.fills _ (omega arith))

  pub gives_other : (x : ℕ) → RecordAt rs c → 1 ≤ x → (x ≡ c → ⊥) → (f : ℕ) → f < 5 → field rs' f x ≡ field rs f x
  gives_other x r h d f i = rw g.lowered (field_record rs 1 f c x _ (omega arith) i r.some h d)

  module _ (cs : List ℕ) (e : meets u (field rs 2 c) ≡ true) (o : (x : ℕ) → times x (c ∷ cs) ≤ 1) (r : (x : ℕ) → 1 ≤ times x (c ∷ cs) → RecordAt rs x) where
    pub gives_apart : (x : ℕ) → 1 ≤ times x cs → x ≡ c → ⊥
    gives_apart x i d = omega (arith, o x, ap (λ (m : ℕ). times m (c ∷ cs)) d, one_self c, ap (λ (m : ℕ). times m cs) d)

    pub gives_orders : (fnd : ℕ → Bool) → orders rs' fnd cs ≡ orders rs fnd cs
    gives_orders fnd = orders_frame rs rs' fnd fnd cs
        (λ f x h i. gives_other x (r c (omega (arith, one_self c))) (r x (omega arith)).some (gives_apart x i) f (omega arith)) (λ x i. refl)

    pub gives_lowered : lowered u rs p.left.0 (c ∷ cs) ≡ lowered u rs' p'.left.0 cs
    unfolding lowered
    gives_lowered = rw (g.lowered, g.progress, e)

    pub gives_fills : 1 ≤ p.left.0 → 1 ≤ field rs 1 c → (room : ℕ) (fnd : ℕ → Bool)
        → fills_from u rs p.left.0 (c ∷ cs) room fnd ≡ fill_at u rs p.left.0 c ∷ fills_from u rs' p'.left.0 cs room fnd
    gives_fills h q room fnd =
        let t = taker_of room u in
        let w = p.left.0 - gift rs p.left.0 c in
        let a : p'.left.0 ≡ w = ap (λ (z : Progress). z.left.0) g.progress in
        let b : (matching t w (orders rs fnd cs)).fills ≡ fills_from u rs' p'.left.0 cs room fnd =
        ap (λ (l : List (Order (Unit {0}))). (matching t w l).fills) (sym (gives_orders fnd)) ∙ ap (λ (z : ℕ). fills_from u rs' z cs room fnd) (sym a) in
        next_fill t p.left.0 (order_at rs fnd c) (orders rs fnd cs) e h q ∙ ap (λ (k : List (Fill (Unit {0}))). fill_at u rs p.left.0 c ∷ k) b
