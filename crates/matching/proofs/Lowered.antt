-- The records once an order has taken its share of the makers at a list of codes, one after the other. Assumes nothing.
use Prim.Native.Nat.{suc, zero, ℕ, ◌-◌, ◌≤◌}
use mathlib.Core.Bool.{Bool, cond, false, true}
use mathlib.Core.List.{List, [], ◌∷◌}
use mathlib.Core.Logic.{⊎_elim}
use mathlib.Core.Path.{ap, refl, ◌∙◌, ◌≡◌}
use native.Mathlib.Nat.{min-zero, sub-zero}
use native.Mathlib.Omega.{arith}
use lib.Seq.{set-get_or}
use Rattle.records.specs.Rows.{RecordAt, field, put}
use Rattle.records.proofs.Cases.{lt?}
use Rattle.records.proofs.Rows.{field_record, field_same, row_length}
use Rattle.arena.specs.Times.{times}
use Rattle.arena.proofs.Times.{one_self}
use Rattle.side.specs.Orders.{orders}
use Rattle.side.proofs.Orders.{orders_frame}
use Rattle.survey.specs.declared.Taker.{Taker}
use Rattle.survey.specs.Makers.{gift}
use Rattle.survey.specs.Taker.{meets, taker_of}
use Rattle.matching.specs.Thinned.{thinning}
use Rattle.matching.proofs.Quantities.{Only, only_put, only_same, only_then}

-- what the maker at code c gives to u, which still wants w
abbrev pub taken : Taker → List ℕ → ℕ → ℕ → ℕ
taken u rs w c = cond (meets u (field rs 2 c)) (gift rs w c) 0

abbrev pub less : Taker → List ℕ → ℕ → ℕ → List ℕ
less u rs w c = put rs 1 c (field rs 1 c - taken u rs w c)

unfoldable pub lowered : Taker → List ℕ → ℕ → List ℕ → List ℕ
lowered u rs w [] = rs
lowered u rs w (c ∷ cs) = lowered u (less u rs w c) (w - taken u rs w c) cs

-- the code 0 is no row's
pub rows_none : (rs l : List ℕ) → ((x : ℕ) → 1 ≤ times x l → RecordAt rs x) → times 0 l ≡ 0
rows_none rs l h = ⊎_elim (λ i. absurd (let z : ⊥ = omega (arith, (h 0 i).some) in z)) (λ i. omega arith) (lt? 0 (times 0 l))

module _ (u : Taker) where
  pub lowered_only : (rs : List ℕ) (w : ℕ) (cs : List ℕ) → Only rs (lowered u rs w cs)
  unfolding lowered
  lowered_only rs w [] = only_same rs
  lowered_only rs w (c ∷ cs) = only_then (only_put rs c (field rs 1 c - taken u rs w c)) (lowered_only (less u rs w c) (w - taken u rs w c) cs)

  -- what is no maker stays
  pub lowered_other : (rs : List ℕ) (w : ℕ) (cs : List ℕ) (x : ℕ) → 1 ≤ x → times x cs ≡ 0 → times 0 cs ≡ 0 → field (lowered u rs w cs) 1 x ≡ field rs 1 x
  unfolding lowered
  lowered_other rs w [] x h z y = refl
  lowered_other rs w (c ∷ cs) x h z y =
      lowered_other (less u rs w c) (w - taken u rs w c) cs x h (omega arith) (omega arith)
      ∙ field_record rs 1 1 c x (field rs 1 c - taken u rs w c) (omega arith) (omega arith)
      (some c y) h (λ e. omega (arith, ap (λ (m : ℕ). times m (c ∷ cs)) e, one_self c))
    where
      some : (c : ℕ) → times 0 (c ∷ cs) ≡ 0 → 1 ≤ c
      some zero z = absurd (let f : ⊥ = omega (arith, one_self 0) in f)
      some (suc i) z = omega arith

  -- nothing is given
  idle_one : (rs : List ℕ) (w c : ℕ) → taken u rs w c ≡ 0 → less u rs w c ≡ rs
  idle_one rs w c e = rw (e, sub-zero) (set-get_or rs _ 0)

  pub lowered_done : (rs cs : List ℕ) → lowered u rs 0 cs ≡ rs
  unfolding lowered
  lowered_done rs [] = refl
  lowered_done rs (c ∷ cs) =
      let e : taken u rs 0 c ≡ 0 = rw min-zero (go (meets u (field rs 2 c))) in
      rw (idle_one rs 0 c e, e) (lowered_done rs cs)
    where
      go : (b : Bool) → ◌≡◌ {A = ℕ} (cond b 0 0) 0
      go true = refl
      go false = refl

  pub lowered_beyond : (rs : List ℕ) (w : ℕ) (cs : List ℕ) → ((x : ℕ) → 1 ≤ times x cs → meets u (field rs 2 x) ≡ false) → lowered u rs w cs ≡ rs
  unfolding lowered
  lowered_beyond rs w [] h = refl
  lowered_beyond rs w (c ∷ cs) h =
      let e : taken u rs w c ≡ 0 = rw (h c (omega (arith, one_self c))) refl in
      rw (idle_one rs w c e, e, sub-zero w) (lowered_beyond rs w cs (λ x i. h x (omega arith)))

  -- as orders: the makers thinned
  pub lowered_orders : (room : ℕ) (fnd : ℕ → Bool) (rs : List ℕ) (w : ℕ) (cs : List ℕ) → ((x : ℕ) → times x cs ≤ 1) → ((x : ℕ) → 1 ≤ times x cs → RecordAt rs x)
      → orders (lowered u rs w cs) fnd cs ≡ thinning (taker_of room u) w (orders rs fnd cs)
  unfolding lowered thinning
  lowered_orders room fnd rs w [] o r = refl
  lowered_orders room fnd rs w (c ∷ cs) o r =
      let rs₁ = less u rs w c in
      let w₁ = w - taken u rs w c in
      let row : RecordAt rs c = r c (omega (arith, one_self c)) in
      let n : (x : ℕ) → 1 ≤ times x cs → x ≡ c → ⊥ = λ x i e. omega (arith, o x, ap (λ (m : ℕ). times m (c ∷ cs)) e, one_self c, ap (λ (m : ℕ). times m cs) e) in
      let a = lowered_only rs₁ w₁ cs in
      let b = only_put rs c (field rs 1 c - taken u rs w c) in
      let q : field (lowered u rs₁ w₁ cs) 1 c ≡ field rs 1 c - taken u rs w c =
      lowered_other rs₁ w₁ cs c row.some (omega (arith, o c, one_self c)) (rows_none rs cs (λ x i. r x (omega arith)))
      ∙ field_same rs 1 c (field rs 1 c - taken u rs w c) (omega arith) row in
      let i : field (lowered u rs₁ w₁ cs) 0 c ≡ field rs 0 c = a.columns 0 c (omega arith) (omega arith) ∙ b.columns 0 c (omega arith) (omega arith) in
      let p : field (lowered u rs₁ w₁ cs) 2 c ≡ field rs 2 c = a.columns 2 c (omega arith) (omega arith) ∙ b.columns 2 c (omega arith) (omega arith) in
      let f : orders rs₁ fnd cs ≡ orders rs fnd cs = orders_frame rs rs₁ fnd fnd cs
      (λ g x h j. field_record rs 1 g c x (field rs 1 c - taken u rs w c) (omega arith) (omega arith) row.some (r x (omega arith)).some (n x j)) (λ x j. refl) in
      rw (i, q, p, lowered_orders room fnd rs₁ w₁ cs (λ x. omega (arith, o x)) (λ x j. row_length rs₁ b.long (r x (omega arith))), f)
