-- A queue as a walk over it sees it: its first order and those behind it; and a sum that runs along it. Assumes nothing.
use Prim.Native.Nat.{suc, zero, ℕ, ◌+◌, ◌<◌, ◌≤◌}
use mathlib.Core.Bool.{Bool, false, true}
use mathlib.Core.List.{List, [], ◌∷◌}
use mathlib.Core.Logic.{◌≢◌}
use mathlib.Core.Path.{ap, refl, sym, ◌∙◌, ◌≡◌}
use native.Mathlib.Omega.{arith}
use lib.Dec.{ltb}
use lib.ListN.{length}
use borrow.Author.Tests.{ltb-false, ltb-true}
use Rattle.std.specs.Prelude.{None, Some}
use Rattle.rules.specs.Rules.{most}
use Rattle.records.specs.Rows.{RecordAt, field, record_count}
use Rattle.arena.specs.Free.{Chain, chain}
use Rattle.arena.specs.Links.{link}
use Rattle.arena.specs.Ring.{Run}
use Rattle.arena.specs.Times.{times}
use Rattle.arena.proofs.Free.{chain_chain}
use Rattle.arena.proofs.Links.{link_some}
use Rattle.arena.proofs.Times.{one_self}
use Rattle.sums.specs.Sums.{capped}
use Rattle.sums.proofs.Capped.{capped_large, capped_small}
use Rattle.depth.specs.Sides.{QueueIn, quantities, queue_in}

chain_length : (m : ℕ) (rs : List ℕ) (c : ℕ) → length (chain m rs c) ≤ m
chain_length zero rs zero = omega arith
chain_length zero rs (suc i) = omega arith
chain_length (suc m) rs zero = omega arith
chain_length (suc m) rs (suc i) = omega (arith, chain_length m rs (field rs 3 (suc i)))

-- no record has the code 0
no_zero : {rs : List ℕ} (l : List ℕ) → ((x : ℕ) → 1 ≤ times x l → RecordAt rs x) → times 0 l ≡ 0
no_zero {rs} l h = go (ltb 0 (times 0 l)) refl
  where
    go : (b : Bool) → ltb 0 (times 0 l) ≡ b → times 0 l ≡ 0
    go true e = absurd (let r = h 0 (ltb-true 0 (times 0 l) e) in let z : ⊥ = omega (arith, r.some) in z)
    go false e = omega (arith, ltb-false 0 (times 0 l) e)

-- a ring, walked on from the head
pub ring_ends : {rs : List ℕ} (B : ℕ → ℕ) (h p : ℕ) (l : List ℕ) → Run (link rs 3 h) B p l 0 → ((x : ℕ) → 1 ≤ times x l → RecordAt rs x) → Chain rs (link rs 3 h p) l
ring_ends B h p [] r k = r.0
ring_ends {rs} B h p (d ∷ l) r k =
    (r.0, rw (link_some rs 3 h d (k d (omega (arith, one_self d))).some) at (ring_ends B h d l r.2 (λ x i. k x (omega arith))))

-- the queue from c on: c, and the queue from the next on
pub record Next (rs : List ℕ) (c : ℕ) (l : List ℕ) : Type 0 where
  pub row : RecordAt rs c
  pub parts : l ≡ c ∷ queue_in rs (field rs 3 c)
  pub rest : QueueIn rs (field rs 3 c)

next_in : {rs : List ℕ} (c : ℕ) (l : List ℕ) → Chain rs c l → ((x : ℕ) → 1 ≤ times x l → RecordAt rs x) → length l ≤ record_count rs → c ≢ 0 → Next rs c l
next_in c [] e k o n = absurd (n e)
next_in {rs} c (d ∷ l) e k o n =
    let z : l ≡ queue_in rs (field rs 3 d) = chain_chain rs (record_count rs) (field rs 3 d) l e.1 (no_zero l (λ x i. k x (omega arith))) (omega arith) in
    rw e.0 (record {
      row = k d (omega (arith, one_self d));
      parts = ap (λ (q : List ℕ). d ∷ q) z;
      rest = record { ends = rw z at e.1; rows = λ x i. k x (let j : 1 ≤ times x l = rw z i in omega arith) };
    })

pub next : {rs : List ℕ} {c : ℕ} → QueueIn rs c → c ≢ 0 → Next rs c (queue_in rs c)
next {rs} {c} q n = next_in c (queue_in rs c) q.ends q.rows (chain_length (record_count rs) rs c) n

-- ## the sum that runs along a queue from h: it stands at `sum`, with the orders from c on to come
pub record Along (rs : List ℕ) (h sum c : ℕ) : Type 0 where
  pub fits : sum ≤ most
  pub whole : sum + quantities rs (queue_in rs c) ≡ quantities rs (queue_in rs h)
  pub queue : QueueIn rs c

module _ {rs : List ℕ} {h sum c : ℕ} (a : Along rs h sum c) where
  pub along_less : {d : ℕ} → c ≢ 0 → d ≡ field rs 3 c → length (queue_in rs d) < length (queue_in rs c)
  along_less n e = rw (e, (next a.queue n).parts) (omega arith)

  -- the first order to come, and those behind it
  parts : c ≢ 0 → quantities rs (queue_in rs c) ≡ field rs 1 c + quantities rs (queue_in rs (field rs 3 c))
  parts n = ap (quantities rs) (next a.queue n).parts

  pub along_again : {q d then : ℕ} → c ≢ 0 → q ≡ field rs 1 c → (then ≤ most) × (then ≡ sum + q) → d ≡ field rs 3 c → Along rs h then d
  along_again n u f v = rw v (record { fits = f.0; whole = omega (arith, a.whole, parts n); queue = (next a.queue n).rest })

  pub along_over : {q : ℕ} → c ≢ 0 → q ≡ field rs 1 c → most < sum + q → None ≡ capped (quantities rs (queue_in rs h))
  along_over n u o = sym (capped_large (quantities rs (queue_in rs h)) (omega (arith, a.whole, parts n)))

  pub along_end : c ≡ 0 → Some sum ≡ capped (quantities rs (queue_in rs h))
  along_end e =
      let g : quantities rs (queue_in rs c) ≡ 0 = ap (λ (x : ℕ). quantities rs (queue_in rs x)) e ∙ none (record_count rs) in
      let s : sum ≡ quantities rs (queue_in rs h) = omega (arith, a.whole) in
      rw (← s) (sym (capped_small sum a.fits))
    where
      none : (m : ℕ) → quantities rs (chain m rs 0) ≡ 0
      none zero = refl
      none (suc m) = refl
