-- The walk of a queue: what it counts is right, and what is right is counted; and how many of its orders the search finds. Assumes nothing.
use Prim.Native.Nat.{suc, zero, ℕ, ◌+◌, ◌-◌, ◌<◌, ◌≤◌}
use mathlib.Core.Bool.{Bool, cond, false, true}
use mathlib.Core.List.{List, [], ◌++◌, ◌∷◌}
use mathlib.Core.Logic.{◌≢◌, ⊎_elim}
use mathlib.Core.Path.{ap, refl, sym, ◌∙◌, ◌≡◌}
use native.Mathlib.Omega.{arith}
use lib.Dec.{eqb, leb}
use lib.ListN.{length}
use borrow.Author.Tests.{eq-eqb, eqb-false, eqb-true, le-leb, leb-true, lt-leb, ne_eqb}
use Rattle.rules.specs.Whole.{one}
use Rattle.records.specs.Rows.{field, record_count}
use Rattle.records.proofs.Cases.{by, same?, tell}
use Rattle.records.proofs.Rows.{places_row, row_places}
use Rattle.search.specs.Seek.{entry_for}
use Rattle.arena.specs.Free.{chain}
use Rattle.arena.specs.Links.{link}
use Rattle.arena.specs.Ring.{Run}
use Rattle.arena.specs.Times.{times}
use Rattle.arena.proofs.Free.{run_chain}
use Rattle.arena.proofs.Times.{one_other, one_self}
use Rattle.table.specs.Entries.{found_among}
use Rattle.ranks.specs.Ranks.{QueueAt, Under, fit, walked}

-- ## Chains

pub chain_long : (k : ℕ) (rs : List ℕ) (c : ℕ) → length (chain k rs c) ≤ k
chain_long zero rs zero = omega arith
chain_long zero rs (suc r) = omega arith
chain_long (suc k) rs zero = omega arith
chain_long (suc k) rs (suc r) = omega (arith, chain_long k rs (field rs 3 (suc r)))

pub chain_some : (k : ℕ) (rs : List ℕ) (c : ℕ) → times 0 (chain k rs c) ≡ 0
chain_some zero rs zero = refl
chain_some zero rs (suc r) = refl
chain_some (suc k) rs zero = refl
chain_some (suc k) rs (suc r) = omega (arith, one_other 0 (suc r) (omega arith), chain_some k rs (field rs 3 (suc r)))

-- what holds of the first and of the others holds of each
pub each_more : (P : ℕ → Type 0) (d : ℕ) (l : List ℕ) → P d → ((x : ℕ) → 1 ≤ times x l → P x) → (x : ℕ) → 1 ≤ times x (d ∷ l) → P x
each_more P d l p k x h = ⊎_elim (λ (e : x ≡ d). rw e p) (λ (n : x ≢ d). k x (omega (arith, one_other x d n))) (same? x d)

-- ## One record

pub record Fits (rs : List ℕ) (price p c : ℕ) : Type 0 where
  pub inside : c ≤ record_count rs
  pub some : 1 ≤ field rs 1 c
  pub own : field rs 2 c ≡ price
  pub back : field rs 4 c ≡ p

module _ (rs : List ℕ) (price p c : ℕ) where
  pub fit_is : fit rs price p c ≡ true → Fits rs price p c
  unfolding fit
  fit_is h =
      ⊎_elim
      (λ (a : leb c (record_count rs) ≡ true). ⊎_elim
      (λ (b : eqb (field rs 1 c) 0 ≡ true). absurd (tell (fit rs price p c) h (cc)))
      (λ (b : eqb (field rs 1 c) 0 ≡ false). ⊎_elim
      (λ (d : eqb (field rs 2 c) price ≡ true).
      let q : field rs 1 c ≢ 0 = eqb-false _ _ b in
      record { inside = leb-true _ _ a; some = omega arith; own = eqb-true _ _ d; back = eqb-true _ _ (cc) })
      (λ (d : eqb (field rs 2 c) price ≡ false). absurd (tell (fit rs price p c) h (cc)))
      (by (eqb (field rs 2 c) price)))
      (by (eqb (field rs 1 c) 0)))
      (λ (a : leb c (record_count rs) ≡ false). absurd (tell (fit rs price p c) h (cc)))
      (by (leb c (record_count rs)))

  pub is_fit : Fits rs price p c → fit rs price p c ≡ true
  unfolding fit
  is_fit h =
      let n : field rs 1 c ≢ 0 = omega (arith, h.some) in
      rw (le-leb c (record_count rs) h.inside, ne_eqb (field rs 1 c) 0 n, eq-eqb (field rs 2 c) price h.own) (eq-eqb (field rs 4 c) p h.back)

  -- what the test answers, from each of its exits
  pub fit_out : record_count rs < c → fit rs price p c ≡ false
  unfolding fit
  fit_out h = rw (lt-leb c (record_count rs) h)

  pub fit_none : c ≤ record_count rs → field rs 1 c ≡ 0 → fit rs price p c ≡ false
  unfolding fit
  fit_none h q = rw (le-leb c (record_count rs) h, eq-eqb (field rs 1 c) 0 q)

  pub fit_off : c ≤ record_count rs → field rs 1 c ≢ 0 → field rs 2 c ≢ price → fit rs price p c ≡ false
  unfolding fit
  fit_off h q n = rw (le-leb c (record_count rs) h, ne_eqb (field rs 1 c) 0 q, ne_eqb (field rs 2 c) price n)

  pub fit_last : (v : ℕ) → c ≤ record_count rs → field rs 1 c ≢ 0 → field rs 2 c ≡ price → v ≡ field rs 4 c → eqb v p ≡ fit rs price p c
  unfolding fit
  fit_last v h q e i = rw (le-leb c (record_count rs) h, ne_eqb (field rs 1 c) 0 q, eq-eqb (field rs 2 c) price e, i)

-- ## The walk

-- a queue that is right from node p on: its codes are l
pub record Standing (rs : List ℕ) (price head tail p : ℕ) (l : List ℕ) : Type 0 where
  pub ring : Run (link rs 3 head) (link rs 4 tail) p l 0
  pub under : (x : ℕ) → 1 ≤ times x l → Under rs price x

module _ (rs : List ℕ) (price tail : ℕ) where
  walked_end : (k p c n : ℕ) → c ≡ 0 → walked rs price tail k p c n ≡ cond (eqb p tail) n 0
  unfolding walked
  walked_end zero p c n e = rw e
  walked_end (suc k) p c n e = rw e

  pub walked_full : (k p c n : ℕ) → c ≢ 0 → k ≡ 0 → walked rs price tail k p c n ≡ 0
  unfolding walked
  walked_full k p zero n h e = absurd (h refl)
  walked_full k p (suc r) n h e = rw e

  pub walked_wrong : (k p c n : ℕ) → c ≢ 0 → fit rs price p c ≡ false → walked rs price tail k p c n ≡ 0
  unfolding walked
  walked_wrong k p zero n h f = absurd (h refl)
  walked_wrong zero p (suc r) n h f = refl
  walked_wrong (suc k) p (suc r) n h f = rw f

  walked_on : (k j p c n : ℕ) → c ≢ 0 → k ≡ suc j → fit rs price p c ≡ true → walked rs price tail k p c n ≡ walked rs price tail j c (field rs 3 c) (n + 1)
  unfolding walked
  walked_on k j p zero n h e f = absurd (h refl)
  walked_on k j p (suc r) n h e f = rw (e, f)

  -- a turn of the walk that has counted n of at most m
  pub walked_turn : (m p c n d : ℕ) → c ≢ 0 → n < m → fit rs price p c ≡ true → d ≡ field rs 3 c → walked rs price tail (m - n) p c n ≡ walked rs price tail (m - (n + 1)) c d (n + 1)
  walked_turn m p c n d h l f e = rw e (walked_on (m - n) (m - (n + 1)) p c n h (omega arith) f)

  pub walked_done : (k p c n : ℕ) → c ≡ 0 → p ≡ tail → walked rs price tail k p c n ≡ n
  walked_done k p c n e q = rw (walked_end k p c n e, eq-eqb p tail q)

  pub walked_off : (k p c n : ℕ) → c ≡ 0 → p ≢ tail → walked rs price tail k p c n ≡ 0
  walked_off k p c n e q = rw (walked_end k p c n e, ne_eqb p tail q)

  -- what the walk counts is right,
  ended : (p n : ℕ) → 1 ≤ cond (eqb p tail) n 0 → (p ≡ tail) × (cond (eqb p tail) n 0 ≡ n)
  ended p n h =
      ⊎_elim
      (λ (e : eqb p tail ≡ true). (eqb-true p tail e, rw e))
      (λ (e : eqb p tail ≡ false). let z : 1 ≤ 0 = rw e at h in absurd (omega arith))
      (by (eqb p tail))

  stop : (head p n : ℕ) → link rs 3 head p ≡ 0 → 1 ≤ cond (eqb p tail) n 0 → Standing rs price head tail p [] × (cond (eqb p tail) n 0 ≡ n + 0)
  stop head p n e h =
      let d = ended p n h in
      (record { ring = (e, sym d.0); under = λ x i. absurd (let z : ⊥ = omega arith in z) }, omega (arith, d.1))

  pub walked_right : (head k p c n : ℕ) → link rs 3 head p ≡ c → 1 ≤ walked rs price tail k p c n
      → Standing rs price head tail p (chain k rs c) × (walked rs price tail k p c n ≡ n + length (chain k rs c))
  unfolding walked
  walked_right head zero p zero n e h = stop head p n e h
  walked_right head zero p (suc r) n e h = absurd (let z : ⊥ = omega arith in z)
  walked_right head (suc k) p zero n e h = stop head p n e h
  walked_right head (suc k) p (suc r) n e h =
      ⊎_elim
      (λ (t : fit rs price p (suc r) ≡ true).
      let f = fit_is rs price p (suc r) t in
      let w = walked_right head k (suc r) (field rs 3 (suc r)) (n + 1) refl (rw t at h) in
      let u : Under rs price (suc r) = record { row = row_places rs (suc r) (omega arith) f.inside; some = f.some; own = f.own } in
      (record { ring = (e, f.back, w.0.ring); under = each_more (Under rs price) (suc r) (chain k rs (field rs 3 (suc r))) u w.0.under }, rw t (omega (arith, w.1))))
      (λ (t : fit rs price p (suc r) ≡ false). let z : 1 ≤ 0 = rw t at h in absurd (omega arith))
      (by (fit rs price p (suc r)))

  -- and what is right is counted
  pub right_walked : (head : ℕ) (l : List ℕ) (k p c n : ℕ) → link rs 3 head p ≡ c → Standing rs price head tail p l → length l ≤ k → walked rs price tail k p c n ≡ n + length l
  right_walked head [] k p c n e s z = walked_done k p c n (sym e ∙ s.ring.0) (sym s.ring.1) ∙ omega arith
  right_walked head (d ∷ l) zero p c n e s z = absurd (let y : ⊥ = omega arith in y)
  right_walked head (zero ∷ l) (suc k) p c n e s z = absurd (let y : ⊥ = omega (arith, (s.under 0 (omega (arith, one_self 0))).row.some) in y)
  right_walked head (suc r ∷ l) (suc k) p c n e s z =
      let u = s.under (suc r) (omega (arith, one_self (suc r))) in
      let f : Fits rs price p (suc r) = record { inside = places_row u.row; some = u.some; own = u.own; back = s.ring.1 } in
      let t : Standing rs price head tail (suc r) l = record { ring = s.ring.2; under = λ x i. s.under x (omega arith) } in
      let q : c ≡ suc r = sym e ∙ s.ring.0 in
      let nz : suc r ≢ 0 = omega arith in
      rw q (walked_on (suc k) k p (suc r) n nz refl (is_fit rs price p (suc r) f) ∙ (right_walked head l k (suc r) (field rs 3 (suc r)) (n + 1) refl t (omega arith) ∙ omega arith))

-- what a walk of at most m has seen: the whole queue
pub record Queued (rs : List ℕ) (price head tail m : ℕ) : Type 0 where
  pub queue : QueueAt rs price head tail
  pub long : length (chain (record_count rs) rs head) ≡ walked rs price tail m 0 head 0
  pub same : chain m rs head ≡ chain (record_count rs) rs head

-- a walk within the records' number sees the whole queue
module _ (rs : List ℕ) (price head tail m : ℕ) (l : m ≤ record_count rs) where
  pub walk_queue : 1 ≤ walked rs price tail m 0 head 0 → Queued rs price head tail m
  walk_queue h =
      let w = walked_right rs price tail head m 0 head 0 refl h in
      let s : chain m rs head ≡ chain (record_count rs) rs head = run_chain rs head (link rs 4 tail) (record_count rs) 0 (chain m rs head) w.0.ring (chain_some m rs head) (omega (arith, chain_long m rs head)) in
      record {
        queue = record {
          ring = rw s at w.0.ring;
          busy = rw (← s) (omega (arith, w.1));
          under = λ c i. w.0.under c (rw s i);
        };
        long = rw (← s) (omega (arith, w.1));
        same = s;
      }

  pub queue_walk : QueueAt rs price head tail → length (chain (record_count rs) rs head) ≤ m → walked rs price tail m 0 head 0 ≡ length (chain (record_count rs) rs head)
  queue_walk q h = right_walked rs price tail head (chain (record_count rs) rs head) m 0 head 0 refl (record { ring = q.ring; under = q.under }) h ∙ omega arith

-- ## How many of them are found

-- n orders of the walk were looked at, and `found` of them are found; c is the next
pub record Seen (se rs : List ℕ) (head most n found c : ℕ) : Type 0 where
  pub few : found ≤ n
  pub all : found + found_among se rs (chain (most - n) rs c) ≡ found_among se rs (chain most rs head)

chain_turn : (rs : List ℕ) (k j c : ℕ) → c ≢ 0 → k ≡ suc j → chain k rs c ≡ c ∷ chain j rs (field rs 3 c)
chain_turn rs k j zero h e = absurd (h refl)
chain_turn rs k j (suc r) h e = rw e

chain_end : (k : ℕ) (rs : List ℕ) → chain k rs 0 ≡ []
chain_end zero rs = refl
chain_end (suc k) rs = refl

module _ {se rs : List ℕ} {head most n found c : ℕ} (s : Seen se rs head most n found c) where
  -- one more, found or not
  pub seen_more : (d more : ℕ) (b : Bool) → c ≢ 0 → n < most → d ≡ field rs 3 c → b ≡ eqb (entry_for se rs (field rs 0 c)) c → more ≡ found + one b → Seen se rs head most (n + 1) more d
  seen_more d more b h l e f m =
      let t = chain_turn rs (most - n) (most - (n + 1)) c h (omega arith) in
      record {
        few = omega (arith, s.few, one_most b);
        all = omega (arith, s.all, ap (found_among se rs) t, ap one f, ap (λ (x : ℕ). found_among se rs (chain (most - (n + 1)) rs x)) e);
      }
    where
      one_most : (b : Bool) → one b ≤ 1
      one_most true = omega arith
      one_most false = omega arith

  pub seen_end : c ≡ 0 → found ≡ found_among se rs (chain most rs head)
  seen_end e = omega (arith, s.all, ap (λ (x : ℕ). found_among se rs (chain (most - n) rs x)) e, ap (found_among se rs) (chain_end (most - n) rs))

-- of a list no more are found than it has, and of two lists those of each
pub found_few : (se rs l : List ℕ) → found_among se rs l ≤ length l
found_few se rs [] = omega arith
found_few se rs (c ∷ l) = go (eqb (entry_for se rs (field rs 0 c)) c) (found_few se rs l)
  where
    go : (b : Bool) → found_among se rs l ≤ length l → one b + found_among se rs l ≤ suc (length l)
    go true h = omega arith
    go false h = omega arith

pub found_append : (se rs l m : List ℕ) → found_among se rs (l ++ m) ≡ found_among se rs l + found_among se rs m
found_append se rs [] m = omega arith
found_append se rs (c ∷ l) m = omega (arith, found_append se rs l m)
