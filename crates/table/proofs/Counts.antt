-- What is found at home, and the taken places one after another. Assumes nothing.
use Prim.Native.Nat.{suc, zero, ℕ, ◌+◌, ◌<◌, ◌≤◌}
use mathlib.Core.Bool.{Bool, cond, false, not, true}
use mathlib.Core.List.{List, [], ◌∷◌}
use mathlib.Core.Path.{ap, refl, ◌∙◌, ◌≡◌}
use native.Mathlib.Nat.{sub-zero}
use native.Mathlib.Omega.{arith}
use lib.Dec.{eqb}
use lib.ListN.{length, take}
use Rattle.std.specs.List.{count_by}
use Rattle.std.proofs.lemmas.List.{take_all}
use Rattle.std.proofs.lemmas.List.Sums.{sum_by-cons}
use Rattle.rules.specs.Whole.{one}
use Rattle.records.specs.Rows.{RecordAt, field}
use Rattle.search.specs.Seek.{at, entry_for, home}
use Rattle.search.proofs.Entries.{row_inside}
use Rattle.search.proofs.Walks.{stops_named, turn_stop}
use Rattle.table.specs.Entries.{taken_in, taken_to}

-- an entry at its id's home is found
pub home_found : (se rs : List ℕ) (id c : ℕ) → 0 < length se → RecordAt rs c → field rs 0 c ≡ id → at se (home (length se) id) ≡ c → entry_for se rs id ≡ c
home_found se rs id c h r i e =
    let s = turn_stop se rs id (home (length se) id) 0 h (rw e (stops_named rs id c (row_inside r) i)) in
    ap (λ w. w.entry) (rw sub-zero at s) ∙ e

-- the places are the free ones and the taken ones
taken_cons : (e : ℕ) (se : List ℕ) (k : ℕ) → taken_to (e ∷ se) (suc k) ≡ one (not (eqb e 0)) + taken_to se k
taken_cons e se zero = refl
taken_cons e se (suc k) = omega (arith, taken_cons e se k)

either : (b : Bool) → one (not b) + cond b 1 0 ≡ 1
either true = refl
either false = refl

taken_free : (se : List ℕ) → taken_in se + count_by (λ (x : ℕ). eqb x 0) se ≡ length se
taken_free [] = refl
taken_free (e ∷ se) = rw (taken_cons e se (length se), sum_by-cons (λ (x : ℕ). cond (eqb x 0) 1 0) e se) (omega (arith, either (eqb e 0), taken_free se))

-- n are left when the free ones of the first i, of all, went
pub taken_all : (se : List ℕ) (n i : ℕ) → n + count_by (λ (x : ℕ). eqb x 0) (take i se) ≡ length se → length se ≤ i → n ≡ taken_in se
taken_all se n i h l = omega (arith, taken_free se, rw (take_all i se l) at h)
