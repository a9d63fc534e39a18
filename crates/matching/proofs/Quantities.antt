-- Records of which only quantities change: a side's levels, their layout and its queues stay. Assumes nothing.
use Prim.Native.Nat.{suc, zero, ℕ, ◌/◌, ◌<◌}
use mathlib.Core.List.{List, [], ◌∷◌}
use mathlib.Core.Logic.{◌≢◌}
use mathlib.Core.Path.{ap, refl, sym, ◌∙◌, ◌≡◌}
use native.Mathlib.Omega.{arith}
use lib.ListN.{length}
use Rattle.records.specs.Rows.{field, record_count, put}
use Rattle.records.proofs.Rows.{field_column, put_length, row_length}
use Rattle.arena.specs.Free.{chain}
use Rattle.arena.specs.Links.{head_of}
use Rattle.arena.proofs.Once.{Ending}
use Rattle.side.specs.Read.{levels_from, levels_in}
use Rattle.side.proofs.Levels.{Agree, side_frame}
use Rattle.survey.specs.Makers.{Laid}

-- ss are the records rs with other quantities
pub record Only (rs ss : List ℕ) : Type 0 where
  pub long : length ss ≡ length rs
  pub columns : (g x : ℕ) → g < 5 → g ≢ 1 → field ss g x ≡ field rs g x

pub only_same : (rs : List ℕ) → Only rs rs
only_same rs = record { long = refl; columns = λ g x h d. refl }

pub only_then : {rs ss us : List ℕ} → Only rs ss → Only ss us → Only rs us
only_then a b = record { long = b.long ∙ a.long; columns = λ g x h d. b.columns g x h d ∙ a.columns g x h d }

pub only_put : (rs : List ℕ) (c v : ℕ) → Only rs (put rs 1 c v)
only_put rs c v = record { long = put_length rs 1 c v; columns = λ g x h d. field_column rs 1 g c x v (omega arith) h d }

module _ {rs ss : List ℕ} (o : Only rs ss) where
  pub only_next : (x : ℕ) → field ss 3 x ≡ field rs 3 x
  only_next x = o.columns 3 x (omega arith) (omega arith)

  chain_same : (m c : ℕ) → chain m ss c ≡ chain m rs c
  chain_same zero zero = refl
  chain_same zero (suc i) = refl
  chain_same (suc m) zero = refl
  chain_same (suc m) (suc i) = ap (λ (l : List ℕ). suc i ∷ l) (ap (chain m ss) (only_next (suc i)) ∙ chain_same m (field rs 3 (suc i)))

  from_same : (m : ℕ) (lv : List ℕ) (i n : ℕ) → levels_from m ss lv i n ≡ levels_from m rs lv i n
  from_same m lv i zero = refl
  from_same m lv i (suc n) = rw (chain_same m (head_of lv i), from_same m lv (suc i) n)

  pub only_levels : (lv : List ℕ) (n : ℕ) → levels_in ss lv n ≡ levels_in rs lv n
  only_levels lv n = ap (λ (m : ℕ). levels_from (m / 5) ss lv 0 n) o.long ∙ from_same (record_count rs) lv 0 n

  pub only_agree : (x : ℕ) → Agree rs ss x
  only_agree x = record {
    price = sym (o.columns 2 x (omega arith) (omega arith));
    next = sym (o.columns 3 x (omega arith) (omega arith));
    prev = sym (o.columns 4 x (omega arith) (omega arith));
  }

  pub only_laid : {lv : List ℕ} {n : ℕ} → Laid rs lv n (levels_in rs lv n) → Laid ss lv n (levels_in ss lv n)
  only_laid {lv} {n} l = rw (only_levels lv n) (record {
    ladder = side_frame ss (λ x i. only_agree x) l.ladder;
    once = l.once;
    rows = λ x i. row_length ss o.long (l.rows x i);
  })

  pub only_ending : (c : ℕ) (q : List ℕ) → Ending (field rs 3) c q → Ending (field ss 3) c q
  only_ending c [] e = e
  only_ending c (d ∷ l) e = (e.0, e.1, rw (only_next d) (only_ending (field rs 3 d) l e.2))
