-- What the check of the free places answers. Assumes nothing.
use Rattle.std.specs.Prelude.{suc, zero, ℕ, Bool, cond, false, true, List, eqb, leb}
use Rattle.records.specs.Rows.{field, record_count}

-- whether c is a record with nothing
unfoldable pub idle : List ℕ → ℕ → Bool
idle rs c = cond (leb c (record_count rs)) (eqb (field rs 1 c) 0) false

-- whether the chain from c has k records, each with nothing
unfoldable pub idles : List ℕ → ℕ → ℕ → Bool
idles rs zero zero = true
idles rs zero (suc r) = false
idles rs (suc k) zero = false
idles rs (suc k) (suc r) = cond (idle rs (suc r)) (idles rs k (field rs 3 (suc r))) false
