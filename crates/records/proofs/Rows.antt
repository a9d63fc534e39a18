-- What a write does to the columns and to the number of records. Assumes nothing.
use Prim.Native.Nat.{ℕ, ◌*◌, ◌+◌, ◌-◌, ◌<◌, ◌≤◌}
use mathlib.Core.List.{List}
use mathlib.Core.Logic.{◌≢◌}
use mathlib.Core.Path.{◌≡◌}
use native.Mathlib.Omega.{arith}
use lib.ListN.{length, length-set}
use lib.Seq.{get_or-set_other, get_or-set_same}
use Rattle.records.specs.Rows.{RecordAt, field, record_count, put}

-- the column written
pub field_same : (rs : List ℕ) (f c v : ℕ) → f < 5 → RecordAt rs c → field (put rs f c v) f c ≡ v
field_same rs f c v h r = get_or-set_same rs ((c - 1) * 5 + f) v 0 (omega (arith, r.inside))

-- another column, of whatever record
pub field_column : (rs : List ℕ) (f g c d v : ℕ) → f < 5 → g < 5 → g ≢ f → field (put rs f c v) g d ≡ field rs g d
field_column rs f g c d v h i n = get_or-set_other rs ((c - 1) * 5 + f) ((d - 1) * 5 + g) v 0 (omega arith)

-- another record
pub field_record : (rs : List ℕ) (f g c d v : ℕ) → f < 5 → g < 5 → 1 ≤ c → 1 ≤ d → d ≢ c → field (put rs f c v) g d ≡ field rs g d
field_record rs f g c d v h i p q n = get_or-set_other rs ((c - 1) * 5 + f) ((d - 1) * 5 + g) v 0 (omega arith)

-- lengths stay, and with them the records
pub put_length : (rs : List ℕ) (f c v : ℕ) → length (put rs f c v) ≡ length rs
put_length rs f c v = length-set rs ((c - 1) * 5 + f) v

pub row_length : {rs : List ℕ} (ss : List ℕ) {c : ℕ} → length ss ≡ length rs → RecordAt rs c → RecordAt ss c
row_length ss e r = record { some = r.some; inside = omega (arith, r.inside) }

-- the codes are those from 1 to the number of records
pub row_places : (rs : List ℕ) (c : ℕ) → 1 ≤ c → c ≤ record_count rs → RecordAt rs c
row_places rs c h g = record { some = h; inside = omega arith }

pub places_row : {rs : List ℕ} {c : ℕ} → RecordAt rs c → c ≤ record_count rs
places_row r = omega (arith, r.some, r.inside)
