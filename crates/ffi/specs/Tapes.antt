-- What felavuti_read_order and felavuti_write_order return (n) and leave (the slip s', the tape's bytes l'), through the definitions of slips: `at` is the
-- place, and the bytes l and the slip s are lent. Assumes nothing.
use Rattle.std.specs.Prelude.{ℕ, ◌≡◌, List}
use Rattle.slips.specs.Slips.{read_by, written_by, bytes_by}

abbrev pub FieldRead : (l : List ℕ) (at : ℕ) (s : List ℕ) → (n : ℕ) (s' : List ℕ) → Type 0
FieldRead l at s n s' = (n ≡ (read_by l at s).code) × (s' ≡ (read_by l at s).slip)

abbrev pub FieldWritten : (l : List ℕ) (at : ℕ) (s : List ℕ) → (n : ℕ) (l' s' : List ℕ) → Type 0
FieldWritten l at s n l' s' = (n ≡ (written_by l at s).code) × (s' ≡ (written_by l at s).slip) × (l' ≡ bytes_by l at s)
