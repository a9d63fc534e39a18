-- Numbers as bytes, high byte first. A byte is a number below 256. Assumes nothing.
use Rattle.std.specs.Prelude.{ℕ, zero, suc, ◌+◌, ◌*◌, ◌/◌, ◌%◌, ◌<◌, List, [], ◌∷◌, ◌++◌, get_or}

-- every element is a byte
abbrev pub Bytes : List ℕ → Type 0
Bytes l = (i : ℕ) → get_or l i 0 < 256

-- the number in the first k bytes of a list, high byte first
unfoldable pub number : ℕ → List ℕ → ℕ
number zero l = 0
number (suc k) l = number k l * 256 + get_or l k 0

-- n in k bytes, high byte first
unfoldable pub bytes : ℕ → ℕ → List ℕ
bytes zero n = []
bytes (suc k) n = bytes k (n / 256) ++ (n % 256 ∷ [])
