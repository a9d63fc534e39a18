-- A sum that may have passed 2^64 - 1: then it has no value. Assumes nothing.
use Rattle.std.specs.Prelude.{ℕ, ◌+◌, cond, leb, Option, Some, None}
use Rattle.rules.specs.Rules.{most}

-- n itself up to 2^64 - 1, else only that it has passed
unfoldable pub capped : ℕ → Option ℕ
capped n = cond (leb n most) (Some n) None

-- two such sums together
unfoldable pub plus_of : Option ℕ → Option ℕ → Option ℕ
plus_of None b = None
plus_of (Some x) None = None
plus_of (Some x) (Some y) = capped (x + y)
