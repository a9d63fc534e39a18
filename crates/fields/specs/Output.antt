-- A lent buffer with the place of the next bytes: what every function that writes keeps of it. Assumes nothing.
use Rattle.std.specs.Prelude.{◌≡◌}
use Rattle.fields.specs.declared.Output.{Output}

-- the buffer of b is that of a
abbrev pub Lent : Output → Output → Type 0
Lent a b = b.bytes.ghost_name ≡ a.bytes.ghost_name
