-- `stats::bits::bits_of` meets its contract: what differs from itself is the NaN, and any other double has bits. Assumes nothing.
use Rattle.std.proofs.Common.{◌≡◌, false, not, T, sym, refl, subst}
use lib.Ieee.{Float, nan, inf, fin, ne, is_nan, binary64, to_bits}
use lib.Ieee.Compare.{differs_from_itself}
use Rattle.stats.proofs.bits.bits_of.Goals as goal

no_nan : (x : Float) → ne x x ≡ false → T (not (is_nan x))
unfolding ne is_nan
no_nan nan e = subst T e tt
no_nan (inf s) e = tt
no_nan (fin s m e') e = tt

pub returns-then-x : goal.returns-then-x
unfolding to_bits
returns-then-x c = subst (λ (y : Float). 0x7ff8_0000_0000_0000 ≡ to_bits binary64 y) (sym (differs_from_itself c.args.x (subst T (sym c.if-x.true) tt))) refl

pub float_to_bits-result : goal.float_to_bits-result
float_to_bits-result c = no_nan c.args.x c.if-x.false
