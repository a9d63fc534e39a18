-- `numbers::bits::of_bits` meets its contract: a pattern above infinity is the NaN, and any other has a double. Assumes nothing.
use Prim.Native.Nat.{◌%◌}
use mathlib.Core.Path.{◌≡◌, refl, sym, subst, ◌∙◌}
use mathlib.Core.Bool.{Bool, true, not}
use borrow.Author.Tests.{lt-ltb, le-ltb}
use lib.Dec.{T}
use lib.Ieee.{Float, nan, inf, fin, is_nan, binary64, of_bits, div, of_fields, odd}
use lib.Ieee.Bits.{nan_bits_is, nan_bits_above}
use Rattle.numbers.proofs.bits.of_bits.Goals as goal

is_nan_lem : (x : Float) → is_nan x ≡ true → nan ≡ x
unfolding is_nan
is_nan_lem nan e = refl
is_nan_lem (inf s) e = absurd (subst T (sym e) tt)
is_nan_lem (fin s m e') e = absurd (subst T (sym e) tt)

pub returns-then-m-gt-INFINITY : goal.returns-then-m-gt-INFINITY
unfolding div of_bits of_fields odd
returns-then-m-gt-INFINITY c =
    let n = c.args.n in
    is_nan_lem (of_bits binary64 n)
    (sym (nan_bits_is binary64 n) ∙ nan_bits_above binary64 n ∙ lt-ltb 9218868437227405312 (n % 9223372036854775808) c.if-m-gt-INFINITY.true)

pub float_from_bits-result : goal.float_from_bits-result
float_from_bits-result c =
    let n = c.args.n in
    let e = nan_bits_above binary64 n ∙ le-ltb 9218868437227405312 (n % 9223372036854775808) c.if-m-gt-INFINITY.false in
    subst (λ (t : Bool). T (not t)) (sym e) tt
