-- `fields::number_at` meets its contract. Assumes nothing.
use Prim.Native.Nat.{ℕ, ◌+◌, ◌-◌, ◌*◌, ◌^◌, ◌<◌}
use native.Mathlib.Numerals.{add-one}
use mathlib.Core.Path.{◌≡◌, refl, sym, ap, ◌∙◌}
use mathlib.Core.List.{List}
use native.Mathlib.Omega.{arith}
use lib.ListN.{length, get_or, take, drop}
use lib.Seq.{get_or-drop}
use Rattle.std.proofs.lemmas.List.{get_or-take, length-take}
use Rattle.fields.specs.Bytes.{number}
use Rattle.fields.proofs.Numbers.{number_step, below_more, power_fits}
use Rattle.fields.proofs.number_at.Goals as goal

pub loop-byte-init : goal.loop-byte-init
unfolding number
loop-byte-init c = record { value = refl; small = omega arith }

pub overflow_mul-n : goal.overflow_mul-n
overflow_mul-n c =
    let s = c.loop-byte in
    let h = power_fits (s.byte-index + 1) (omega (arith, length-take (c.args.at + c.args.k - c.args.at) (drop c.args.at c.args.tape.now))) in
    record { fits = omega (arith, h, below_more s.byte-index s.n 0 s.invariant.small (omega arith), ap (λ (x : ℕ). 256 ^ x) (add-one s.byte-index)) }

-- the byte of a turn
byte_is : (l : List ℕ) (at k i : ℕ) → i < length (take (at + k - at) (drop at l)) → get_or (take (at + k - at) (drop at l)) i 0 ≡ get_or (drop at l) i 0
byte_is l at k i h = get_or-take (at + k - at) (drop at l) i 0 (omega (arith, length-take (at + k - at) (drop at l)))

pub overflow_add-n : goal.overflow_add-n
overflow_add-n c =
    let s = c.loop-byte in
    let a = c.args in
    let b = c.from.ensures ∙ byte_is a.tape.now a.at a.k s.byte-index c.loop-byte-test.true ∙ get_or-drop a.at a.tape.now s.byte-index 0 in
    let h = power_fits (s.byte-index + 1) (omega (arith, length-take (a.at + a.k - a.at) (drop a.at a.tape.now))) in
    let small : c.from.result < 256 = omega (arith, b, c.type_inv.tape (a.at + s.byte-index)) in
    record { fits = omega (arith, h, below_more s.byte-index s.n c.from.result s.invariant.small small, ap (λ (x : ℕ). 256 ^ x) (add-one s.byte-index)) }

pub loop-byte-preserved : goal.loop-byte-preserved
loop-byte-preserved c =
    let s = c.loop-byte in
    let a = c.args in
    let d = c.from.ensures ∙ byte_is a.tape.now a.at a.k s.byte-index c.loop-byte-test.true in
    let small : c.from.result < 256 = omega (arith, d, get_or-drop a.at a.tape.now s.byte-index 0, c.type_inv.tape (a.at + s.byte-index)) in
    record {
      value = ap (λ (x : ℕ). x * 256 + c.from.result) s.invariant.value
          ∙ ap (λ (x : ℕ). number s.byte-index (drop a.at a.tape.now) * 256 + x) d
          ∙ sym (number_step s.byte-index (drop a.at a.tape.now));
      small = rw add-one (below_more s.byte-index s.n c.from.result s.invariant.small small);
    }
