-- `fields::Output::put_number` meets its contract. Assumes nothing.
use Prim.Native.Nat.{ℕ, ◌+◌, ◌-◌}
use mathlib.Core.Path.{◌≡◌, sym, ap, ◌∙◌}
use native.Mathlib.Omega.{arith}
use lib.ListN.{length, length-set}
use Rattle.fields.specs.Bytes.{bytes}
use Rattle.overlay.specs.Over.{over}
use Rattle.overlay.proofs.Over.{put_over, over_none}
use Rattle.fields.proofs.Numbers.{bytes_step, bytes_length}
use Rattle.fields.proofs.Output.put_number.Goals as goal

pub loop-i-preserved : goal.loop-i-preserved
loop-i-preserved c =
    let s = c.loop-i in
    let v = c.loop-i.invariant in
    let e : c.loop-i.i - 1 - c.loop-i.self.at ≡ c.loop-i.i - c.loop-i.self.at - 1 = omega arith in
    let p : c.loop-i.self.at + (c.loop-i.i - c.loop-i.self.at - 1) ≡ c.loop-i.i - 1 = omega arith in
    record {
      lent = v.lent;
      at = v.at;
      long = simp length-set v.long;
      from = omega arith;
      to = omega arith;
      laid = rw (e, ← p) (bytes_step s.self.bytes.now s.self.at (s.i - s.self.at) s.rest (omega arith) (omega arith) ∙ v.laid);
    }

pub returns-clause-put : goal.returns-clause-put
unfolding bytes
returns-clause-put c =
    let s = c.loop-i in
    let a = c.args in
    let z : c.loop-i.i - c.loop-i.self.at ≡ 0 = omega arith in
    let n : length (bytes a.k a.n) ≡ a.k = bytes_length a.k a.n in
    put_over _ _ _ _ _ (omega (arith, n)) (omega (arith, n))
    (sym (over_none s.self.bytes.now s.self.at) ∙ ap (λ (i : ℕ). over s.self.bytes.now s.self.at (bytes i s.rest)) (sym z) ∙ s.invariant.laid ∙ ap (λ (i : ℕ). over a.self.now.bytes.now i (bytes a.k a.n)) s.invariant.at)
