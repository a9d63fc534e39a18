-- `text::put_number` meets its contract. Assumes nothing.
use Prim.Native.Nat.{ℕ}
use mathlib.Core.Path.{subst, ◌∙◌}
use mathlib.Core.List.{List}
use native.Mathlib.Omega.{arith}
use Rattle.overlay.specs.Over.{Put}
use Rattle.overlay.proofs.Over.{put_more}
use Rattle.text.proofs.Decimal.{decimal_is}
use Rattle.text.proofs.put_number.Goals as goal

pub returns-clause-put : goal.returns-clause-put
returns-clause-put c =
    let x = c.args.x in
    let d = c.decimal-count in
    let s = c.put.new.self in
    let n = c.put-2.new.self in
    put_more c.put.ensures.put
    (subst (λ (t : List ℕ). Put s.bytes.now s.at t n.bytes.now n.at) (d.ensures.digits ∙ decimal_is d.result x d.ensures.len (omega arith)) c.put-2.ensures.put)
