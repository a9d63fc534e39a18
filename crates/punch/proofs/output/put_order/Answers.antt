-- `punch::output::put_order` meets its contract: the writer is never refused, since there is room for any order. Assumes nothing.
use Prim.Native.Nat.{ℕ}
use mathlib.Core.Path.{ap, ◌∙◌}
use Rattle.std.specs.Result.{result_unwrap_or}
use Rattle.std.specs.Prelude.{Result}
use Rattle.models.specs.declared.Refusal.{Refusal}
use Rattle.punch.proofs.Punched.{is_next, was_put}
use Rattle.punch.proofs.output.put_order.Goals as goal

pub returns : goal.returns
returns c =
    let a = c.args in
    let w = c.write_order.ensures in
    was_put a.tape.now a.at a.order c.requires c.write_order.new.out c.unwrap_or.result
    (c.unwrap_or.ensures ∙ ap (λ (r : Result ℕ Refusal). result_unwrap_or r a.at) (w.0 ∙ is_next a.tape.now a.at a.order c.requires)) w.1
