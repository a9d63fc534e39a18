-- `writer::put_wish` meets its contract. Assumes nothing.
use Prim.Native.Nat.{ℕ}
use mathlib.Core.Path.{ap, subst, ◌∙◌}
use mathlib.Core.List.{List, ◌++◌}
use Rattle.fields.specs.Bytes.{bytes}
use Rattle.overlay.specs.Over.{Put}
use Rattle.overlay.proofs.Over.{put_more}
use Rattle.writer.proofs.Writing.{wish_is}
use Rattle.writer.proofs.put_wish.Goals as goal

pub returns-clause-put : goal.returns-clause-put
returns-clause-put c =
    let a = c.args in
    let o = c.args.output.now in
    let n = c.put_number-3.new.self in
    let p = put_more c.put_number.ensures.put (put_more c.put_number-2.ensures.put c.put_number-3.ensures.put) in
    subst (λ (l : List ℕ). Put o.bytes.now o.at l n.bytes.now n.at)
    (ap (λ (s : ℕ). bytes 8 a.id.0 ++ (bytes 1 s ++ bytes 8 a.qty.0)) c.from.ensures ∙ wish_is a.id.0 a.side a.qty.0) p
