-- `text::put_stopped` meets its contract. Assumes nothing.
use Prim.Native.Nat.{ℕ}
use mathlib.Core.Path.{◌≡◌, ap, subst}
use mathlib.Core.List.{List, [], ◌∷◌, ◌++◌, append_assoc}
use Rattle.overlay.specs.Over.{Put}
use Rattle.overlay.proofs.Over.{put_more}
use Rattle.text.specs.Text.{spelled, spaced, feed, numbered, stopped_line}
use Rattle.text.proofs.put_stopped.Goals as goal

both : (n at : ℕ) → (spelled "Refused" ++ numbered (n ∷ []) (spelled " at")) ++ ([] ++ numbered (at ∷ []) feed) ≡ stopped_line n at
both n at = ap (λ (l : List ℕ). spelled "Refused" ++ l) (append_assoc (spaced n) (spelled " at") (spaced at ++ feed))

pub returns-clause-put : goal.returns-clause-put
returns-clause-put c =
    let o = c.args.output.now in
    let n = c.put_line-2.new.output in
    subst (λ (l : List ℕ). Put o.bytes.now o.at l n.bytes.now n.at) (both c.args.number c.args.offset)
    (put_more c.put_line.ensures.put c.put_line-2.ensures.put)
