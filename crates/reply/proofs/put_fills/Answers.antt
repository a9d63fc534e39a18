-- `reply::put_fills` meets its contract. Assumes nothing.
use mathlib.Core.Path.{refl, subst, ◌∙◌}
use native.Mathlib.Omega.{arith}
use Rattle.rules.specs.Rules as rule
use Rattle.overlay.specs.Over.{Put}
use Rattle.text.specs.Text.{fill_line}
use Rattle.reply.proofs.Lines.{none_put, line_more, lines_end}
use Rattle.reply.proofs.put_fills.Goals as goal

pub loop-i-init : goal.loop-i-init
loop-i-init c = let o = c.args.output.now in record { lent = refl; put = none_put o.bytes.now o.at c.args.fills.now (omega arith) }

pub put_fill-requires : goal.put_fill-requires
put_fill-requires c =
    let s = c.loop-i in
    omega (arith, lines_end c.args.fills.now s.i s.invariant.put, s.invariant.put.long, c.min-i-end.ensures, c.places.ensures)

pub loop-i-preserved : goal.loop-i-preserved
loop-i-preserved c =
    let s = c.loop-i in
    let n = c.put_fill.new.output in
    record {
      lent = c.put_fill.ensures.lent ∙ s.invariant.lent;
      put = line_more c.args.fills.now s.i s.invariant.put
          (subst (λ (f : rule.Fill (Unit {0})). Put s.output.bytes.now s.output.at (fill_line f) n.bytes.now n.at) c.at.ensures c.put_fill.ensures.put);
    }
