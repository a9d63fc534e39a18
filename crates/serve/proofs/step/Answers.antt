-- `serve::step` meets its contract. Assumes nothing.
use native.Mathlib.Omega.{arith}
use mathlib.Core.Path.{sym}
use mathlib.Core.List.{[]}
use Rattle.overlay.proofs.Over.{put_none}
use Rattle.models.specs.Readings.{refusal_number}
use Rattle.serve.proofs.Following.{followed}
use Rattle.serve.proofs.Stepping.{end_stepped, refused_stepped, order_stepped}
use Rattle.serve.proofs.step.Goals as goal

pub returns-in-Ok-None-clause-step : goal.returns-in-Ok-None-clause-step
returns-in-Ok-None-clause-step c =
    let a = c.args in
    let o = a.output.now in
    record { said = []; stepped = end_stepped _ a.tape.now _ a.at _ (sym (rw c.in-Ok-None.field-0-is at c.in-Ok-None.ensures)); put = put_none o.bytes.now o.at (omega (arith, c.requires.2)) }

pub returns-in-Err-clause-step : goal.returns-in-Err-clause-step
returns-in-Err-clause-step c =
    let a = c.args in
    let f = c.in-Err.fault in
    record { said = _; stepped = refused_stepped _ a.tape.now _ a.at _ (refusal_number f.refusal) f.place (sym c.in-Err.ensures); put = rw c.from.ensures at c.put_stopped.ensures.put }

pub returns-in-Ok-Some-clause-step : goal.returns-in-Ok-Some-clause-step
returns-in-Ok-Some-clause-step c =
    let a = c.args in
    let e = c.in-Ok-Some.entry in
    record {
      said = _;
      stepped = order_stepped _ a.tape.now _ a.at _ e.order _ (sym (rw c.in-Ok-Some.field-0-is at c.in-Ok-Some.ensures)) (followed e.order c.requires.0 c.perform-answer.ensures.performs);
      put = c.put_answer.ensures.put;
    }
