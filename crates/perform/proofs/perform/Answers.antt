-- `perform::perform` meets its contract: it is `order` or `withdraw`, by what is asked. Assumes nothing.
use mathlib.Core.Path.{◌≡◌, ap, sym}
use Rattle.rules.specs.Rules as rule
use Rattle.models.specs.Readings.{call_of}
use Rattle.rows.specs.Rows.{fill_row, places}
use Rattle.survey.specs.Taker.{taker_of}
use Rattle.whole.specs.Whole.{size_of}
use Rattle.perform.proofs.Wholly.{performs_as, whole_sound}
use Rattle.perform.proofs.perform.Goals as goal
use Rattle.perform.proofs.perform.Goals.{in-Limit, in-Market}

pub withdraw-requires : goal.withdraw-requires
withdraw-requires c = record { size = size_of c.args.size; sound = whole_sound c.requires }

pub returns-in-Cancel-clause-performs : goal.returns-in-Cancel-clause-performs
returns-in-Cancel-clause-performs c =
    performs_as (ap (call_of (places fill_row c.args.fills.now)) (sym c.in-Cancel.is))
    (c.withdraw.ensures.withdraws.performs (size_of c.args.size) c.args.statistics.now c.args.fills.now (whole_sound c.requires))

pub order-requires : goal.order-requires
order-requires c = whole_sound c.requires

pub returns-clause-performs : goal.returns-clause-performs
returns-clause-performs c =
    let room = places fill_row c.args.fills.now in
    let e : rule.order (taker_of room c.match-order.taker) ≡ call_of room c.args.order = elim c.match-order.branch [ in-Market w ↦ rw (w.in-Market.is, w.taker-is) | in-Limit w ↦ rw (w.in-Limit.is, w.taker-is) ] in
    performs_as e c.order.ensures.performs
