-- `calls::cancel` meets its contract: on a whole book it is `withdraw`, and what that leaves is whole. Assumes nothing.
use mathlib.Core.Path.{subst}
use mathlib.Core.List.{[]}
use Rattle.whole.specs.Whole.{WholeStock, size_of}
use Rattle.perform.proofs.Wholly.{performs_whole, whole_sound}
use Rattle.calls.specs.Calls.{performed}
use Rattle.calls.proofs.cancel.Goals as goal

pub withdraw-requires : goal.withdraw-requires
withdraw-requires c = record { size = size_of c.args.size; sound = whole_sound (subst (WholeStock (size_of c.args.size)) c.view.ensures c.in_ok-known.ensures) }

pub returns-clause-cancels : goal.returns-clause-cancels
returns-clause-cancels c =
    let w = subst (WholeStock (size_of c.args.size)) c.view.ensures c.in_ok-known.ensures in
    λ st. performed w (performs_whole (c.withdraw.ensures.withdraws.performs (size_of c.args.size) st [] (whole_sound w)))
