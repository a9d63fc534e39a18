-- `slips::order_of` meets its contract: each kind's order is the definition's, and so is what is refused. Assumes nothing.
use Prim.Native.Nat.{ℕ}
use mathlib.Core.Path.{◌≡◌, refl, ◌∙◌}
use mathlib.Core.List.{List}
use mathlib.Core.Option.{some}
use borrow.Author.Tests.{lt-ltb}
use Rattle.std.specs.Prelude.{Result, IfErr, Err}
use Rattle.models.specs.declared.OrderType.{OrderType}
use Rattle.models.specs.declared.Refusal.{Refusal}
use Rattle.models.specs.Readings.{refusal_number}
use Rattle.slips.specs.Slips.{kind_of, refusal}
use Rattle.reader.proofs.Places.{passed_on}
use Rattle.slips.proofs.Writing.{kindless, sideless, side_is}
use Rattle.slips.proofs.order_of.Goals as goal

-- what is refused, whatever the tape
abbrev Refuses : List ℕ → Result OrderType Refusal → Type 0
Refuses s r = IfErr r (λ e. (l : List ℕ) (at : ℕ) → refusal l at s ≡ some (refusal_number e))

pub returns-in_err-kind-clause-refused : goal.returns-in_err-kind-clause-refused
returns-in_err-kind-clause-refused c =
    let k = c.in_err-kind.ensures in
    let r : c.from_residual.result ≡ Err c.in_err-kind.field-0.0 = passed_on _ _ c.from_residual.ensures.1 in
    rw (r, k.0) (kindless c.args.slip k.1)

pub returns-in_err-side-in-Market-clause-refused : goal.returns-in_err-side-in-Market-clause-refused
returns-in_err-side-in-Market-clause-refused c =
    let s = c.args.slip in
    let k = c.in_err-side-in-Market.ensures in
    let e : kind_of c.args.slip ≡ 1 = c.in_ok-kind.ensures ∙ rw c.in-Market.is in
    let r : c.from_residual-in_err-side-in-Market.result ≡ Err c.in_err-side-in-Market.field-0.0 = passed_on _ _ c.from_residual-in_err-side-in-Market.ensures.1 in
    rw (r, k.0) (sideless s (rw e) (rw e (lt-ltb _ _ k.1)))

pub returns-in_err-side-in-Limit-clause-refused : goal.returns-in_err-side-in-Limit-clause-refused
returns-in_err-side-in-Limit-clause-refused c =
    let s = c.args.slip in
    let k = c.in_err-side-in-Limit.ensures in
    let e : kind_of c.args.slip ≡ 2 = c.in_ok-kind.ensures ∙ rw c.in-Limit.is in
    let r : c.from_residual-in_err-side-in-Limit.result ≡ Err c.in_err-side-in-Limit.field-0.0 = passed_on _ _ c.from_residual-in_err-side-in-Limit.ensures.1 in
    rw (r, k.0) (sideless s (rw e) (rw e (lt-ltb _ _ k.1)))

pub returns-in_ok-side-in-Market-clause-order : goal.returns-in_ok-side-in-Market-clause-order
returns-in_ok-side-in-Market-clause-order c =
    let e : kind_of c.args.slip ≡ 1 = c.in_ok-kind.ensures ∙ rw c.in-Market.is in
    let s = side_is _ _ c.in_ok-side-in-Market.ensures in
    rw (e, s.0, s.1) (refl, refl, refl)

pub returns-in_ok-side-in-Limit-clause-order : goal.returns-in_ok-side-in-Limit-clause-order
returns-in_ok-side-in-Limit-clause-order c =
    let e : kind_of c.args.slip ≡ 2 = c.in_ok-kind.ensures ∙ rw c.in-Limit.is in
    let s = side_is _ _ c.in_ok-side-in-Limit.ensures in
    rw (e, s.0, s.1) (refl, refl, refl)

pub returns-in-Cancel-clause-order : goal.returns-in-Cancel-clause-order
returns-in-Cancel-clause-order c =
    let e : kind_of c.args.slip ≡ 3 = c.in_ok-kind.ensures ∙ rw c.in-Cancel.is in
    rw e (refl, refl, refl)
