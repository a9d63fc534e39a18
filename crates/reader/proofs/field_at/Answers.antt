-- `reader::field_at` meets its contract. Assumes nothing.
use Prim.Native.Nat.{ℕ}
use mathlib.Core.Path.{◌≡◌, sym, ap, ◌∙◌}
use native.Mathlib.Omega.{arith}
use Rattle.std.specs.Prelude.{Err}
use Rattle.tape.specs.declared.Kind.{Kind}
use Rattle.tape.specs.Orders.{length_of, tag_of}
use Rattle.tape.proofs.Tags.{kind_least}
use Rattle.reader.proofs.Places.{passed_on, header_fits, read_unknown, read_length, read_cut, read_side, read_order}
use Rattle.reader.proofs.field_at.Goals as goal

-- a tag that is a kind's is known
known : (t : ℕ) (k : Kind) → t ≡ tag_of k → length_of t ≡ 0 → ⊥
known t k e z = let h : length_of t ≡ length_of (tag_of k) = ap length_of e in omega (arith, kind_least k)

pub returns-in_err-kind-clause-refused : goal.returns-in_err-kind-clause-refused
returns-in_err-kind-clause-refused c =
    let a = c.args in
    let k = c.in_err-kind.ensures in
    let r : c.from_residual.result ≡ Err c.in_err-kind.field-0.0 = passed_on _ _ c.from_residual.ensures.1 in
    rw (r, k.0) (sym (read_unknown a.tape.now a.at a.header c.requires k.1))

pub returns-then-header-wanted-clause-refused : goal.returns-then-header-wanted-clause-refused
returns-then-header-wanted-clause-refused c =
    let a = c.args in
    let e : a.header.tag ≡ tag_of c.in_ok-kind.kind = c.in_ok-kind.ensures in
    sym (read_length a.tape.now a.at a.header c.requires (known _ _ e) (λ n. c.if-header-wanted.true (n ∙ ap length_of e ∙ sym c.length-wanted.ensures)))

pub overflow_sub-tape : goal.overflow_sub-tape
overflow_sub-tape c = header_fits c.args.tape.now c.args.at c.args.header c.requires

pub returns-then-tape-value-clause-refused : goal.returns-then-tape-value-clause-refused
returns-then-tape-value-clause-refused c =
    let a = c.args in
    let e : a.header.tag ≡ tag_of c.in_ok-kind.kind = c.in_ok-kind.ensures in
    let n : c.length-wanted.result ≡ length_of a.header.tag = c.length-wanted.ensures ∙ sym (ap length_of e) in
    sym (read_cut a.tape.now a.at a.header c.requires (known _ _ e) (c.if-header-wanted.false ∙ n) (omega (arith, n, c.if-tape-value.true)))

pub order_at-requires : goal.order_at-requires
order_at-requires c = omega (arith, header_fits c.args.tape.now c.args.at c.args.header c.requires, c.length-wanted.ensures, c.if-tape-value.false)

pub returns-in_err-order-clause-refused : goal.returns-in_err-order-clause-refused
returns-in_err-order-clause-refused c =
    let a = c.args in
    let e : a.header.tag ≡ tag_of c.in_ok-kind.kind = c.in_ok-kind.ensures in
    let n : c.length-wanted.result ≡ length_of a.header.tag = c.length-wanted.ensures ∙ sym (ap length_of e) in
    let k = c.in_err-order.ensures.refused in
    let r : c.from_residual-in_err-order.result ≡ Err c.in_err-order.field-0.0 = passed_on _ _ c.from_residual-in_err-order.ensures.1 in
    rw (r, k.0) (sym (read_side a.tape.now a.at a.header c.requires (known _ _ e) (c.if-header-wanted.false ∙ n) (omega (arith, n, c.if-tape-value.false)) (rw e k.1)))

pub returns-clause-order : goal.returns-clause-order
returns-clause-order c =
    let a = c.args in
    let e : a.header.tag ≡ tag_of c.in_ok-kind.kind = c.in_ok-kind.ensures in
    let n : c.length-wanted.result ≡ length_of a.header.tag = c.length-wanted.ensures ∙ sym (ap length_of e) in
    let k = c.in_ok-order.ensures.order in
    rw (k.0, n, ← e) (sym (read_order a.tape.now a.at a.header c.requires (known _ _ e) (c.if-header-wanted.false ∙ n) (omega (arith, n, c.if-tape-value.false)) (rw e k.1)))
