-- `whole::is_whole` meets its contract. Each part refutes a whole book, or all of them make it. Assumes nothing.
use native.Mathlib.Omega.{arith}
use borrow.Author.Tests.{eqb-false, eqb-true}
use mathlib.Core.Path.{sym, ◌∙◌}
use Rattle.std.proofs.lemmas.Bool.{true≢false}
use Rattle.search.proofs.Telling.{says_no}
use Rattle.whole.proofs.Verdict.{asks_few, asks_wrong, bids_wrong, entries_wrong, found_fits, spare_wrong, verdict}
use Rattle.whole.specs.Whole.{size_of}
use Rattle.whole.proofs.is_whole.Goals.{then-a-left, else-a-left, then-is_parted, else-is_parted}
use Rattle.whole.proofs.is_whole.Goals as goal

pub returns-in_default : goal.returns-in_default
returns-in_default c = says_no (bids_wrong _ _ _ _ _ _ c.in_default.ensures)

pub returns-in_default-side_total : goal.returns-in_default-side_total
returns-in_default-side_total c = says_no (asks_wrong _ _ _ _ _ _ _ c.in-Some.ensures c.in_default-side_total.ensures)

pub overflow_add-result : goal.overflow_add-result
overflow_add-result c =
    let l = c.is_sized.ensures.yea c.if-not-is_sized.false in
    let m = c.is_limited.ensures.yea c.if-not-is_limited.false in
    omega (arith, l.records, m.orders, found_fits (size_of c.args.size) c.args.view.book _ _ _ _ _ _ c.in-Some.ensures c.in-Some-side_total.ensures)

pub returns-then-is_spare : goal.returns-then-is_spare
returns-then-is_spare c =
    elim c.if-is_parted.branch [
      | then-is_parted v ↦ elim c.if-a-left.branch [
        | then-a-left u ↦ record {
          yea = λ e. verdict _ _ _ _ _ _ _ _ c.in-Some.ensures c.in-Some-side_total.ensures u.if-a-left.true
              (c.is_sized.ensures.yea c.if-not-is_sized.false) (c.is_limited.ensures.yea c.if-not-is_limited.false)
              (u.is_parted.ensures.yea (sym u.value-is ∙ v.if-is_parted.true)) (sym v.is_spare.ensures ∙ (sym v.value-is ∙ c.if-is_spare.true)) (sym c.taken.ensures ∙ eqb-true _ _ e);
          nay = λ e. entries_wrong _ _ _ _ _ _ _ _ c.in-Some.ensures c.in-Some-side_total.ensures (λ t. eqb-false _ _ e (c.taken.ensures ∙ t));
        }
        | else-a-left u ↦ absurd (u.if-a-left.false (eqb-true _ _ (sym u.value-is ∙ v.if-is_parted.true)))
      ]
      | else-is_parted v ↦ absurd (true≢false (sym c.if-is_spare.true ∙ (v.value-is ∙ v.if-is_parted.false)))
    ]

pub returns-else-is_spare : goal.returns-else-is_spare
returns-else-is_spare c =
    rw c.if-is_spare.false (says_no (λ w. elim c.if-is_parted.branch [
      | then-is_parted v ↦ spare_wrong _ _ _ _ _ _ (sym v.is_spare.ensures ∙ (sym v.value-is ∙ c.if-is_spare.false)) w
      | else-is_parted v ↦ elim c.if-a-left.branch [
        | then-a-left u ↦ u.is_parted.ensures.nay (sym u.value-is ∙ v.if-is_parted.false) w.apart
        | else-a-left u ↦ asks_few _ _ _ _ _ _ _ _ c.in-Some.ensures c.in-Some-side_total.ensures u.if-a-left.false w
      ]
    ]))
