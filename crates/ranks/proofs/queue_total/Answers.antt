-- `ranks::queue_total` meets its contract. The invariant: the walk from the head counts, and finds, what the walk from here does. Assumes nothing.
use Prim.Native.Nat.{ℕ}
use mathlib.Core.Bool.{Bool, true}
use mathlib.Core.List.{List}
use mathlib.Core.Logic.{◌≢◌}
use mathlib.Core.Path.{sym, ◌∙◌, ◌≡◌}
use native.Mathlib.Omega.{arith}
use Rattle.records.specs.Rows.{RecordAt}
use Rattle.records.proofs.Rows.{row_places}
use Rattle.ranks.specs.Ranks.{fit}
use Rattle.ranks.proofs.Queues.{fit_is, seen_end, seen_more, walked_done, walked_full, walked_off, walked_turn, walked_wrong}
use Rattle.ranks.proofs.queue_total.Goals as goal
use Rattle.ranks.proofs.queue_total.Goals.{then-is_found, else-is_found, then-orders-most-via-then-orders-most, then-orders-most-via-else-orders-most+then-not-fits, else-p-tail-via-then-p-tail+else-orders-ne0, else-p-tail-via-else-p-tail}

-- what fits is a record
row : (rs : List ℕ) (price p c : ℕ) (b : Bool) → c ≢ 0 → b ≡ fit rs price p c → b ≡ true → RecordAt rs c
row rs price p c b n e t = row_places rs c (omega arith) (fit_is rs price p c (sym e ∙ t)).inside

pub returns-then-orders-most : goal.returns-then-orders-most
returns-then-orders-most c =
    elim c.then-orders-most.branch [
      | then-orders-most-via-then-orders-most w ↦ c.loop-c.invariant.1 ∙ walked_full _ _ _ _ _ _ _ c.loop-c-test.true (omega arith)
      | then-orders-most-via-else-orders-most+then-not-fits w ↦ c.loop-c.invariant.1 ∙ walked_wrong _ _ _ _ _ _ _ c.loop-c-test.true (sym w.fits.ensures ∙ w.if-not-fits.true)
    ]

pub is_found-requires : goal.is_found-requires
is_found-requires c = (c.requires, row _ _ _ _ _ c.loop-c-test.true c.fits.ensures c.if-not-fits.false)

pub load-c-requires : goal.load-c-requires
load-c-requires c = (omega arith, row _ _ _ _ _ c.loop-c-test.true c.fits.ensures c.if-not-fits.false)

pub loop-c-preserved : goal.loop-c-preserved
loop-c-preserved c = (
  omega arith,
  c.loop-c.invariant.1 ∙ walked_turn _ _ _ _ _ _ _ _ c.loop-c-test.true (omega arith) (sym c.fits.ensures ∙ c.if-not-fits.false) c.load-c.ensures,
  seen_more c.loop-c.invariant.2 _ _ c.is_found.result c.loop-c-test.true (omega arith) c.load-c.ensures c.is_found.ensures (elim c.if-is_found.branch [ then-is_found w ↦ rw w.if-is_found.true w.found-is | else-is_found w ↦ rw w.if-is_found.false (omega (arith, w.found-is)) ]),
)

pub returns-then-orders-ne0 : goal.returns-then-orders-ne0
returns-then-orders-ne0 c = record {
  some = omega arith;
  within = omega arith;
  orders = sym (c.loop-c.invariant.1 ∙ walked_done _ _ _ _ _ _ _ c.loop-c-test.false c.if-p-tail.true);
  found = seen_end c.loop-c.invariant.2 c.loop-c-test.false;
}

pub returns-else-p-tail : goal.returns-else-p-tail
returns-else-p-tail c =
    elim c.else-p-tail.branch [
      | else-p-tail-via-then-p-tail+else-orders-ne0 w ↦ c.loop-c.invariant.1 ∙ walked_done _ _ _ _ _ _ _ c.loop-c-test.false w.if-p-tail.true ∙ w.if-orders-ne0.false
      | else-p-tail-via-else-p-tail w ↦ c.loop-c.invariant.1 ∙ walked_off _ _ _ _ _ _ _ c.loop-c-test.false w.if-p-tail.false
    ]
