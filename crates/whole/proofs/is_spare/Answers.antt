-- `whole::is_spare` meets its contract. The invariant: the code is that of a record or none, its row ends at `end`, and the chain from `free` has `count` free places where that from here has as many as are left. Assumes nothing.
use mathlib.Core.Path.{sym, ◌∙◌}
use native.Mathlib.Omega.{arith}
use Rattle.whole.proofs.Spare.{idles_end, idles_short, idles_out, idles_full, idles_turn}
use Rattle.whole.proofs.is_spare.Goals as goal
use Rattle.whole.proofs.is_spare.Goals.{then-c-eq0-via-then-c-eq0, then-c-eq0-via-else-c-eq0+then-load_before-ne0, then-next-c+else-most-next, else-next-c}

pub returns-then-most-free : goal.returns-then-most-free
returns-then-most-free c = sym (idles_out _ _ _ c.if-most-free.true)

pub returns-then-c-eq0 : goal.returns-then-c-eq0
returns-then-c-eq0 c =
    let l = c.loop in
    sym (l.invariant.2 ∙ elim c.then-c-eq0.branch [
      | then-c-eq0-via-then-c-eq0 w ↦ idles_short _ _ _ (omega arith) w.if-c-eq0.true
      | then-c-eq0-via-else-c-eq0+then-load_before-ne0 w ↦ idles_full _ _ _ _ (omega arith) w.if-c-eq0.false l.invariant.0 w.if-load_before-ne0.true (w.load_before.ensures _ (omega arith) l.invariant.1)
    ])

pub returns-then-most-next : goal.returns-then-most-next
returns-then-most-next c =
    let l = c.loop in
    sym (l.invariant.2 ∙ idles_turn _ _ _ _ _ _ c.loop-test.true c.if-c-eq0.false l.invariant.0 c.if-load_before-ne0.false (c.load_before.ensures _ (omega arith) l.invariant.1) (c.load_before-next.ensures _ (omega arith) l.invariant.1) ∙ idles_out _ _ _ c.if-most-next.true)

pub loop-preserved : goal.loop-preserved
loop-preserved c =
    let l = c.loop in
    let t = l.invariant.2 ∙ idles_turn _ _ _ _ _ _ c.loop-test.true c.if-c-eq0.false l.invariant.0 c.if-load_before-ne0.false (c.load_before.ensures _ (omega arith) l.invariant.1) (c.load_before-next.ensures _ (omega arith) l.invariant.1) in
    elim c.if-next-c.branch [
      | then-next-c+else-most-next w ↦ rw (w.c-is, w.end-is) (omega arith, omega arith, t)
      | else-next-c w ↦ rw (w.c-is, w.end-is) (omega arith, omega arith, rw (sym w.if-next-c.false) t)
    ]

pub returns : goal.returns
returns c = sym (c.loop.invariant.2 ∙ idles_end _ _ _ (omega arith))
