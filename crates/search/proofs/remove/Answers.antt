-- `search::remove` meets its contract: Knuth's Algorithm R. The invariant: what is left of the pull gives the removal. Assumes nothing.
use Prim.Native.Nat.{ℕ}
use mathlib.Core.Path.{ap, ◌∙◌, ◌≡◌}
use native.Mathlib.Omega.{arith}
use lib.ListN.{length}
use Rattle.search.specs.Seek.{dist, home}
use Rattle.search.proofs.Pulling.{pulling_done, pulling_keep, pulling_move, pulling_out, pulling_start}
use Rattle.search.proofs.remove.Goals as goal
use Rattle.search.proofs.remove.Goals.{then-before-far, else-before-far}

pub loop-init : goal.loop-init
loop-init c = pulling_start _ _ _ _ _ c.requires.pointing c.requires.place_in_bounds (rw c.new-ring.ensures.places at c.after-j.ensures) (omega arith)

pub returns-then-e-eq0 : goal.returns-then-e-eq0
returns-then-e-eq0 c = pulling_done c.loop.invariant c.if-e-eq0.true

-- what the two calls of `steps` gave, k being the place that the id searched for is to have
told : (m k h x y d e : ℕ) → k ≡ h → d ≡ dist m k x → e ≡ dist m k y → (d ≡ dist m h x) × (e ≡ dist m h y)
told m k h x y d e i p q = (p ∙ ap (λ z. dist m z x) i, q ∙ ap (λ z. dist m z y) i)

pub loop-preserved : goal.loop-preserved
loop-preserved c =
    let m = length c.args.table.now in
    let r = c.new-ring.ensures.places in
    let h = rw r at c.home-h.ensures in
    let n = rw r at c.after-j-in-loop.ensures in
    let k = told m _ _ c.loop.hole c.loop.j _ _ (h ∙ ap (home m) c.load.ensures) (rw r at c.steps-before.ensures) (rw r at c.steps-far.ensures) in
    elim c.if-before-far.branch [
      | then-before-far w ↦ rw (w.table-is, w.hole-is, n) (pulling_move m _ c.loop.table c.args.records.now c.loop.hole c.loop.j _ _ c.loop.invariant (omega arith) c.if-e-eq0.false (rw (← k.0, ← k.1) w.if-before-far.true))
      | else-before-far w ↦ rw (w.table-is, w.hole-is, n) (pulling_keep m _ c.loop.table c.args.records.now c.loop.hole c.loop.j _ _ c.loop.invariant (omega arith) c.if-e-eq0.false (rw (← k.0, ← k.1) w.if-before-far.false))
    ]

pub returns : goal.returns
returns c = pulling_out c.loop.invariant (omega arith)
