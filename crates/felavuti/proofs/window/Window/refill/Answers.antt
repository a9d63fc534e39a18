-- `felavuti::window::Window::refill` meets its contract. Assumes nothing.
use borrow.Author.Rules.{rules}
use native.Mathlib.Omega.{arith}
use mathlib.Core.Path.{◌≡◌, refl, ap}
use Prim.Native.Nat.{ℕ}
use mathlib.Core.List.{[]}
use lib.ListN.{take, drop}
use Rattle.felavuti.specs.Windows.{more}
use Rattle.felavuti.proofs.Refilling.{came_behind, kept_alone}
use Rattle.felavuti.proofs.window.Window.refill.Goals as goal

pub returns-in_err-came-clause-refilled : goal.returns-in_err-came-clause-refilled
returns-in_err-came-clause-refilled g c =
    let w = c.args.self.now in
    let m = c.move_down-kept in
    let r = c.read_behind in
    more [] refl refl (kept_alone w.bytes m.new.buffer r.new.buffer w.start w.end m.result (omega arith) (omega arith) m.ensures.0 m.ensures.1 r.ensures.kept) (λ e. refl)

pub returns-clause-refilled : goal.returns-clause-refilled
returns-clause-refilled g c =
    let w = c.args.self.now in
    let m = c.move_down-kept in
    let r = c.read_behind in
    let n = c.in_ok-came.came in
    let came = take n (drop m.result r.new.buffer) in
    more came refl refl
    (came_behind w.bytes m.new.buffer r.new.buffer w.start w.end m.result n (omega arith) (omega arith) m.ensures.0 m.ensures.1 r.ensures.kept)
    (λ e. let z : n ≡ 0 = search rules in ap (λ (k : ℕ). take k (drop m.result r.new.buffer)) z)
