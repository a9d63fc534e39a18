-- `text::put_line` meets its contract. Assumes nothing.
use Prim.Native.Nat.{ℕ, ◌+◌, ◌*◌, ◌≤◌}
use mathlib.Core.Path.{◌≡◌, refl, sym, ◌∙◌}
use mathlib.Core.List.{List, [], ◌++◌}
use native.Mathlib.Omega.{arith}
use lib.ListN.{length, take}
use lib.Seq.{take-length}
use Rattle.std.proofs.lemmas.List.{length-take}
use Rattle.overlay.proofs.Over.{put_more, put_none}
use Rattle.text.specs.Text.{numbered}
use Rattle.text.proofs.Lines.{numbered_more, numbered_end, numbered_length}
use Rattle.text.proofs.put_line.Goals as goal

pub loop-number-init : goal.loop-number-init
loop-number-init c = record { lent = refl; put = put_none c.put.new.self.bytes.now c.put.new.self.at (omega (arith, c.put.ensures.put.next, c.put.ensures.put.long)) }

-- the place behind the numbers that are put
behind : (l : List ℕ) (i at next : ℕ) → next ≡ at + length (numbered (take i l) []) → next ≤ at + i * 21
behind l i at next e = omega (arith, numbered_length (take i l), length-take i l)

pub put_number-requires : goal.put_number-requires
put_number-requires c =
    let s = c.loop-number in
    omega (arith, behind c.args.numbers.now s.number-index _ _ s.invariant.put.next, s.invariant.put.long, c.put.ensures.put.next, c.put.ensures.put.long)

pub loop-number-preserved : goal.loop-number-preserved
loop-number-preserved c =
    let s = c.loop-number in
    let n = c.args.numbers.now in
    record { lent = c.put_number.ensures.lent ∙ s.invariant.lent; put = rw (numbered_more n s.number-index c.loop-number-test.true) (put_more s.invariant.put c.put_number.ensures.put) }

pub put-requires-2 : goal.put-requires-2
put-requires-2 c =
    let s = c.loop-number in
    omega (arith, behind c.args.numbers.now s.number-index _ _ s.invariant.put.next, s.invariant.put.long, c.put.ensures.put.next, c.put.ensures.put.long)

pub returns-clause-put : goal.returns-clause-put
returns-clause-put c =
    let s = c.loop-number in
    let n = c.args.numbers.now in
    let all : c.loop-number.number-index ≡ length c.args.numbers.now = omega arith in
    let e : numbered (take c.loop-number.number-index c.args.numbers.now) [] ++ c.args.end.now ≡ numbered c.args.numbers.now c.args.end.now = rw (all, take-length n) (sym (numbered_end n c.args.end.now)) in
    rw (← e) (put_more c.put.ensures.put (put_more s.invariant.put c.put-2.ensures.put))

pub returns-clause-upper_bound : goal.returns-clause-upper_bound
returns-clause-upper_bound c =
    let s = c.loop-number in
    omega (arith, behind c.args.numbers.now s.number-index _ _ s.invariant.put.next, c.put.ensures.put.next, c.put-2.ensures.put.next)
