-- Orders written one after another are the orders' tape, and read back as them. Assumes nothing.
use Prim.Native.Nat.{ℕ, ◌+◌, ◌≤◌}
use mathlib.Core.Path.{◌≡◌, refl, sym, ap, ◌∙◌}
use mathlib.Core.Bool.{Bool, true, false, cond}
use mathlib.Core.List.{List}
use native.Mathlib.Omega.{arith}
use lib.ListN.{length}
use borrow.Author.Tests.{leb-true}
use Rattle.overlay.specs.Over.{over, Put}
use Rattle.overlay.proofs.Over.{put_more, put_none, put_over, put_stands}
use Rattle.models.specs.declared.OrderType.{OrderType}
use Rattle.std.specs.Prelude.{Ok, Err}
use Rattle.models.specs.declared.Refusal.TheVariants.{ShortRoom}
use Rattle.tape.specs.Orders.{field_of, fits, written_at, written_to}
use Rattle.tape.specs.Tape.{ended, read_tape, tape_of, AllFit, Wrote, begun, further, between}
use Rattle.tape.proofs.Tapes.{reads_back}

-- an order that was written
one_put : (l : List ℕ) (at next : ℕ) (o : OrderType) → written_at l at o ≡ Ok next → Put l at (field_of o) (written_to l at o) next
one_put l at next o e = go (fits l at o) refl e
  where
    go : (b : Bool) → fits l at o ≡ b → cond b (Ok (at + length (field_of o))) (Err ShortRoom) ≡ Ok next → Put l at (field_of o) (cond b (over l at (field_of o)) l) next
    go true f e = put_over l at (field_of o) (over l at (field_of o)) next (leb-true _ _ f) (let z : at + length (field_of o) ≡ next = cc in sym z) refl
    go false f e = absurd (let z : ◌≡◌ {A = ℕ} 0 1 = cc in let x : ⊥ = omega arith in x)

-- what the writer writes is the orders' tape; its bytes change and nothing else does
pub writes_tape : {l l' : List ℕ} {at behind : ℕ} {os : List OrderType} → at ≤ length l → Wrote l at os l' behind → Put l at (tape_of os) l' behind
unfolding tape_of
writes_tape {l} {at = at} h begun = put_none l at h
writes_tape {l} {at = at} h (further {next = next} {o = o} e w) =
    let p = one_put l at next o e in
    put_more p (writes_tape (omega (arith, p.next, p.fits, p.long)) w)

-- and reads back as the same orders
pub writes_back : {l l' : List ℕ} {at behind : ℕ} {os : List OrderType} → at ≤ length l → AllFit os → Wrote l at os l' behind
    → read_tape (between l' at behind) ≡ record { orders = os; ending = ended }
writes_back {os = os} h fit w = ap read_tape (put_stands (writes_tape h w)) ∙ reads_back os fit
