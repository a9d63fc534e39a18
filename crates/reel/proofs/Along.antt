-- The loop of a part: what holds before each field, and that a field keeps it. Assumes nothing.
use Prim.Native.Nat.{ℕ, ◌+◌, ◌-◌, ◌*◌, ◌<◌, ◌≤◌}
use mathlib.Core.Path.{◌≡◌, refl, subst}
use mathlib.Core.Bool.{Bool, true, false}
use mathlib.Core.Logic.{◌⊎◌, inl, inr}
use mathlib.Core.List.{List, []}
use native.Mathlib.Omega.{arith}
use lib.ListN.{length, drop, length-drop}
use Rattle.overlay.specs.Over.{Put}
use Rattle.overlay.proofs.Over.{put_more, put_none}
use Rattle.rules.specs.Rules as rule
use Rattle.tape.specs.Orders.{longest_field}
use Rattle.tape.proofs.Forms.{ordered}
use Rattle.text.specs.Text.{longest}
use Rattle.serve.specs.declared.State.{State}
use Rattle.serve.specs.declared.State.TheVariants.{Going, Stopped, Ended}
use Rattle.serve.specs.Serve.{Keeping, Ready, Stepped, ended, stopped, went, Step}
use Rattle.reel.specs.Reel.{AtHand, Served, none, more, GoesOn, on, off, Part}

-- what holds before each field
pub record Along (z : rule.Size) (w : List ℕ) (base : ℕ) (last : Bool) (at : ℕ) (x : Keeping) (out : List ℕ) (to : ℕ)
    (s : State) (next behind : ℕ) (x' : Keeping) (out' : List ℕ) : Type 0 where
  pub text : List ℕ
  pub served : Served z w base last at x text s next x'
  pub put : Put out to text out' behind
  pub ready : Ready z x'
  pub within : next ≤ length w

-- a tape that goes on has a field more to go
abbrev pub going : State → ℕ
going Going = 1
going Stopped = 0
going Ended = 0

-- a field leaves a ready desk, ends within the bytes at hand, and takes some of them where the tape goes on
record Moved (z : rule.Size) (w : List ℕ) (s : State) (at next : ℕ) (x' : Keeping) : Type 0 where
  ready : Ready z x'
  within : next ≤ length w
  ahead : at ≤ next
  further : (at < next) ⊎ (s ≡ Going → ⊥)

moved : {z : rule.Size} {w : List ℕ} {base at : ℕ} {x : Keeping} {said : List ℕ} {s : State} {next : ℕ} {x' : Keeping} → Ready z x → at ≤ length w
    → Stepped z w base at x said s next x' → Moved z w s at next x'
moved r h (ended e) = record { ready = r; within = h; ahead = omega arith; further = inr (λ e. let z : ◌≡◌ {A = ℕ} 0 1 = cc in omega arith) }
moved r h (stopped e) = record { ready = r; within = h; ahead = omega arith; further = inr (λ e. let z : ◌≡◌ {A = ℕ} 0 1 = cc in omega arith) }
moved {w = w} {at = at} r h (went o {k} e f) =
    let p = ordered (drop at w) o k e in
    record {
      ready = f.ready;
      within = omega (arith, p.whole, p.size, length-drop at w);
      ahead = omega arith;
      further = inl (omega (arith, p.size));
    }

-- a test that was passed
goes : (w : List ℕ) (next : ℕ) {last : Bool} {s : State} {left room : ℕ} {r : Bool} → r ≡ true → next ≤ length w → GoesOn s last (length w - next) left room r
    → (s ≡ Going) × AtHand w last next × (room ≤ left)
goes w next e n (on g (inl l) h) = (g, inl l, h)
goes w next e n (on g (inr l) h) = (g, inr (omega arith), h)
goes w next e n (off h) = absurd (let z : ◌≡◌ {A = ℕ} 0 1 = cc in let x : ⊥ = omega arith in x)

-- one that was not
halts : (w : List ℕ) (next : ℕ) {last : Bool} {s : State} {left room : ℕ} {r : Bool} → r ≡ false → next ≤ length w → GoesOn s last (length w - next) left room r
    → s ≡ Going → ((last ≡ false) × (length w < next + longest_field)) ⊎ (left < room)
halts w next e n (on g l h) k = absurd (let z : ◌≡◌ {A = ℕ} 0 1 = cc in let x : ⊥ = omega arith in x)
halts w next {last} {s} {left} {room} e n (off h) g = go (h g)
  where
    go : ((last ≡ false) × (length w - next < longest_field)) ⊎ (left < room) → ((last ≡ false) × (length w < next + longest_field)) ⊎ (left < room)
    go (inl l) = inl (l.0, omega (arith, l.1))
    go (inr l) = inr l

-- the bytes left, and one more while the tape goes on
fewer : (w : List ℕ) (next next' : ℕ) (s' : State) → next ≤ next' → next' ≤ length w → (next < next') ⊎ (s' ≡ Going → ⊥)
    → length w - next' + going s' < length w - next + 1
fewer w next next' Going l m (inl f) = omega arith
fewer w next next' Going l m (inr f) = absurd (f refl)
fewer w next next' Stopped l m f = omega arith
fewer w next next' Ended l m f = omega arith

pub begun : {z : rule.Size} {w : List ℕ} {base : ℕ} {last : Bool} {at : ℕ} {x : Keeping} {out : List ℕ} {to : ℕ} → Ready z x
    → at ≤ length w → to ≤ length out → Along z w base last at x out to Going at to x out
begun {out = out} {to} r h g = record { text = []; served = none; put = put_none out to g; ready = r; within = h }

module _ {z : rule.Size} {w : List ℕ} {base : ℕ} {last : Bool} {at : ℕ} {x : Keeping} {out : List ℕ} {to : ℕ}
    {s : State} {next behind : ℕ} {y : Keeping} {out' : List ℕ} (a : Along z w base last at x out to s next behind y out') where
  module _ {room : ℕ} {r : Bool} (e : r ≡ true) (t : GoesOn s last (length w - next) (length out' - behind) room r) where
    -- what a field asks for
    pub asks : base + length w < 18446744073709551616 → longest + z.orders * longest ≤ room
        → Ready z y × (base + next < 18446744073709551616) × (behind + longest + z.orders * longest ≤ length out')
    asks h g =
        let t = goes w next e a.within t in
        (a.ready, omega (arith, a.within), omega (arith, t.2))

    module _ {s' : State} {next' behind' : ℕ} {x' : Keeping} {out'' : List ℕ} (p : Step z w base next y out' behind s' next' behind' x' out'') where
      pub onward : Along z w base last at x out to s' next' behind' x' out''
      onward =
          let g = goes w next e a.within t in
          let m = moved a.ready a.within p.stepped in
          record {
            text = _;
            served = more (subst (λ (v : State). Served z w base last at x a.text v next y) g.0 a.served) g.1 p.stepped;
            put = put_more a.put p.put;
            ready = m.ready;
            within = m.within;
          }

      pub lessens : length w - next' + going s' < length w - next + going s
      lessens =
          let g = goes w next e a.within t in
          let m = moved a.ready a.within p.stepped in
          rw g.0 (fewer w next next' s' m.ahead m.within m.further)

  -- where the loop ends
  pub parted : {room : ℕ} {r : Bool} → r ≡ false → GoesOn s last (length w - next) (length out' - behind) room r
      → Part z w base last at x out to room s next behind y out'
  parted {room} e t =
      record { text = a.text; served = a.served; put = a.put; ready = a.ready; within = a.within; paused = λ g. go (halts w next e a.within t g) }
    where
      go : ((last ≡ false) × (length w < next + longest_field)) ⊎ (length out' - behind < room)
          → ((last ≡ false) × (length w < next + longest_field)) ⊎ (length out < behind + room)
      go (inl l) = inl l
      go (inr l) = inr (omega (arith, l, a.put.long))
