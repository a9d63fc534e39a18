-- Whatever the refills are: parts of a tape served one after another say the text of the whole tape, and leave its desk. Assumes nothing.
use Prim.Native.Nat.{ℕ, ◌+◌}
use mathlib.Core.Path.{◌≡◌, refl, sym, ap, subst, ◌∙◌}
use mathlib.Core.Bool.{Bool, true}
use mathlib.Core.Logic.{inl, inr}
use mathlib.Core.List.{List, [], ◌++◌, append_assoc, append-nil}
use native.Mathlib.Omega.{arith}
use native.Mathlib.Nat.{zero-add, add_assoc}
use lib.ListN.{drop, length-drop}
use lib.Seq.{drop-drop, drop-append-le}
use Rattle.rules.specs.Rules as rule
use Rattle.models.specs.declared.OrderType.{OrderType}
use Rattle.tape.specs.Orders.{order, item}
use Rattle.tape.specs.Tape.{Reading, ahead, read_from, read_tape}
use Rattle.tape.proofs.Tapes.{read_order, read_refused, read_nothing}
use Rattle.tape.proofs.Window.{item_window}
use Rattle.text.specs.Text.{stopped_line}
use Rattle.feed.specs.Feed.{result, after, answers, answers_text, answer_text, ending_text, text_of, tape_text, tape_desk}
use Rattle.serve.specs.declared.State.{State}
use Rattle.serve.specs.declared.State.TheVariants.{Going, Stopped, Ended}
use Rattle.serve.specs.Serve.{Keeping, desk_of, Stepped, ended, stopped, went}
use Rattle.reel.specs.Reel.{AtHand, Served, none, more, Window, Reeled, start, refill, Tells}

-- ---- a part is a run along the whole tape

module _ {t : List ℕ} {base : ℕ} {w : List ℕ} {last : Bool} (v : Window t base w last) where
  -- a field that can be read at a place of the part is the tape's at that place
  same_item : (at : ℕ) → AtHand w last at → item (drop (base + at) t) ≡ item (drop at w)
  same_item at (inl e) =
      ap item (sym (drop-drop at base t) ∙ ap (drop at) (v.bytes ∙ ap (λ (r : List ℕ). w ++ r) (v.ends e) ∙ append-nil w))
  same_item at (inr h) =
      ap item (sym (drop-drop at base t) ∙ ap (drop at) v.bytes ∙ drop-append-le at w v.rest (omega arith))
      ∙ item_window (drop at w) v.rest (omega (arith, length-drop at w))

  step_along : {z : rule.Size} {at : ℕ} {x : Keeping} {said : List ℕ} {s : State} {next : ℕ} {x' : Keeping} → AtHand w last at
      → Stepped z w base at x said s next x' → Stepped z t 0 (base + at) x said s (base + next) x'
  step_along {at = at} h (ended e) = ended (same_item at h ∙ e)
  step_along {z} {at} {x} h (stopped {n} e) =
      subst (λ (i : ℕ). Stepped z t 0 (base + at) x (stopped_line n i) Stopped (base + at) x) (zero-add (base + at)) (stopped (same_item at h ∙ e))
  step_along {z} {at} {x} {said} {x' = x'} h (went o {k} e f) =
      subst (λ (i : ℕ). Stepped z t 0 (base + at) x said Going i x') (add_assoc base at k) (went o (same_item at h ∙ e) f)

  part_along : {z : rule.Size} {at : ℕ} {x : Keeping} {text : List ℕ} {s : State} {next : ℕ} {x' : Keeping} → Served z w base last at x text s next x'
      → Served z t 0 true (base + at) x text s (base + next) x'
  part_along none = none
  part_along (more p h q) = more (part_along p) (inl refl) (step_along h q)

-- one run behind another
joined : {z : rule.Size} {t : List ℕ} {at mid : ℕ} {x y : Keeping} {text : List ℕ} {next : ℕ} {x' : Keeping} {said : List ℕ} {s : State} → Served z t 0 true at x text Going mid y
    → Served z t 0 true mid y said s next x' → Served z t 0 true at x (text ++ said) s next x'
joined {z} {t} {at} {mid} {x} {y} {text} p none = subst (λ (l : List ℕ). Served z t 0 true at x l Going mid y) (sym (append-nil text)) p
joined {z} {t} {at} {x = x} {text = text} {next = next} {x' = x'} {s = s} p (more {text = head} {said = tail} q h r) =
    subst (λ (l : List ℕ). Served z t 0 true at x l s next x') (append_assoc text head tail) (more (joined p q) h r)

parts_along : {z : rule.Size} {t : List ℕ} {x : Keeping} {text : List ℕ} {s : State} {next : ℕ} {x' : Keeping} → Reeled z t x text s next x'
    → Served z t 0 true 0 x text s next x'
parts_along start = none
parts_along (refill p v q) = joined (parts_along p) (part_along v q)

-- ---- a run along the tape says its text

module _ (z : rule.Size) (t : List ℕ) where
  -- what is still to come, by where the run stands
  abbrev to_come : State → ℕ → Keeping → List ℕ
  to_come Going at x = text_of z (desk_of x) (read_from at (drop at t))
  to_come Stopped at x = []
  to_come Ended at x = []

  abbrev in_the_end : State → ℕ → Keeping → rule.Desk (Unit {0})
  in_the_end Going at x = after z (desk_of x) (read_from at (drop at t)).orders
  in_the_end Stopped at x = desk_of x
  in_the_end Ended at x = desk_of x

  text_ahead : (d : rule.Desk (Unit {0})) (o : OrderType) (r : Reading)
      → text_of z d (ahead o r) ≡ answer_text (result z d o).answer ++ text_of z (result z d o).desk r
  unfolding answers answers_text
  text_ahead d o r =
      append_assoc (answer_text (result z d o).answer) (answers_text (answers z (result z d o).desk r.orders)) (ending_text r.ending)

  desk_ahead : (d : rule.Desk (Unit {0})) (o : OrderType) (r : Reading) → after z d (ahead o r).orders ≡ after z (result z d o).desk r.orders
  unfolding after
  desk_ahead d o r = refl

  nothing_said : (d : rule.Desk (Unit {0})) → answers_text (answers z d []) ≡ []
  unfolding answers answers_text
  nothing_said d = refl

  nothing_done : (d : rule.Desk (Unit {0})) → after z d [] ≡ d
  unfolding after
  nothing_done d = refl

  behind : (at k : ℕ) (o : OrderType) → item (drop at t) ≡ order o k → read_from at (drop at t) ≡ ahead o (read_from (at + k) (drop (at + k) t))
  behind at k o e = read_order at (drop at t) o k e ∙ ap (λ (l : List ℕ). ahead o (read_from (at + k) l)) (drop-drop k at t)

  step_text : {at : ℕ} {x : Keeping} {said : List ℕ} {s : State} {next : ℕ} {x' : Keeping} → Stepped z t 0 at x said s next x'
      → to_come Going at x ≡ said ++ to_come s next x'
  step_text {at} {x} (ended e) = ap (text_of z (desk_of x)) (read_nothing at (drop at t) e) ∙ ap (λ (l : List ℕ). l ++ []) (nothing_said (desk_of x))
  step_text {at} {x} (stopped {n} e) =
      ap (text_of z (desk_of x)) (read_refused at (drop at t) n e)
      ∙ ap (λ (l : List ℕ). l ++ stopped_line n at) (nothing_said (desk_of x))
      ∙ sym (append-nil (stopped_line n at))
      ∙ ap (λ (i : ℕ). stopped_line n i ++ []) (sym (zero-add at))
  step_text {at} {x} {said} {x' = x'} (went o {k} e f) =
      let r = read_from (at + k) (drop (at + k) t) in
      ap (text_of z (desk_of x)) (behind at k o e)
      ∙ text_ahead (desk_of x) o (read_from (at + k) (drop (at + k) t))
      ∙ ap (λ (l : List ℕ). l ++ text_of z (result z (desk_of x) o).desk (read_from (at + k) (drop (at + k) t))) (sym f.text)
      ∙ ap (λ (d : rule.Desk (Unit {0})). said ++ text_of z d (read_from (at + k) (drop (at + k) t))) (sym f.desk)

  step_desk : {at : ℕ} {x : Keeping} {said : List ℕ} {s : State} {next : ℕ} {x' : Keeping} → Stepped z t 0 at x said s next x'
      → in_the_end Going at x ≡ in_the_end s next x'
  step_desk {at} {x} (ended e) = ap (λ (r : Reading). after z (desk_of x) r.orders) (read_nothing at (drop at t) e) ∙ nothing_done (desk_of x)
  step_desk {at} {x} (stopped {n} e) = ap (λ (r : Reading). after z (desk_of x) r.orders) (read_refused at (drop at t) n e) ∙ nothing_done (desk_of x)
  step_desk {at} {x} {x' = x'} (went o {k} e f) =
      ap (λ (r : Reading). after z (desk_of x) r.orders) (behind at k o e)
      ∙ desk_ahead (desk_of x) o (read_from (at + k) (drop (at + k) t))
      ∙ ap (λ (d : rule.Desk (Unit {0})). after z d (read_from (at + k) (drop (at + k) t)).orders) (sym f.desk)

  run_text : {at : ℕ} {x : Keeping} {text : List ℕ} {s : State} {next : ℕ} {x' : Keeping} → Served z t 0 true at x text s next x'
      → to_come Going at x ≡ text ++ to_come s next x'
  run_text none = refl
  run_text {next = next} {x'} (more {text = text} {said = said} {s = s} p h q) =
      run_text p ∙ ap (λ (l : List ℕ). text ++ l) (step_text q) ∙ sym (append_assoc text said (to_come s next x'))

  run_desk : {at : ℕ} {x : Keeping} {text : List ℕ} {s : State} {next : ℕ} {x' : Keeping} → Served z t 0 true at x text s next x'
      → in_the_end Going at x ≡ in_the_end s next x'
  run_desk none = refl
  run_desk (more p h q) = run_desk p ∙ step_desk q

  closed : {x : Keeping} {text : List ℕ} (s : State) {next : ℕ} {x' : Keeping} → (s ≡ Going → ⊥) → Served z t 0 true 0 x text s next x' → Tells z t x text x'
  closed Going h p = absurd (h refl)
  closed {text = text} Stopped h p = record { text = sym (run_text p ∙ append-nil text); desk = sym (run_desk p) }
  closed {text = text} Ended h p = record { text = sym (run_text p ∙ append-nil text); desk = sym (run_desk p) }

  -- parts of a tape, to its end or to a bad field
  pub reeled_tells : {x : Keeping} {text : List ℕ} {s : State} {next : ℕ} {x' : Keeping} → (s ≡ Going → ⊥) → Reeled z t x text s next x' → Tells z t x text x'
  reeled_tells {s = s} h p = closed s h (parts_along p)

-- from a fresh desk of the base's size: the text and the desk of the tape, by the definition
pub tape_told : (t : List ℕ) {x : Keeping} {text : List ℕ} {s : State} {next : ℕ} {x' : Keeping} → desk_of x ≡ rule.fresh → (s ≡ Going → ⊥)
    → Reeled rule.hall t x text s next x' → (text ≡ tape_text t) × (desk_of x' ≡ tape_desk t)
tape_told t e h p =
    let r = reeled_tells rule.hall t h p in (
      r.text ∙ ap (λ (d : rule.Desk (Unit {0})). text_of rule.hall d (read_tape t)) e,
      r.desk ∙ ap (λ (d : rule.Desk (Unit {0})). after rule.hall d (read_tape t).orders) e,
    )
