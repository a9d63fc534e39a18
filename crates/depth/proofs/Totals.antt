-- The totals of a side's levels, row by row: whether one is too large, and how they are written to a lent buffer. Assumes nothing.
use Prim.Native.Nat.{ℕ, ◌+◌, ◌-◌, ◌*◌, ◌<◌, ◌≤◌}
use mathlib.Core.Bool.{Bool, false, not, true, ◌||◌}
use mathlib.Core.List.{List, [], append-nil, reverse, reverse-cons, ◌++◌, ◌∷◌}
use mathlib.Core.Path.{ap, refl, sym, ◌∙◌, ◌≡◌}
use native.Mathlib.Decide.{dec_le}
use native.Mathlib.Nat.{zero-add}
use native.Mathlib.Omega.{arith}
use lib.Dec.{ltb}
use lib.ListN.{drop, length, length-drop, take}
use lib.Seq.{drop-length, take_all}
use borrow.Rule.Slice.PartMut.{mid_of, Post-is, post_of, put_mid}
use borrow.Author.Tests.{le-ltb, lt-ltb, ltb-false}
use Rattle.std.specs.Prelude.{Option, Some, is_some}
use Rattle.std.proofs.Math.Bool.{or-false, or_assoc, or_comm}
use Rattle.std.proofs.lemmas.Bool.{or_parts}
use Rattle.side.specs.Orders.{orders_in}
use Rattle.rules.specs.Rules.{Level, Side, any_above, ask, bid, levels, most}
use Rattle.rows.specs.Rows.{level_row, written}
use Rattle.sums.specs.Sums.{capped}
use Rattle.sums.proofs.Capped.{capped_large, capped_small}
use Rattle.rows.proofs.Places.{level_faithful, written_append, written_length, written_none, written_part, written_step}
use Rattle.arena.specs.Links.{head_of, price_of}
use Rattle.depth.specs.Sides.{Fitting, Standing, ascending, quantities, queue_in}
use Rattle.depth.proofs.Levels.{levels_ascending, levels_count, levels_in_lem, totals_none, totals_step, totals_from, totals_in}

-- ## a total that is too large
above_append : (n : ℕ) (a b : List Level) → any_above n (a ++ b) ≡ any_above n a || any_above n b
unfolding any_above
above_append n [] b = refl
above_append n (v ∷ a) b = ap (λ (t : Bool). ltb n v.total || t) (above_append n a b) ∙ sym (or_assoc (ltb n v.total) (any_above n a) (any_above n b))

above_reverse : (n : ℕ) (l : List Level) → any_above n (reverse l) ≡ any_above n l
unfolding any_above
above_reverse n [] = refl
above_reverse n (v ∷ l) = ap (any_above n) (reverse-cons v l) ∙ (above_append n (reverse l) (v ∷ []) ∙ rw (above_reverse n l, or-false) (or_comm (any_above n l) (ltb n v.total)))

above_ascending : (sd : Side) (n : ℕ) (l : List Level) → any_above n (ascending sd l) ≡ any_above n l
above_ascending bid n l = above_reverse n l
above_ascending ask n l = refl

-- by the rules, and by the rows
pub above_in : {rs lv : List ℕ} {n : ℕ} → Standing rs lv n → (sd : Side) (fnd : ℕ → Bool) → any_above most (levels (orders_in sd rs fnd lv n)) ≡ any_above most (totals_in rs lv n)
above_in {rs} {lv} {n} s sd fnd = ap (any_above most) (levels_in_lem s sd fnd) ∙ above_ascending sd most (totals_in rs lv n)

capped_some : (q : ℕ) → not (is_some (capped q)) ≡ ltb most q
capped_some q = go (dec_le q most)
  where
    go : Dec (q ≤ most) → not (is_some (capped q)) ≡ ltb most q
    go (yes p) = rw (capped_small q p, le-ltb most q p)
    go (no p) = let h : most < q = omega arith in rw (capped_large q h, lt-ltb most q h)

-- ## whether all fit: the walk stands at row i
pub record Fit (rs lv : List ℕ) (n i : ℕ) : Type 0 where
  pub same : any_above most (totals_from rs lv i (n - i)) ≡ any_above most (totals_in rs lv n)

module _ {rs lv : List ℕ} {n i : ℕ} (f : Fit rs lv n i) {t : Option ℕ} (h : i < n) (e : t ≡ capped (quantities rs (queue_in rs (head_of lv i)))) where
  here : any_above most (totals_from rs lv i (n - i)) ≡ not (is_some t) || any_above most (totals_from rs lv (i + 1) (n - (i + 1)))
  unfolding any_above
  here = ap (any_above most) (totals_step rs lv i n h) ∙ rw (e, capped_some (quantities rs (queue_in rs (head_of lv i))))

  pub fit_over : is_some t ≡ false → Standing rs lv n → (sd : Side) (fnd : ℕ → Bool) → false ≡ not (any_above most (levels (orders_in sd rs fnd lv n)))
  fit_over o s sd fnd = rw (above_in s sd fnd, ← f.same, here, o)

  pub fit_again : is_some t ≡ true → Fit rs lv n (i + 1)
  fit_again o = record { same = sym here' ∙ f.same }
    where
      here' : any_above most (totals_from rs lv i (n - i)) ≡ any_above most (totals_from rs lv (i + 1) (n - (i + 1)))
      here' = rw (here, o)

pub fit_end : {rs lv : List ℕ} {n i : ℕ} → Fit rs lv n i → n ≤ i → Standing rs lv n → (sd : Side) (fnd : ℕ → Bool) → true ≡ not (any_above most (levels (orders_in sd rs fnd lv n)))
unfolding any_above
fit_end {rs} {lv} {n} {i} f h s sd fnd = rw (above_in s sd fnd, ← f.same, totals_none rs lv i n h)

-- ## writing them: row i is the next, and those from there on are still to be written
pub record Put (rs lv : List ℕ) (n : ℕ) (out₀ out : List ℕ) (i : ℕ) : Type 0 where
  pub long : length out ≡ length out₀
  pub fits : any_above most (totals_from rs lv i (n - i)) ≡ false
  pub same : written level_row out i (totals_from rs lv i (n - i)) ≡ written level_row out₀ 0 (totals_in rs lv n)

pub put_start : {rs lv : List ℕ} {n : ℕ} (out : List ℕ) → Standing rs lv n → Fitting rs lv n → Put rs lv n out out 0
put_start {rs} {lv} {n} out s f =
    let e : n - 0 ≡ n = omega arith in
    record { long = refl; fits = rw e (sym (above_in s f.on f.fnd) ∙ f.fits); same = rw e }

module _ {rs lv : List ℕ} {n : ℕ} {out₀ out : List ℕ} {i : ℕ} (p : Put rs lv n out₀ out i) where
  module _ {t : Option ℕ} (h : i < n) (room : n * 2 ≤ length out₀) (e : t ≡ capped (quantities rs (queue_in rs (head_of lv i)))) where
    abbrev q : ℕ
    q = quantities rs (queue_in rs (head_of lv i))

    split : (ltb most q ≡ false) × (any_above most (totals_from rs lv (i + 1) (n - (i + 1))) ≡ false)
    unfolding any_above
    split = or_parts (ltb most q) (any_above most (totals_from rs lv (i + 1) (n - (i + 1)))) (sym (ap (any_above most) (totals_step rs lv i n h)) ∙ p.fits)

    -- the total of row i has a value
    pub put_some : t ≡ Some q
    put_some = e ∙ capped_small q (ltb-false most q split.0)

    pub put_again : {then : List ℕ} {total : ℕ} → t ≡ Some total → then ≡ written level_row out i (record { price = price_of lv i; total = total } ∷ []) → Put rs lv n out₀ then (i + 1)
    put_again {then} {total} s g = let k = put_some in let v : total ≡ q = cc in rw (g, v) (record {
      long = written_length level_row level_faithful.long out i (record { price = price_of lv i; total = q } ∷ []) (omega (arith, p.long)) ∙ p.long;
      fits = split.1;
      same = sym (written_step level_row level_faithful.long out i (record { price = price_of lv i; total = q }) (totals_from rs lv (i + 1) (n - (i + 1))) (omega (arith, p.long)))
          ∙ (ap (written level_row out i) (sym (totals_step rs lv i n h)) ∙ p.same);
    })

  pub put_end : n ≤ i → Standing rs lv n → (sd : Side) (fnd : ℕ → Bool) → out ≡ written level_row out₀ 0 (ascending sd (levels (orders_in sd rs fnd lv n)))
  put_end h s sd fnd = rw (levels_ascending s sd fnd, ← p.same, totals_none rs lv i n h) (sym (written_none level_row level_faithful.long out i))

-- ## two lists of levels, the second written to the part past the first
put_both : (out mid part : List ℕ) (a : ℕ) (xs ys : List Level) → a ≡ length xs → a * 2 ≤ length out → mid ≡ written level_row out 0 xs
    → part ≡ written level_row (mid_of (a * 2) (length mid - a * 2) mid) 0 ys → put_mid (a * 2) (length mid - a * 2) mid part ≡ written level_row out 0 (xs ++ ys)
put_both out mid part a xs ys e h f g =
    let n : length mid ≡ length out = ap length f ∙ written_length level_row level_faithful.long out 0 xs (omega arith) in
    let m : mid_of (a * 2) (length mid - a * 2) mid ≡ drop (a * 2) mid = take_all (length mid - a * 2) (drop (a * 2) mid) (omega (arith, length-drop (a * 2) mid)) in
    let p : post_of (a * 2) (length mid - a * 2) mid ≡ [] = Post-is (a * 2) (length mid) mid (omega arith) ∙ drop-length mid in
    let s : part ++ post_of (a * 2) (length mid - a * 2) mid ≡ written level_row (drop (a * 2) mid) 0 ys = rw (p, append-nil part, g, m) in
    ap (λ (l : List ℕ). take (a * 2) mid ++ l) s
    ∙ (written_part level_row level_faithful.long mid a ys
    ∙ (rw (f, e, ← zero-add (length xs)) (sym (written_append level_row level_faithful.long out 0 xs ys (omega arith)))))

-- the asks, and past them the bids
pub put_sides : (out : List ℕ) {mid part : List ℕ} {rs bd ak : List ℕ} {nb na : ℕ} → Standing rs bd nb → Standing rs ak na → (fnd : ℕ → Bool) → na * 2 ≤ length out
    → mid ≡ written level_row out 0 (levels (orders_in ask rs fnd ak na)) → part ≡ written level_row (mid_of (na * 2) (length mid - na * 2) mid) 0 (reverse (levels (orders_in bid rs fnd bd nb)))
    → put_mid (na * 2) (length mid - na * 2) mid part ≡ written level_row out 0 (levels (orders_in ask rs fnd ak na) ++ reverse (levels (orders_in bid rs fnd bd nb)))
put_sides out {mid} {part} {rs} {bd} {ak} {nb} {na} s t fnd h f g =
    put_both out mid part na (levels (orders_in ask rs fnd ak na)) (reverse (levels (orders_in bid rs fnd bd nb))) (sym (levels_count t ask fnd)) h f g
