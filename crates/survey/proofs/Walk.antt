-- The walk of `survey`, in its two loops: where it stands, and that each turn leads on to what the rules say of the whole. Assumes nothing.
use Prim.Native.Nat.{ℕ, ◌+◌, ◌-◌, ◌<◌, ◌≤◌}
use mathlib.Core.Bool.{Bool, false, true}
use mathlib.Core.List.{List, [], ◌++◌, ◌∷◌}
use mathlib.Core.Path.{ap, subst, sym, ◌∙◌, ◌≡◌}
use native.Mathlib.Omega.{arith}
use lib.Dec.{leb}
use Rattle.rules.specs.Rules.{matching, outcome}
use Rattle.rules.specs.Whole.{one}
use Rattle.rules.proofs.Basics.{within_worse}
use Rattle.rules.proofs.Match.{idle_beyond, idle_done}
use Rattle.records.specs.Rows.{RecordAt, field}
use Rattle.models.specs.Readings.{side_of}
use Rattle.arena.specs.Links.{head_of, link, price_of, tail_of}
use Rattle.arena.specs.Times.{times}
use Rattle.arena.proofs.Once.{Ending}
use Rattle.arena.proofs.Times.{one_self}
use Rattle.side.specs.Levels.{nth, ups}
use Rattle.side.specs.Orders.{codes, orders, orders_in}
use Rattle.side.specs.Read.{levels_in}
use Rattle.side.proofs.Levels.{nth_times}
use Rattle.side.proofs.Orders.{codes_times}
use Rattle.survey.specs.declared.Outlook.{Outlook}
use Rattle.survey.specs.declared.Taker.{Taker}
use Rattle.survey.specs.Makers.{CanMatch}
use Rattle.side.specs.Prices.{row_in_turn}
use Rattle.survey.specs.Surveyed.{met, surveyed}
use Rattle.survey.specs.Taker.{kind_of, meets, met_side, taker_of}
use Rattle.survey.proofs.Coming.{First, coming, coming_all, coming_none, coming_step, coming_worse, ending_first, ending_none, orders_all, run_ending}
use Rattle.survey.proofs.Tallied.{at, next_fill, surveyed_is, tallied}

one_le : (b : Bool) → one b ≤ 1
one_le true = omega arith
one_le false = omega arith

-- the codes to come when k prices are left
abbrev pub ahead : List ℕ → List ℕ → ℕ → Taker → ℕ → List ℕ
ahead rs lv n u k = codes (met_side u) (coming (met_side u) n (levels_in rs lv n) k)

module _ (rs lv : List ℕ) (n : ℕ) (u : Taker) where
  -- the walk stands at s, with the makers at the codes cs to come
  pub record Along (s : Outlook) (cs : List ℕ) : Type 0 where
    pub count : s.fills + s.left.0 ≤ u.qty.0
    pub fewer : s.used ≤ s.fills
    pub from : (x : ℕ) → 1 ≤ times x cs → 1 ≤ times x (ups (levels_in rs lv n))
    pub same : (room : ℕ) (fnd : ℕ → Bool)
        → surveyed (outcome (taker_of room u) (orders_in (met_side u) rs fnd lv n)) ≡ tallied s (matching (taker_of room u) s.left.0 (orders rs fnd cs)).fills

  -- and of these first a queue, from the code c on
  pub record Inside (s : Outlook) (k c : ℕ) : Type 0 where
    pub queue : List ℕ
    pub ends : Ending (field rs 3) c queue
    pub near : (x : ℕ) → 1 ≤ times x queue → meets u (field rs 2 x) ≡ true
    pub along : Along s (queue ++ ahead rs lv n u k)

  -- what the walk comes to
  abbrev pub Comes : Outlook → Type 0
  Comes s = (room : ℕ) (fnd : ℕ → Bool) → s ≡ surveyed (outcome (taker_of room u) (orders_in (met_side u) rs fnd lv n))

  along_to : {s : Outlook} {cs ds : List ℕ} → cs ≡ ds → Along s cs → Along s ds
  along_to {s} e a = subst (Along s) e a

  -- nobody is to come
  along_none : {s : Outlook} {cs : List ℕ} → cs ≡ [] → Along s cs → Comes s
  unfolding tallied matching
  along_none {s} e a room fnd =
      sym (a.same room fnd ∙ ap (λ (l : List ℕ). tallied s (matching (taker_of room u) s.left.0 (orders rs fnd l)).fills) e)

  module _ (m : CanMatch rs lv n) where
    -- nothing is left
    pub along_done : {s : Outlook} {cs : List ℕ} → s.left.0 ≡ 0 → Along s cs → Comes s
    unfolding tallied
    along_done {s} {cs} e a room fnd =
        let t = taker_of room u in
        let i = idle_done t (orders rs fnd cs) (orders_all rs fnd (λ o. 1 ≤ o.quantity) cs (λ x j. m.held x (a.from x j))) in
        sym (a.same room fnd ∙ (ap (λ (w : ℕ). tallied s (matching t w (orders rs fnd cs)).fills) e ∙ ap (λ o. tallied s o.fills) i))

    -- all prices to come are out of reach
    along_beyond : {s : Outlook} {cs : List ℕ} → ((x : ℕ) → 1 ≤ times x cs → meets u (field rs 2 x) ≡ false) → Along s cs → Comes s
    unfolding tallied
    along_beyond {s} {cs} e a room fnd =
        let t = taker_of room u in
        let i = idle_beyond t s.left.0 (orders rs fnd cs) (orders_all rs fnd (λ o. 1 ≤ o.quantity) cs (λ x j. m.held x (a.from x j)))
        (orders_all rs fnd (λ o. meets u o.price ≡ false) cs e) in
        sym (a.same room fnd ∙ ap (λ o. tallied s o.fills) i)

    along_step : {s : Outlook} {c : ℕ} {cs : List ℕ} → 1 ≤ s.left.0 → meets u (field rs 2 c) ≡ true → Along s (c ∷ cs) → Along (met rs c s) cs
    unfolding tallied
    along_step {s} {c} {cs} h e a =
        let g : 1 ≤ field rs 1 c = m.held c (a.from c (omega (arith, one_self c))) in
        record {
          count = omega (arith, a.count);
          fewer = omega (arith, a.fewer, one_le (leb (field rs 1 c) s.left.0));
          from = λ x i. a.from x (omega arith);
          same = λ room fnd. a.same room fnd ∙ ap (tallied s) (next_fill (taker_of room u) s.left.0 _ (orders rs fnd cs) e h g);
        }

    -- ## The loop over prices

    pub along_start : Along (at u.qty.0 0 0 0) (ahead rs lv n u n)
    unfolding outcome
    along_start = along_to (sym (coming_all (met_side u) n (levels_in rs lv n) m.laid.ladder.count)) (record {
      count = omega arith;
      fewer = omega arith;
      from = λ x i. omega (arith, codes_times (met_side u) x (levels_in rs lv n));
      same = λ room fnd. surveyed_is (taker_of room u) u.qty.0 (orders_in (met_side u) rs fnd lv n);
    })

    price_is : (i : ℕ) → i < n → price_of lv i ≡ (nth (levels_in rs lv n) i).price
    price_is i b = (m.laid.ladder.level i b).price

    module _ {s : Outlook} {k : ℕ} (g : k ≤ n) where
      pub prices_none : k ≤ 0 → Along s (ahead rs lv n u k) → Comes s
      prices_none h a = along_none (coming_none (met_side u) n (levels_in rs lv n) k m.laid.ladder.count h) a

      module _ (h : 1 ≤ k) {i : ℕ} (e : i ≡ row_in_turn (met_side u) n k) (b : i < n) where
        pub prices_beyond : meets u (price_of lv i) ≡ false → Along s (ahead rs lv n u k) → Comes s
        prices_beyond f a = along_beyond (λ x j.
            within_worse (side_of u.side) (kind_of u.limit) (nth (levels_in rs lv n) i).price (field rs 2 x)
            (rw e (coming_worse (met_side u) m.laid.ladder k x h g j)) (rw (price_is i b) at f)) a

        pub queue_start : meets u (price_of lv i) ≡ true → Along s (ahead rs lv n u k) → Inside s (k - 1) (head_of lv i)
        queue_start f a =
            let v = m.laid.ladder.level i b in
            record {
              queue = (nth (levels_in rs lv n) i).queue;
              ends = run_ending rs (head_of lv i) (link rs 4 (tail_of lv i)) 0 (nth (levels_in rs lv n) i).queue v.ring
                  (omega (arith, m.laid.once 0, one_self 0, nth_times 0 (levels_in rs lv n) i (omega (arith, m.laid.ladder.count))));
              near = λ x j. rw (v.priced x j) (rw (price_is i b) at f);
              along = along_to (coming_step (met_side u) n (levels_in rs lv n) k m.laid.ladder.count h g
                  ∙ ap (λ (j : ℕ). (nth (levels_in rs lv n) j).queue ++ ahead rs lv n u (k - 1)) (sym e)) a;
            }

    -- ## The loop over a queue

    module _ {s : Outlook} {k c : ℕ} where
      pub queue_done : c ≡ 0 → Inside s k c → Along s (ahead rs lv n u k)
      queue_done e i = along_to (ap (λ (l : List ℕ). l ++ ahead rs lv n u k) (ending_none (field rs 3) c i.queue e i.ends)) i.along

      pub queue_full : s.left.0 ≡ 0 → Inside s k c → Comes s
      queue_full e i = along_done e i.along

      module _ (p : 1 ≤ c) (i : Inside s k c) where
        first : First (field rs 3) c i.queue
        first = ending_first (field rs 3) c i.queue p i.ends

        met_first : Along s (c ∷ (first.rest ++ ahead rs lv n u k))
        met_first = along_to (ap (λ (l : List ℕ). l ++ ahead rs lv n u k) first.is) i.along

        inside : 1 ≤ times c (ups (levels_in rs lv n))
        inside = met_first.from c (omega (arith, one_self c))

        pub queue_row : RecordAt rs c
        queue_row = m.laid.rows c inside

        pub queue_less : 1 ≤ s.left.0 → (met rs c s).left.0 < s.left.0
        queue_less h = omega (arith, m.held c inside)

        pub queue_next : 1 ≤ s.left.0 → Inside (met rs c s) k (field rs 3 c)
        queue_next h =
            let f = first in
            record {
              queue = f.rest;
              ends = f.ends;
              near = λ x j. i.near x (omega (arith, ap (times x) f.is));
              along = along_step h (i.near c (omega (arith, ap (times c) f.is, one_self c))) met_first;
            }
