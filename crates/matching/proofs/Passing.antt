-- The walk of `carry_out`, in its two loops: where it stands, and that each turn leads on to what the rules say of the whole.
-- A loop's place is said from the place where that loop began, since a lent slice is known only from there on; the two are put together at the end of the inner loop.
-- Assumes nothing.
use Prim.Native.Nat.{suc, ℕ, ◌+◌, ◌-◌, ◌<◌, ◌≤◌}
use mathlib.Core.Bool.{Bool, false, true}
use mathlib.Core.List.{List, [], ◌++◌, ◌∷◌}
use mathlib.Core.Path.{ap, refl, subst, sym, ◌∙◌, ◌≡◌}
use native.Mathlib.Omega.{arith}
use lib.ListN.{length}
use Rattle.rules.specs.Rules.{matching, outcome}
use Rattle.rules.specs.Whole.{Positive}
use Rattle.rules.proofs.Basics.{within_worse}
use Rattle.rules.proofs.Match.{idle_beyond, idle_done}
use Rattle.records.specs.Rows.{RecordAt, field}
use Rattle.models.specs.Readings.{side_of}
use Rattle.rows.specs.Rows.{Place, fill_row, places, written}
use Rattle.rows.proofs.Places.{fill_faithful, written_none, written_step}
use Rattle.arena.specs.Links.{head_of, link, price_of, tail_of}
use Rattle.arena.specs.Times.{times}
use Rattle.arena.proofs.Once.{Ending}
use Rattle.arena.proofs.Times.{one_self}
use Rattle.side.specs.Levels.{nth, ups}
use Rattle.side.specs.Orders.{codes, order_at, orders}
use Rattle.side.specs.Read.{levels_in}
use Rattle.side.proofs.Levels.{nth_times}
use Rattle.side.proofs.Orders.{codes_times}
use Rattle.survey.specs.declared.Taker.{Taker}
use Rattle.side.specs.Prices.{row_in_turn}
use Rattle.survey.specs.Makers.{Laid}
use Rattle.survey.specs.Taker.{kind_of, meets, met_side, taker_of}
use Rattle.survey.proofs.Coming.{First, coming, coming_all, coming_none, coming_step, coming_worse, ending_first, ending_none, orders_all, run_ending}
use Rattle.survey.proofs.Tallied.{next_fill}
use Rattle.survey.proofs.Walk.{ahead}
use Rattle.matching.specs.declared.Progress.{Progress}
use Rattle.matching.specs.Carried.{CanCarry, Gives, gone}
use Rattle.matching.proofs.Giving.{fills_from, gives_apart, gives_fills, gives_lowered, gives_only, gives_other, gives_wide, last_from, nothing}
use Rattle.matching.proofs.Lowered.{lowered, lowered_beyond, lowered_done}
use Rattle.matching.proofs.Quantities.{Only, only_ending, only_laid, only_levels, only_same, only_then}

module _ (lv : List ℕ) (n : ℕ) (u : Taker) where
  -- the makers at the codes cs can still be met, and the fills have places
  pub record Ready (rs out : List ℕ) (p : Progress) (cs : List ℕ) : Type 0 where
    pub laid : Laid rs lv n (levels_in rs lv n)
    pub from : (x : ℕ) → times x cs ≤ times x (ups (levels_in rs lv n))
    pub held : (x : ℕ) → 1 ≤ times x cs → 1 ≤ field rs 1 x
    pub room : (room : ℕ) (fnd : ℕ → Bool) → p.fills + length (fills_from u rs p.left.0 cs room fnd) ≤ places fill_row out

  -- the walk that began at rs₀, out₀ and p₀ with the makers cs₀ to come has come to rs, out and p with cs to come
  pub record Toward (rs₀ out₀ : List ℕ) (p₀ : Progress) (cs₀ rs out : List ℕ) (p : Progress) (cs : List ℕ) : Type 0 where
    pub only : Only rs₀ rs
    pub wide : length out ≡ length out₀
    pub rows : lowered u rs₀ p₀.left.0 cs₀ ≡ lowered u rs p.left.0 cs
    pub fills : (room : ℕ) (fnd : ℕ → Bool)
        → written fill_row out₀ p₀.fills (fills_from u rs₀ p₀.left.0 cs₀ room fnd) ≡ written fill_row out p.fills (fills_from u rs p.left.0 cs room fnd)
    pub last : (room : ℕ) (fnd : ℕ → Bool)
        → last_from p₀.last (fills_from u rs₀ p₀.left.0 cs₀ room fnd) ≡ last_from p.last (fills_from u rs p.left.0 cs room fnd)

  toward_start : (rs out : List ℕ) (p : Progress) (cs : List ℕ) → Toward rs out p cs rs out p cs
  toward_start rs out p cs = record { only = only_same rs; wide = refl; rows = refl; fills = λ room fnd. refl; last = λ room fnd. refl }

  toward_then : {rs₀ out₀ cs₀ rs₁ out₁ cs₁ rs out cs : List ℕ} {p₀ p₁ p : Progress}
      → Toward rs₀ out₀ p₀ cs₀ rs₁ out₁ p₁ cs₁ → Toward rs₁ out₁ p₁ cs₁ rs out p cs → Toward rs₀ out₀ p₀ cs₀ rs out p cs
  toward_then a b = record {
    only = only_then a.only b.only;
    wide = b.wide ∙ a.wide;
    rows = a.rows ∙ b.rows;
    fills = λ room fnd. a.fills room fnd ∙ b.fills room fnd;
    last = λ room fnd. a.last room fnd ∙ b.last room fnd;
  }

  toward_to : {rs₀ out₀ cs₀ rs out cs ds : List ℕ} {p₀ p : Progress} → cs ≡ ds → Toward rs₀ out₀ p₀ cs₀ rs out p cs → Toward rs₀ out₀ p₀ cs₀ rs out p ds
  toward_to {rs₀} {out₀} {cs₀} {rs} {out} {cs} {ds} {p₀} {p} e a = subst (Toward rs₀ out₀ p₀ cs₀ rs out p) e a

  ready_to : {rs out cs ds : List ℕ} {p : Progress} → cs ≡ ds → Ready rs out p cs → Ready rs out p ds
  ready_to {rs} {out} {cs} {ds} {p} e a = subst (Ready rs out p) e a

  -- ## One maker

  module _ {rs out cs : List ℕ} {p : Progress} {c : ℕ} (a : Ready rs out p (c ∷ cs)) where
    once : (x : ℕ) → times x (c ∷ cs) ≤ 1
    once x = omega (arith, a.from x, a.laid.once x)

    row : (x : ℕ) → 1 ≤ times x (c ∷ cs) → RecordAt rs x
    row x i = a.laid.rows x (omega (arith, a.from x))

    some : 1 ≤ field rs 1 c
    some = a.held c (omega (arith, one_self c))

    module _ {rs' out' : List ℕ} {p' : Progress} (h : 1 ≤ p.left.0) (e : meets u (field rs 2 c) ≡ true) (g : Gives u c p rs out rs' out' p') where
      filled : (room : ℕ) (fnd : ℕ → Bool) → p.fills + suc (length (fills_from u rs' p'.left.0 cs room fnd)) ≤ places fill_row out
      filled room fnd = omega (arith, a.room room fnd, ap length (gives_fills g cs e once row h some room fnd))

      place : Place fill_row out p.fills
      place = omega (arith, filled 0 (λ x. false))

      counted : p'.fills ≡ p.fills + 1
      counted = ap (λ (z : Progress). z.fills) g.progress

      step_ready : Ready rs' out' p' cs
      step_ready = record {
        laid = only_laid (gives_only g) a.laid;
        from = λ x. rw (only_levels (gives_only g) lv n) (omega (arith, a.from x));
        held = λ x i. rw (gives_other g x (row c (omega (arith, one_self c))) (row x (omega arith)).some (gives_apart g cs e once row x i) 1 (omega arith)) (a.held x (omega arith));
        room = λ room fnd. omega (arith, filled room fnd, counted, gives_wide g place);
      }

      step_toward : Toward rs out p (c ∷ cs) rs' out' p' cs
      unfolding last_from
      step_toward = record {
        only = gives_only g;
        wide = gives_wide g place;
        rows = gives_lowered g cs e once row;
        fills = λ room fnd.
            ap (written fill_row out p.fills) (gives_fills g cs e once row h some room fnd)
            ∙ (written_step fill_row fill_faithful.long out p.fills _ (fills_from u rs' p'.left.0 cs room fnd) (omega (arith, place))
            ∙ rw (g.filled, counted));
        last = λ room fnd.
            ap (last_from p.last) (gives_fills g cs e once row h some room fnd)
            ∙ ap (λ (z : Progress). last_from z.last (fills_from u rs' p'.left.0 cs room fnd)) (sym g.progress);
      }

  -- ## Nothing happens any more

  -- what the walk from rs₀, out₀ and p₀ over cs₀ comes to
  pub record Done (rs₀ out₀ : List ℕ) (p₀ : Progress) (cs₀ rs out : List ℕ) (p : Progress) : Type 0 where
    pub long : length rs ≡ length rs₀
    pub wide : length out ≡ length out₀
    pub rows : rs ≡ lowered u rs₀ p₀.left.0 cs₀
    pub fills : (room : ℕ) (fnd : ℕ → Bool) → out ≡ written fill_row out₀ p₀.fills (fills_from u rs₀ p₀.left.0 cs₀ room fnd)
    pub last : (room : ℕ) (fnd : ℕ → Bool) → p.last ≡ last_from p₀.last (fills_from u rs₀ p₀.left.0 cs₀ room fnd)

  module _ {rs₀ out₀ cs₀ rs out cs : List ℕ} {p₀ p : Progress} (t : Toward rs₀ out₀ p₀ cs₀ rs out p cs) where
    idle : lowered u rs p.left.0 cs ≡ rs → ((room : ℕ) (fnd : ℕ → Bool) → fills_from u rs p.left.0 cs room fnd ≡ []) → Done rs₀ out₀ p₀ cs₀ rs out p
    unfolding last_from
    idle e f = record {
      long = t.only.long;
      wide = t.wide;
      rows = sym (t.rows ∙ e);
      fills = λ room fnd. sym (t.fills room fnd ∙ (ap (written fill_row out p.fills) (f room fnd) ∙ written_none fill_row fill_faithful.long out p.fills));
      last = λ room fnd. sym (t.last room fnd ∙ ap (last_from p.last) (f room fnd));
    }

    idle_none : cs ≡ [] → Done rs₀ out₀ p₀ cs₀ rs out p
    unfolding lowered matching
    idle_none e = idle (ap (lowered u rs p.left.0) e) (λ room fnd. ap (λ (l : List ℕ). fills_from u rs p.left.0 l room fnd) e)

    module _ (a : Ready rs out p cs) where
      positive : (fnd : ℕ → Bool) → Positive (orders rs fnd cs)
      positive fnd = orders_all rs fnd (λ o. 1 ≤ o.quantity) cs a.held

      idle_full : p.left.0 ≡ 0 → Done rs₀ out₀ p₀ cs₀ rs out p
      idle_full e = idle (ap (λ (w : ℕ). lowered u rs w cs) e ∙ lowered_done u rs cs)
          (λ room fnd. ap (λ (w : ℕ). fills_from u rs w cs room fnd) e ∙ ap (λ o. o.fills) (idle_done (taker_of room u) (orders rs fnd cs) (positive fnd)))

      idle_past : ((x : ℕ) → 1 ≤ times x cs → meets u (field rs 2 x) ≡ false) → Done rs₀ out₀ p₀ cs₀ rs out p
      idle_past f = idle (lowered_beyond u rs p.left.0 cs f)
          (λ room fnd. ap (λ o. o.fills) (idle_beyond (taker_of room u) p.left.0 (orders rs fnd cs) (positive fnd) (orders_all rs fnd (λ o. meets u o.price ≡ false) cs f)))

  pub done_as : {rs₀ out₀ cs₀ rs out rs' out' : List ℕ} {p₀ p p' : Progress} → rs' ≡ rs → out' ≡ out → p' ≡ p → Done rs₀ out₀ p₀ cs₀ rs out p → Done rs₀ out₀ p₀ cs₀ rs' out' p'
  done_as e f g d = rw (e, f, g) d

  -- ## The loop over a queue

  -- k prices were left, the one whose turn it is among them; of its queue the codes from c on are to come
  pub record Inside (rs₀ out₀ : List ℕ) (p₀ : Progress) (k : ℕ) (rs out : List ℕ) (p : Progress) (c : ℕ) : Type 0 where
    pub queue : List ℕ
    pub ends : Ending (field rs 3) c queue
    pub near : (x : ℕ) → 1 ≤ times x queue → meets u (field rs 2 x) ≡ true
    pub ready : Ready rs out p (queue ++ ahead rs lv n u (k - 1))
    pub toward : Toward rs₀ out₀ p₀ (ahead rs₀ lv n u k) rs out p (queue ++ ahead rs lv n u (k - 1))

  module _ {rs₀ out₀ rs out : List ℕ} {p₀ p : Progress} {k c : ℕ} (i : Inside rs₀ out₀ p₀ k rs out p c) where
    module _ (s : 1 ≤ c) where
      first : First (field rs 3) c i.queue
      first = ending_first (field rs 3) c i.queue s i.ends

      opened : i.queue ++ ahead rs lv n u (k - 1) ≡ c ∷ (first.rest ++ ahead rs lv n u (k - 1))
      opened = ap (λ (l : List ℕ). l ++ ahead rs lv n u (k - 1)) first.is

      now_ready : Ready rs out p (c ∷ (first.rest ++ ahead rs lv n u (k - 1)))
      now_ready = ready_to opened i.ready

      reached : meets u (field rs 2 c) ≡ true
      reached = i.near c (omega (arith, ap (times c) first.is, one_self c))

      pub queue_row : RecordAt rs c
      queue_row = row now_ready c (omega (arith, one_self c))

      module _ (h : 1 ≤ p.left.0) where
        pub queue_place : Place fill_row out p.fills
        queue_place = omega (arith, now_ready.room 0 (λ x. false), ap length (next_fill (taker_of 0 u) p.left.0 (order_at rs (λ x. false) c) (orders rs (λ x. false) (first.rest ++ ahead rs lv n u (k - 1))) reached h (some now_ready)))

        pub queue_less : {p' : Progress} → p' ≡ gone rs c p → p'.left.0 < p.left.0
        queue_less e = omega (arith, some now_ready, ap (λ (z : Progress). z.left.0) e)

        pub queue_next : {rs' out' : List ℕ} {p' : Progress} {d : ℕ} → Gives u c p rs out rs' out' p' → d ≡ field rs 3 c → Inside rs₀ out₀ p₀ k rs' out' p' d
        queue_next {rs'} {out'} {p'} {d} g e =
            let o = gives_only g in
            let f = first in
            let same : f.rest ++ ahead rs lv n u (k - 1) ≡ f.rest ++ ahead rs' lv n u (k - 1) =
            ap (λ ws. f.rest ++ codes (met_side u) (coming (met_side u) n ws (k - 1))) (sym (only_levels o lv n)) in
            record {
              queue = f.rest;
              ends = rw e (only_ending o (field rs 3 c) f.rest f.ends);
              near = λ x j. rw (o.columns 2 x (omega arith) (omega arith)) (i.near x (omega (arith, ap (times x) f.is)));
              ready = ready_to same (step_ready now_ready h reached g);
              toward = toward_to same (toward_then (toward_to opened i.toward) (step_toward now_ready h reached g));
            }

  -- ## The loop over prices

  pub record Outside (rs₀ out₀ : List ℕ) (p₀ : Progress) (rs out : List ℕ) (p : Progress) (k : ℕ) : Type 0 where
    pub below : k ≤ n
    pub ready : Ready rs out p (ahead rs lv n u k)
    pub toward : Toward rs₀ out₀ p₀ (ahead rs₀ lv n u n) rs out p (ahead rs lv n u k)

  abbrev pub begun : Progress
  begun = record { left = record { 0 = u.qty.0 }; fills = 0; last = nothing }

  pub prices_start : {rs out : List ℕ} → CanCarry u rs lv n out → Outside rs out begun rs out begun n
  unfolding outcome
  prices_start {rs} {out} m =
      let e = coming_all (met_side u) n (levels_in rs lv n) m.able.laid.ladder.count in
      record {
        below = omega arith;
        ready = record {
          laid = m.able.laid;
          from = λ x. omega (arith, ap (times x) e, codes_times (met_side u) x (levels_in rs lv n));
          held = λ x i. m.able.held x (omega (arith, ap (times x) e, codes_times (met_side u) x (levels_in rs lv n)));
          room = λ room fnd. omega (arith, m.room room fnd, ap (λ (l : List ℕ). length (fills_from u rs u.qty.0 l room fnd)) e);
        };
        toward = toward_start rs out begun (ahead rs lv n u n);
      }

  module _ {rs₀ out₀ rs out : List ℕ} {p₀ p : Progress} {k : ℕ} (o : Outside rs₀ out₀ p₀ rs out p k) where
    pub prices_none : k ≤ 0 → Done rs₀ out₀ p₀ (ahead rs₀ lv n u n) rs out p
    prices_none h = idle_none o.toward (coming_none (met_side u) n (levels_in rs lv n) k o.ready.laid.ladder.count h)

    -- the queue is over
    pub prices_next : {rs' out' : List ℕ} {p' : Progress} {c : ℕ} → c ≡ 0 → Inside rs out p k rs' out' p' c → Outside rs₀ out₀ p₀ rs' out' p' (k - 1)
    prices_next {rs'} {c = c} e i =
        let f = ap (λ (l : List ℕ). l ++ ahead rs' lv n u (k - 1)) (ending_none (field rs' 3) c i.queue e i.ends) in
        record { below = omega (arith, o.below); ready = ready_to f i.ready; toward = toward_then o.toward (toward_to f i.toward) }

    -- nothing is left of the order: before a queue, and within one
    pub prices_idle : p.left.0 ≡ 0 → Done rs₀ out₀ p₀ (ahead rs₀ lv n u n) rs out p
    prices_idle e = idle_full o.toward o.ready e

    pub prices_full : {rs' out' : List ℕ} {p' : Progress} {c : ℕ} → p'.left.0 ≡ 0 → Inside rs out p k rs' out' p' c → Done rs₀ out₀ p₀ (ahead rs₀ lv n u n) rs' out' p'
    prices_full e i = idle_full (toward_then o.toward i.toward) i.ready e

    module _ (h : 1 ≤ k) {i : ℕ} (e : i ≡ row_in_turn (met_side u) n k) (b : i < n) where
      price_is : price_of lv i ≡ (nth (levels_in rs lv n) i).price
      price_is = (o.ready.laid.ladder.level i b).price

      pub prices_beyond : meets u (price_of lv i) ≡ false → Done rs₀ out₀ p₀ (ahead rs₀ lv n u n) rs out p
      prices_beyond f = idle_past o.toward o.ready (λ x j.
          within_worse (side_of u.side) (kind_of u.limit) (nth (levels_in rs lv n) i).price (field rs 2 x)
          (rw e (coming_worse (met_side u) o.ready.laid.ladder k x h o.below j)) (rw price_is at f))

      pub queue_start : meets u (price_of lv i) ≡ true → Inside rs out p k rs out p (head_of lv i)
      queue_start f =
          let v = o.ready.laid.ladder.level i b in
          let q = (nth (levels_in rs lv n) i).queue in
          let same : ahead rs lv n u k ≡ q ++ ahead rs lv n u (k - 1) =
          coming_step (met_side u) n (levels_in rs lv n) k o.ready.laid.ladder.count h o.below
          ∙ ap (λ (j : ℕ). (nth (levels_in rs lv n) j).queue ++ ahead rs lv n u (k - 1)) (sym e) in
          record {
            queue = q;
            ends = run_ending rs (head_of lv i) (link rs 4 (tail_of lv i)) 0 q v.ring
                (omega (arith, o.ready.laid.once 0, one_self 0, nth_times 0 (levels_in rs lv n) i (omega (arith, o.ready.laid.ladder.count))));
            near = λ x j. rw (v.priced x j) (rw price_is at f);
            ready = ready_to same o.ready;
            toward = toward_to same (toward_start rs out p (ahead rs lv n u k));
          }
