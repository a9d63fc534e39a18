-- Two outcomes of one export agree, and a history of exports is a history of public calls: what it leaves is whole and reads as the rules' end of it. So
-- `reached_whole`, `follows2` and `follows3` (History.antt) say demands 1 to 3 for callers from C and Rust. Assumes nothing.
use Prim.Native.Nat.{ℕ}
use native.Mathlib.Omega.{arith}
use mathlib.Core.Path.{◌≡◌, sym, ap, subst, ◌∙◌}
use mathlib.Core.Bool.{not}
use mathlib.Core.List.{List}
use mathlib.Core.Option as maybe
use Rattle.std.specs.Prelude.{Result, Ok, Err}
use lib.Dec.{eqb}
use lib.ListN.{length, length-set}
use Rattle.rules.specs.Rules as rule
use Rattle.models.specs.declared.OrderEvent.{OrderEvent}
use Rattle.models.specs.declared.OrderType.{OrderType}
use Rattle.models.specs.declared.Side.{Side}
use Rattle.stats.specs.declared.Statistics.{Statistics}
use Rattle.stats.specs.Statistics.{last_of, statistics_of}
use Rattle.ledger.specs.declared.OrderBook.{OrderBook}
use Rattle.models.specs.declared.Refusal.{Refusal}
use Rattle.ledger.specs.Stock.{Stock, stock}
use Rattle.desk.specs.Stock.{read_desk}
use Rattle.desk.specs.Performs.{answer_of}
use Rattle.desk.specs.Performs as perf
use Rattle.models.specs.Readings.{Reading, number, value, refusal_number}
use Rattle.calls.specs.Calls.{opening_of, Executes, Makes}
use Rattle.whole.specs.Whole.{WholeStock}
use Rattle.calls.specs.Calls as call
use Rattle.numbers.specs.Numbers.{book_in, statistics_in, yes, numbers_of, event_as_numbers, quote_as_numbers, depth_as_numbers, look_as_numbers}
use Rattle.numbers.specs.Reports.{Told, Reported, Opens}
use Rattle.numbers.specs.Reports as report
use Rattle.ffi.specs.Exports.{Carried, Ordered, Asked, Deepened, Sought, OpenedAs, Checked}
use Rattle.ffi.specs.Exports as ffi
use Rattle.promises.specs.Outcomes.{SameDesk, AgreeFresh, neither, both}
use Rattle.promises.specs.History.{Reached}
use Rattle.promises.specs.History as history
use Rattle.promises.specs.Exports.{desk_at, but_free, HasDouble, SameNumbers, AgreeCarried, Exported, begun, called, switched}
use Rattle.promises.proofs.Outcomes.{one_outcome, tells_once, shows_once, finds_once, makes_once}
use Rattle.promises.proofs.History.{reached_whole, reached_desk}
use Rattle.promises.proofs.Numbers.{numbers_statistics, numbers_long, double_in, double_after, tracks}

-- ## orders and cancels

refused_not_done : {r : Refusal} {v : OrderEvent} → ◌≡◌ {A = Result OrderEvent Refusal} (Err r) (Ok v) → ⊥
refused_not_done e = cc

-- an answer is no refusal and an event both
refused_done : (a : Result OrderEvent Refusal) {r : Refusal} {e : rule.Event} {l : List (rule.Fill (Unit {0}))} → a ≡ Err r → answer_of a l ≡ rule.done e l → ⊥
refused_done (Err r) p q = cc
refused_done (Ok v) p q = refused_not_done (sym p)

module _ {z : rule.Size} {c : rule.Call (Unit {0})} {k k' : Stock} {st st' : Statistics} {out out' : List ℕ} {a : Result OrderEvent Refusal} where
  -- a refusal keeps all
  refused_keeps : {r : Refusal} → Executes z c k st out a k' st' out' → a ≡ Err r → (k' ≡ k) × (st' ≡ st)
  refused_keeps (call.broken w p q r s) e = (q, r)
  refused_keeps (call.performed w (perf.refused n u p q r s)) e = (q, r)
  refused_keeps (call.performed w (perf.carried v l u p d x t)) e = absurd (refused_done a e p)

  -- and every call an average that is a double
  leaves_double : Executes z c k st out a k' st' out' → HasDouble (last_of st.last) → HasDouble (last_of st'.last)
  leaves_double (call.broken w p q r s) h = subst (λ (y : Statistics). HasDouble (last_of y.last)) (sym r) h
  leaves_double (call.performed w (perf.refused n u p q r s)) h = subst (λ (y : Statistics). HasDouble (last_of y.last)) (sym r) h
  leaves_double (call.performed w (perf.carried v l u p d x t)) h =
      subst (λ (y : rule.Desk (Unit {0})). HasDouble y.stats.last) (sym d) (double_after z (read_desk k st) c h)

module _ {c : rule.Call (Unit {0})} {d rs bd ak se out an d' rs' bd' ak' se' out' an' : List ℕ} {n : ℕ} where
  -- the twelve numbers left are the call's small values
  carried_reads : (x : Carried c d rs bd ak se out an n d' rs' bd' ak' se' out' an') → (book_in d' ≡ x.book) × (statistics_in d' ≡ x.statistics)
  carried_reads x = go x.reported
    where
      go : Reported d an x.answer x.book x.statistics n d' an' → (book_in d' ≡ x.book) × (statistics_in d' ≡ x.statistics)
      go (report.refused _ p m q r) =
          let e = refused_keeps x.executes p in
          (ap book_in q ∙ sym (ap (λ (k : Stock). k.book) e.0), ap statistics_in q ∙ sym e.1)
      go (report.done v p m q r) =
          (ap book_in q, ap statistics_in q ∙ numbers_statistics x.book x.statistics (leaves_double x.executes (double_in d)))

  carried_long : length d ≡ 12 → Carried c d rs bd ak se out an n d' rs' bd' ak' se' out' an' → length d' ≡ 12
  carried_long h x = go x.reported
    where
      go : Reported d an x.answer x.book x.statistics n d' an' → length d' ≡ 12
      go (report.refused _ p m q r) = ap length q ∙ h
      go (report.done v p m q r) = ap length q ∙ numbers_long x.book x.statistics

-- but for the first free code, the numbers of two stocks that read alike are the same
numbers_same : {b₁ b₂ : OrderBook} {st₁ st₂ : Statistics} {rs₁ bd₁ ak₁ se₁ rs₂ bd₂ ak₂ se₂ : List ℕ}
    → SameDesk (stock b₁ rs₁ bd₁ ak₁ se₁) (stock b₂ rs₂ bd₂ ak₂ se₂) st₁ st₂ → but_free (numbers_of b₁ st₁) ≡ but_free (numbers_of b₂ st₂)
numbers_same e = λ i. but_free (numbers_of (record { resting = e.resting i; free = 0; bids = e.bids i; asks = e.asks i }) (e.statistics i))

module _ {d an : List ℕ} {a₁ a₂ : Result OrderEvent Refusal} {b₁ b₂ : OrderBook} {st₁ st₂ : Statistics} {rs₁ bd₁ ak₁ se₁ rs₂ bd₂ ak₂ se₂ : List ℕ} {n₁ n₂ : ℕ} {d₁ d₂ an₁ an₂ : List ℕ}
    (e : a₁ ≡ a₂) (s : SameDesk (stock b₁ rs₁ bd₁ ak₁ se₁) (stock b₂ rs₂ bd₂ ak₂ se₂) st₁ st₂) where
  reported_once : Reported d an a₁ b₁ st₁ n₁ d₁ an₁ → Reported d an a₂ b₂ st₂ n₂ d₂ an₂ → (n₁ ≡ n₂) × (an₁ ≡ an₂) × (but_free d₁ ≡ but_free d₂)
  reported_once (report.refused f p m q r) (report.refused f' p' m' q' r') =
      let w : f ≡ f' = cc in
      (m ∙ (ap refusal_number w ∙ sym m'), r ∙ sym r', ap but_free (q ∙ sym q'))
  reported_once (report.refused f p m q r) (report.done v p' m' q' r') = absurd (refused_not_done (sym p ∙ (e ∙ p')))
  reported_once (report.done v p m q r) (report.refused f p' m' q' r') = absurd (refused_not_done (sym p' ∙ (sym e ∙ p)))
  reported_once (report.done v p m q r) (report.done v' p' m' q' r') =
      let w : v ≡ v' = cc in
      (m ∙ sym m', r ∙ (ap event_as_numbers w ∙ sym r'), ap but_free q ∙ (numbers_same s ∙ sym (ap but_free q')))

module _ {c : rule.Call (Unit {0})} {d rs bd ak se out an d₁ rs₁ bd₁ ak₁ se₁ out₁ an₁ d₂ rs₂ bd₂ ak₂ se₂ out₂ an₂ : List ℕ} {n₁ n₂ : ℕ} where
  pub carried_once : Carried c d rs bd ak se out an n₁ d₁ rs₁ bd₁ ak₁ se₁ out₁ an₁ → Carried c d rs bd ak se out an n₂ d₂ rs₂ bd₂ ak₂ se₂ out₂ an₂
      → AgreeCarried n₁ d₁ rs₁ bd₁ ak₁ se₁ out₁ an₁ n₂ d₂ rs₂ bd₂ ak₂ se₂ out₂ an₂
  carried_once x y =
      let g = one_outcome x.executes y.executes in
      let r = reported_once g.answer g.left x.reported y.reported in
      let p = carried_reads x in
      let q = carried_reads y in
      record {
        result = r.0;
        answer = r.1;
        left = record {
          desk = (λ i. read_desk (stock (p.0 i) rs₁ bd₁ ak₁ se₁) (p.1 i)) ∙ (g.left.desk ∙ sym (λ i. read_desk (stock (q.0 i) rs₂ bd₂ ak₂ se₂) (q.1 i)));
          numbers = r.2;
        };
        buffer = g.buffer;
      }

-- felavuti_market, felavuti_limit
pub ordered_once : (o : Side → OrderType) {side : ℕ} {d rs bd ak se out an d₁ rs₁ bd₁ ak₁ se₁ out₁ an₁ d₂ rs₂ bd₂ ak₂ se₂ out₂ an₂ : List ℕ} {n₁ n₂ : ℕ}
    → Ordered o side d rs bd ak se out an n₁ d₁ rs₁ bd₁ ak₁ se₁ out₁ an₁ → Ordered o side d rs bd ak se out an n₂ d₂ rs₂ bd₂ ak₂ se₂ out₂ an₂
    → AgreeCarried n₁ d₁ rs₁ bd₁ ak₁ se₁ out₁ an₁ n₂ d₂ rs₂ bd₂ ak₂ se₂ out₂ an₂
ordered_once o (ffi.neither w p s) (ffi.neither w' p' s') =
    let e = s.0 ∙ sym s'.0 in
    record {
      result = p ∙ sym p';
      answer = s.6 ∙ sym s'.6;
      left = record {
        desk = λ i. desk_at (e i) ((s.1 ∙ sym s'.1) i) ((s.2 ∙ sym s'.2) i) ((s.3 ∙ sym s'.3) i) ((s.4 ∙ sym s'.4) i);
        numbers = ap but_free e;
      };
      buffer = s.5 ∙ sym s'.5;
    }
ordered_once o (ffi.neither w p s) (ffi.taken w' t p' x) = absurd (omega arith)
ordered_once o (ffi.taken w t p x) (ffi.neither w' p' s) = absurd (omega arith)
ordered_once o {d = d} {rs = rs} {bd = bd} {ak = ak} {se = se} {out = out} {an = an} {d₂ = d₂} {rs₂ = rs₂} {bd₂ = bd₂} {ak₂ = ak₂} {se₂ = se₂} {out₂ = out₂} {an₂ = an₂} {n₂ = n₂} (ffi.taken w t p x) (ffi.taken w' t' p' y) =
    carried_once x (subst (λ (v : Side). Carried (history.call_with out (o v)) d rs bd ak se out an n₂ d₂ rs₂ bd₂ ak₂ se₂ out₂ an₂) (p' ∙ sym p) y)

-- ## questions: result and numbers are the answer's

told_in : {X : Type 0} → (X → List ℕ) → List ℕ → Result X Refusal → ℕ × List ℕ
told_in f an (Err e) = (refusal_number e, an)
told_in f an (Ok x) = (0, f x)

told_is : {X : Type 0} {f : X → List ℕ} {an an' : List ℕ} {a : Result X Refusal} {n : ℕ} → Told f an a n an' → (n, an') ≡ told_in f an a
unfolding told_in
told_is (report.refused e p m q) = rw (p, m, q)
told_is (report.told v p m q) = rw (p, m, q)

both_of : {n₁ n₂ : ℕ} {an₁ an₂ : List ℕ} {v : ℕ × List ℕ} → (n₁, an₁) ≡ v → (n₂, an₂) ≡ v → (n₁ ≡ n₂) × (an₁ ≡ an₂)
both_of p q = (ap (λ (v : ℕ × List ℕ). v.0) (p ∙ sym q), ap (λ (v : ℕ × List ℕ). v.1) (p ∙ sym q))

pub asked_once : {f : rule.Book (Unit {0}) → maybe.Option ℕ} {d rs bd ak se an an₁ an₂ : List ℕ} {n₁ n₂ : ℕ}
    → Asked f d rs bd ak se an n₁ an₁ → Asked f d rs bd ak se an n₂ an₂ → (n₁ ≡ n₂) × (an₁ ≡ an₂)
asked_once {an = an} x y = both_of (told_is x.reported) (told_is y.reported ∙ ap (told_in quote_as_numbers an) (sym (tells_once x.tells y.tells)))

pub deepened_once : {l : ℕ} {d rs bd ak se out an out₁ an₁ out₂ an₂ : List ℕ} {n₁ n₂ : ℕ}
    → Deepened l d rs bd ak se out an n₁ out₁ an₁ → Deepened l d rs bd ak se out an n₂ out₂ an₂ → (n₁ ≡ n₂) × (an₁ ≡ an₂) × (out₁ ≡ out₂)
deepened_once {an = an} x y =
    let e = shows_once x.shows y.shows in
    let r = both_of (told_is x.reported) (told_is y.reported ∙ ap (told_in depth_as_numbers an) (sym e.0)) in
    (r.0, r.1, e.1)

pub sought_once : {i : ℕ} {d rs bd ak se an an₁ an₂ : List ℕ} {n₁ n₂ : ℕ}
    → Sought i d rs bd ak se an n₁ an₁ → Sought i d rs bd ak se an n₂ an₂ → (n₁ ≡ n₂) × (an₁ ≡ an₂)
sought_once {an = an} x y = both_of (told_is x.reported) (told_is y.reported ∙ ap (told_in (λ l. look_as_numbers l.found l.count) an) (sym (finds_once x.finds y.finds)))

pub checked_once : {z : rule.Size} {d rs bd ak se : List ℕ} {n₁ n₂ : ℕ} → Checked z d rs bd ak se n₁ → Checked z d rs bd ak se n₂ → n₁ ≡ n₂
checked_once (ffi.whole w p) (ffi.whole w' p') = p ∙ sym p'
checked_once (ffi.whole w p) (ffi.broken w' p') = absurd (w' w)
checked_once (ffi.broken w p) (ffi.whole w' p') = absurd (w w')
checked_once (ffi.broken w p) (ffi.broken w' p') = p ∙ sym p'

-- ## a fresh book

opening_in : List ℕ → Reading (OrderBook × Statistics) → ℕ × List ℕ
opening_in d (number n) = (n, d)
opening_in d (value v) = (0, numbers_of v.0 v.1)

opens_is : {d d' : List ℕ} {a : Result Statistics Refusal} {b : OrderBook} {n : ℕ} → Opens d a b n d' → (n, d') ≡ opening_in d (opening_of b a)
unfolding opening_in
opens_is (report.refused e p m q) = rw (p, m, q)
opens_is (report.made st p m q) = rw (p, m, q)

-- a refusal is one whatever the small values
refused_any : (b c : OrderBook) (a : Result Statistics Refusal) {n : ℕ} → opening_of b a ≡ number n → opening_of c a ≡ number n
refused_any b c (Err e) h = h
refused_any b c (Ok st) h = absurd cc

pub opened_once : {d rs bd ak se d₁ rs₁ bd₁ ak₁ se₁ d₂ rs₂ bd₂ ak₂ se₂ : List ℕ} {n₁ n₂ : ℕ}
    → OpenedAs d rs bd ak se n₁ d₁ rs₁ bd₁ ak₁ se₁ → OpenedAs d rs bd ak se n₂ d₂ rs₂ bd₂ ak₂ se₂
    → (n₁ ≡ n₂) × SameNumbers d₁ rs₁ bd₁ ak₁ se₁ d₂ rs₂ bd₂ ak₂ se₂
unfolding opening_in
opened_once {d} {d₁ = d₁} {rs₁ = rs₁} {bd₁ = bd₁} {ak₁ = ak₁} {se₁ = se₁} {d₂ = d₂} {rs₂ = rs₂} {bd₂ = bd₂} {ak₂ = ak₂} {se₂ = se₂} {n₁ = n₁} {n₂ = n₂} x y =
    go (makes_once x.makes y.makes)
  where
    go : AgreeFresh (book_in d) (book_in d) x.answer y.answer (stock x.book rs₁ bd₁ ak₁ se₁) (stock y.book rs₂ bd₂ ak₂ se₂) → (n₁ ≡ n₂) × SameNumbers d₁ rs₁ bd₁ ak₁ se₁ d₂ rs₂ bd₂ ak₂ se₂
    go (neither p e _ _ q r s t) =
        let o : opening_of y.book y.answer ≡ number 1 = refused_any x.book y.book y.answer (ap (opening_of x.book) (sym e) ∙ p) in
        let g = both_of (opens_is x.reported ∙ ap (opening_in d) p) (opens_is y.reported ∙ ap (opening_in d) o) in
        (g.0, record { desk = λ i. desk_at (g.1 i) (q i) (r i) (s i) (t i); numbers = ap but_free g.1 })
    go (both st₁ st₂ p q e _ _ _ _) =
        let f = opens_is x.reported ∙ ap (opening_in d) p in
        let g = opens_is y.reported ∙ ap (opening_in d) q in
        let k : d₁ ≡ numbers_of x.book st₁ = ap (λ (v : ℕ × List ℕ). v.1) f in
        let l : d₂ ≡ numbers_of y.book st₂ = ap (λ (v : ℕ × List ℕ). v.1) g in (
          ap (λ (v : ℕ × List ℕ). v.0) f ∙ sym (ap (λ (v : ℕ × List ℕ). v.0) g),
          record {
            desk = (λ i. desk_at (k i) rs₁ bd₁ ak₁ se₁) ∙ ((λ i. record { book = (e.desk i).book; stats = statistics_of (statistics_in (numbers_of x.book (e.statistics i))) }) ∙ sym (λ i. desk_at (l i) rs₂ bd₂ ak₂ se₂));
            numbers = ap but_free k ∙ (numbers_same e ∙ sym (ap but_free l));
          },
        )

-- ## histories

begun_reads : {d rs bd ak se d' rs' bd' ak' se' : List ℕ} → OpenedAs d rs bd ak se 0 d' rs' bd' ak' se'
    → (b : OrderBook) × (st : Statistics) × (d' ≡ numbers_of b st) × call.Begins rule.hall (stock b rs' bd' ak' se') st
unfolding opening_in
begun_reads {d} {rs} {bd} {ak} {se} {d'} {rs'} {bd'} {ak'} {se'} x = go x.makes
  where
    go : Makes rule.hall (stock (book_in d) rs bd ak se) x.answer (stock x.book rs' bd' ak' se')
        → (b : OrderBook) × (st : Statistics) × (d' ≡ numbers_of b st) × call.Begins rule.hall (stock b rs' bd' ak' se') st
    go (call.short l p q) = absurd (
        let e : 0 ≡ 1 = ap (λ (v : ℕ × List ℕ). v.0) (opens_is x.reported ∙ ap (opening_in d) p) in
        let y : ⊥ = omega arith in y)
    go (call.made l st p g) = (x.book, st, ap (λ (v : ℕ × List ℕ). v.1) (opens_is x.reported ∙ ap (opening_in d) p), g)

exported_long : {h : List (rule.Call (Unit {0}))} {d rs bd ak se : List ℕ} → Exported h d rs bd ak se → length d ≡ 12
exported_long (begun x) = let r = begun_reads x in ap length r.2 ∙ numbers_long r.0 r.1
exported_long (called o r x) = carried_long (exported_long r) x
exported_long (switched {d = b} on r e) = ap length e ∙ (length-set b 4 (yes (not (eqb on 0))) ∙ exported_long r)

-- the numbers d stand for b and st
reached_at : {z : rule.Size} {h : List (rule.Call (Unit {0}))} {b : OrderBook} {st : Statistics} (d : List ℕ) {rs bd ak se : List ℕ}
    → book_in d ≡ b → statistics_in d ≡ st → Reached z h (stock b rs bd ak se) st → Reached z h (stock (book_in d) rs bd ak se) (statistics_in d)
reached_at d p q r = rw (p, q) r

pub exported_reached : {h : List (rule.Call (Unit {0}))} {d rs bd ak se : List ℕ} → Exported h d rs bd ak se
    → Reached rule.hall h (stock (book_in d) rs bd ak se) (statistics_in d)
exported_reached {d = d} (begun x) =
    let r = begun_reads x in
    let l : last_of r.1.last ≡ maybe.none = ap (λ (y : rule.Desk (Unit {0})). y.stats.last) r.3.desk in
    reached_at d (ap book_in r.2) (ap statistics_in r.2 ∙ numbers_statistics r.0 r.1 (subst HasDouble (sym l) tt)) (history.begun r.3)
exported_reached {d = d} (called o r x) = let e = carried_reads x in reached_at d e.0 e.1 (history.called o (exported_reached r) x.executes)
exported_reached {d = d} (switched {d = b} on r e) =
    let t = tracks (not (eqb on 0)) b (exported_long r) in
    reached_at d (ap book_in e ∙ t.0) (ap statistics_in e ∙ t.1) (history.switched (not (eqb on 0)) (exported_reached r))

pub exported_whole : {h : List (rule.Call (Unit {0}))} {d rs bd ak se : List ℕ} → Exported h d rs bd ak se → WholeStock rule.hall (stock (book_in d) rs bd ak se)
exported_whole x = reached_whole (exported_reached x)

pub exported_desk : {h : List (rule.Call (Unit {0}))} {d rs bd ak se : List ℕ} → Exported h d rs bd ak se → desk_at d rs bd ak se ≡ rule.end rule.hall h
exported_desk x = reached_desk (exported_reached x)
