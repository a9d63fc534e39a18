-- A call carried out on the stored book of the lent numbers is carried out on what these numbers mean. Assumes nothing.
use Prim.Native.Nat.{ℕ}
use mathlib.Core.Bool.{Bool, false, true}
use mathlib.Core.Option as maybe
use mathlib.Core.Path.{◌≡◌, subst, refl, sym, ◌∙◌}
use mathlib.Core.List.{List}
use Rattle.std.specs.Prelude.{Option, Result, Ok}
use Rattle.rules.specs.Rules as rule
use Rattle.models.specs.declared.BookDepth.{BookDepth}
use Rattle.models.specs.declared.OrderEvent.{OrderEvent}
use Rattle.models.specs.declared.OrderType.{OrderType}
use Rattle.models.specs.declared.Price.{Price}
use Rattle.models.specs.declared.Refusal.{Refusal}
use Rattle.models.specs.declared.Side.{Side}
use Rattle.models.specs.Readings.{call_of}
use Rattle.rows.specs.Rows.{fill_row, places}
use Rattle.stats.specs.declared.Statistics.{Statistics}
use Rattle.search.specs.Seek.{Decides}
use Rattle.ledger.specs.declared.OrderBook.{OrderBook}
use Rattle.ledger.specs.Stock.{Stock, stock}
use Rattle.whole.specs.Whole.{WholeStock}
use Rattle.depth.specs.declared.Lookup.{Lookup}
use Rattle.calls.specs.Calls.{Executes, Makes}
use Rattle.questions.specs.Questions.{Tells, Shows, Finds}
use Rattle.numbers.specs.Numbers.{book_in, statistics_in}
use Rattle.numbers.specs.Reports.{Reported, Quotes, Depths, LookReported, Opens, OrderOf, side_in}
use Rattle.numbers.specs.Reports as made
use Rattle.ffi.specs.Exports.{Carried, Ordered, taken, Asked, Deepened, Sought, OpenedAs, Checked, whole, broken}

-- k' is what stands in the lists lent afterwards
module _ {d rs bd ak se rs' bd' ak' se' : List ℕ} {b : OrderBook} {k' : Stock} (eb : b ≡ book_in d)
    (er : rs' ≡ k'.records) (ed : bd' ≡ k'.bids) (ek : ak' ≡ k'.asks) (ee : se' ≡ k'.search) where
  pub carried : {c : rule.Call (Unit {0})} {out an out' an' d' : List ℕ} {n : ℕ} {st st' : Statistics} {a : Result OrderEvent Refusal}
      → st ≡ statistics_in d → Executes rule.hall c (stock b rs bd ak se) st out a k' st' out' → Reported d an a k'.book st' n d' an'
      → Carried c d rs bd ak se out an n d' rs' bd' ak' se' out' an'
  carried {st' = st'} {a = a} es x r = record { answer = a; book = k'.book; statistics = st'; executes = rw (er, ed, ek, ee, ← eb, ← es) x; reported = r }

  pub opened : {n : ℕ} {d' : List ℕ} {a : Result Statistics Refusal}
      → Makes rule.hall (stock b rs bd ak se) a k' → Opens d a k'.book n d' → OpenedAs d rs bd ak se n d' rs' bd' ak' se'
  opened {a = a} x r = record { answer = a; book = k'.book; makes = rw (er, ed, ek, ee, ← eb) x; reported = r }

ok_same : {v w : OrderType} → ◌≡◌ {A = Result OrderType Refusal} (Ok v) (Ok w) → v ≡ w
ok_same e = cc

-- an order that was made of its numbers has a side
module _ {d rs bd ak se out an d' rs' bd' ak' se' out' an' : List ℕ} {n : ℕ} where
  pub ordered : {o : Side → OrderType} {side : ℕ} {r : Result OrderType Refusal} {v : OrderType} → OrderOf o side r → r ≡ Ok v
      → Carried (call_of (places fill_row out) v) d rs bd ak se out an n d' rs' bd' ak' se' out' an'
      → Ordered o side d rs bd ak se out an n d' rs' bd' ak' se' out' an'
  ordered (made.neither w e) f x = absurd cc
  ordered {side = side} (made.taken w e) f x =
      taken w (side_in side) refl
      (subst (λ (y : OrderType). Carried (call_of (places fill_row out) y) d rs bd ak se out an n d' rs' bd' ak' se' out' an') (ok_same (sym f ∙ e)) x)

-- k is what is read of the numbers lent
module _ {d rs bd ak se : List ℕ} {k : Stock} (e : k ≡ stock (book_in d) rs bd ak se) where
  pub asked : {f : rule.Book (Unit {0}) → maybe.Option ℕ} {an : List ℕ} {n : ℕ} {an' : List ℕ} {a : Result (Option Price) Refusal}
      → Tells rule.hall f k a → Quotes an a n an' → Asked f d rs bd ak se an n an'
  asked {f = f} {a = a} x r = record { answer = a; tells = subst (λ (y : Stock). Tells rule.hall f y a) e x; reported = r }

  pub deepened : {l : ℕ} {out an : List ℕ} {n : ℕ} {out' an' : List ℕ} {a : Result BookDepth Refusal}
      → Shows rule.hall l k out a out' → Depths an a n an' → Deepened l d rs bd ak se out an n out' an'
  deepened {l = l} {out = out} {out' = out'} {a = a} x r =
      record { answer = a; shows = subst (λ (y : Stock). Shows rule.hall l y out a out') e x; reported = r }

  pub sought : {i : ℕ} {an : List ℕ} {n : ℕ} {an' : List ℕ} {a : Result Lookup Refusal} → Finds rule.hall i k a → LookReported an a n an' → Sought i d rs bd ak se an n an'
  sought {i = i} {a = a} x r = record { answer = a; finds = subst (λ (y : Stock). Finds rule.hall i y a) e x; reported = r }

  module _ {z : rule.Size} {t : Bool} (x : Decides t (WholeStock z k)) where
    pub checked : t ≡ true → Checked z d rs bd ak se 0
    checked f = whole (subst (λ (y : Stock). WholeStock z y) e (x.yea f)) refl

    pub unchecked : t ≡ false → Checked z d rs bd ak se 1
    unchecked f = broken (λ w. x.nay f (subst (λ (y : Stock). WholeStock z y) (sym e) w)) refl
