-- Other tags on the same orders. Assumes nothing.
use Rattle.std.specs.Prelude.{map}
use Rattle.rules.specs.Rules.{Order, Book, Taker, Fill, Outcome, Desk, Call, order, cancel, tracking, Answer, done, switched, Result}

module _ {A B : Type 0} (f : A → B) where
  abbrev pub re_order : Order A → Order B
  re_order m = record { id = m.id; quantity = m.quantity; price = m.price; found = m.found; tag = f m.tag }

  abbrev pub re_taker : Taker A → Taker B
  re_taker t = record { side = t.side; kind = t.kind; id = t.id; quantity = t.quantity; room = t.room; tag = f t.tag }

  abbrev pub re_fill : Fill A → Fill B
  re_fill g = record { taker = g.taker; maker = g.maker; quantity = g.quantity; price = g.price; side = g.side; whole = g.whole; tag = f g.tag }

  abbrev pub re_outcome : Outcome A → Outcome B
  re_outcome o = record { fills = map re_fill o.fills; left = map re_order o.left; rest = o.rest }

  abbrev pub re_book : Book A → Book B
  re_book b = record { bids = map re_order b.bids; asks = map re_order b.asks }

  abbrev pub re_desk : Desk A → Desk B
  re_desk d = record { book = re_book d.book; stats = d.stats }

  abbrev pub re_call : Call A → Call B
  re_call (order t) = order (re_taker t)
  re_call (cancel i) = cancel i
  re_call (tracking b) = tracking b

  abbrev pub re_answer : Answer A → Answer B
  re_answer (Answer.refused n) = Answer.refused n
  re_answer (done e l) = done e (map re_fill l)
  re_answer switched = switched

  abbrev pub re_result : Result A → Result B
  re_result r = record { desk = re_desk r.desk; answer = re_answer r.answer }
