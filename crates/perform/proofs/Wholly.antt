-- How an order or a cancel on a whole book comes to its contract: through what the doors know of it, and by what the order asks. Assumes nothing.
use Prim.Native.Nat.{ℕ}
use mathlib.Core.Path.{subst, ◌≡◌}
use mathlib.Core.List.{List}
use Rattle.rules.specs.Rules as rule
use Rattle.std.specs.Prelude.{Result}
use Rattle.models.specs.declared.OrderEvent.{OrderEvent}
use Rattle.models.specs.declared.Refusal.{Refusal}
use Rattle.stats.specs.declared.Statistics.{Statistics}
use Rattle.ledger.specs.Stock.{Stock}
use Rattle.whole.specs.Whole.{WholeStock}
use Rattle.whole.proofs.Join.{whole_desk, whole_book, desk_whole}
use Rattle.desk.specs.Stock.{Sound}
use Rattle.desk.specs.Performs.{Performs, refused, carried}

-- ## a whole stock is what the doors know, and comes back from it

pub whole_sound : {z : rule.Size} {k : Stock} → WholeStock z k → Sound z k
whole_sound w = record { lengths = w.lengths; tidy = whole_desk w; orderly = whole_book w }

pub sound_whole : {z : rule.Size} {k : Stock} → Sound z k → WholeStock z k
sound_whole s = desk_whole s.lengths s.tidy s.orderly

pub performs_whole : {z : rule.Size} {c : rule.Call (Unit {0})} {k k' : Stock} {st st' : Statistics} {out out' : List ℕ} {a : Result OrderEvent Refusal}
    → Performs (Sound z) z c k st out a k' st' out' → Performs (WholeStock z) z c k st out a k' st' out'
performs_whole (refused n u p q r s) = refused n u p q r s
performs_whole (carried e l u p d v t) = carried e l u p d (sound_whole v) t

-- ## an order by its kind

-- c is the call of the rules that the order reads as
pub performs_as : {z : rule.Size} {c c' : rule.Call (Unit {0})} {k k' : Stock} {st st' : Statistics} {out out' : List ℕ} {a : Result OrderEvent Refusal} → c ≡ c'
    → Performs (Sound z) z c k st out a k' st' out' → Performs (WholeStock z) z c' k st out a k' st' out'
performs_as {z} {k = k} {k'} {st} {st'} {out} {out'} {a} e x =
    subst (λ (v : rule.Call (Unit {0})). Performs (WholeStock z) z v k st out a k' st' out') e (performs_whole x)
