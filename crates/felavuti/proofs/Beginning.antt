-- A fresh desk is ready for a tape. Assumes nothing.
use Prim.Native.Nat.{ℕ}
use mathlib.Core.Path.{◌≡◌}
use mathlib.Core.List.{List}
use native.Mathlib.Omega.{arith}
use Rattle.std.specs.Prelude.{Result, Ok}
use Rattle.rules.specs.Rules as rule
use Rattle.models.specs.declared.Refusal.{Refusal}
use Rattle.rows.specs.Rows.{fill_row, places}
use Rattle.stats.specs.declared.Statistics.{Statistics}
use Rattle.ledger.specs.Stock.{Stock}
use Rattle.calls.specs.Calls.{Makes, short, made}
use Rattle.serve.specs.Serve.{keeping, Ready}

pub made_ready : {z : rule.Size} {k k' : Stock} {a : Result Statistics Refusal} {st : Statistics} (rows : List ℕ) → Makes z k a k' → a ≡ Ok st
    → places fill_row rows ≡ z.orders → Ready z (keeping k' st rows)
made_ready rows (short n e f) m r = absurd (let y : ◌≡◌ {A = ℕ} 0 1 = cc in let x : ⊥ = omega arith in x)
made_ready rows (made l st e w) m r = record { whole = w.whole; roomy = r }
