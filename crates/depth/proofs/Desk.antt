-- A desk meets what each question asks of storage; and what its answers say of the rules' book. Assumes nothing.
use Prim.Native.Nat.{ℕ}
use mathlib.Core.Bool.{Bool, not, true}
use mathlib.Core.List.{List}
use mathlib.Core.Path.{sym, ◌∙◌, ◌≡◌}
use native.Mathlib.Omega.{arith}
use lib.ListN.{length}
use borrow.Author.Tests.{not-true}
use Rattle.side.specs.Orders.{orders_in}
use Rattle.rules.specs.Rules.{Side, any_above, ask, bid, levels, most}
use Rattle.side.proofs.Stored.{row_of}
use Rattle.ledger.specs.Desk.{LedgerIn, stored_book, found}
use Rattle.depth.specs.Sides.{Fitting, Standing}
use Rattle.depth.proofs.Levels.{levels_count}

module _ {rs bd ak se : List ℕ} {r f nb na : ℕ} (w : LedgerIn rs bd ak se r f nb na) where
  -- both sides stand: `totals_fit`, `put_levels`, `put_depth`
  pub standing_bids : Standing rs bd nb
  standing_bids = record { ladder = w.stored.mine; busy = w.busy; rows = λ x i. row_of w.stored x (omega arith) }

  pub standing_asks : Standing rs ak na
  standing_asks = record { ladder = w.stored.theirs; busy = w.busy_two; rows = λ x i. row_of w.stored x (omega arith) }

  -- the rule book's levels are as many as the rows
  pub bid_count : length (levels (stored_book rs bd ak se nb na).bids) ≡ nb
  bid_count = levels_count standing_bids bid (found se rs)

  pub ask_count : length (levels (stored_book rs bd ak se nb na).asks) ≡ na
  ask_count = levels_count standing_asks ask (found se rs)

-- what `totals_fit` tells, for `put_levels` and `put_depth`
pub fitting : {rs lv : List ℕ} {n : ℕ} {fits : Bool} → ((sd : Side) (fnd : ℕ → Bool) → fits ≡ not (any_above most (levels (orders_in sd rs fnd lv n)))) → fits ≡ true → Fitting rs lv n
fitting {rs} {lv} {n} h e = record { on = ask; fnd = λ x. true; fits = not-true (any_above most (levels (orders_in ask rs (λ x. true) lv n))) (sym (h ask (λ x. true)) ∙ e) }
