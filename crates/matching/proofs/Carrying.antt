-- What the walk of `carry_out` comes to, in the rules' terms. Assumes nothing.
use Prim.Native.Nat.{ℕ, ◌≤◌}
use mathlib.Core.Bool.{Bool}
use mathlib.Core.List.{List}
use mathlib.Core.Path.{ap, ◌∙◌, ◌≡◌}
use native.Mathlib.Omega.{arith}
use Rattle.rules.specs.Rules.{outcome}
use Rattle.records.specs.Rows.{RecordAt, field}
use Rattle.rows.specs.Rows.{fill_row, written}
use Rattle.arena.specs.Times.{times}
use Rattle.side.specs.Orders.{codes, orders}
use Rattle.side.specs.Read.{levels_in}
use Rattle.side.proofs.Orders.{codes_times}
use Rattle.survey.specs.declared.Taker.{Taker}
use Rattle.survey.specs.Taker.{met_side}
use Rattle.survey.proofs.Coming.{coming_all}
use Rattle.survey.proofs.Walk.{ahead}
use Rattle.matching.specs.declared.Last.{Last}
use Rattle.matching.specs.declared.Progress.{Progress}
use Rattle.matching.specs.Carried.{CanCarry, Carries, fills_made}
use Rattle.matching.proofs.Giving.{fills_from, last_is, last_from, nothing}
use Rattle.matching.proofs.Lowered.{lowered, lowered_only, lowered_orders, lowered_other, rows_none}
use Rattle.matching.proofs.Passing.{Done, begun}
use Rattle.matching.proofs.Quantities.{Only, only_levels}

module _ {u : Taker} {rs lv : List ℕ} {n : ℕ} {out : List ℕ} (m : CanCarry u rs lv n out) {rs' out' : List ℕ} {p : Progress}
    (d : Done lv n u rs out (begun lv n u) (ahead rs lv n u n) rs' out' p) where
  abbrev cs : List ℕ
  cs = codes (met_side u) (levels_in rs lv n)

  all : ahead rs lv n u n ≡ cs
  all = coming_all (met_side u) n (levels_in rs lv n) m.able.laid.ladder.count

  fills_are : (room : ℕ) (fnd : ℕ → Bool) → fills_from u rs u.qty.0 (ahead rs lv n u n) room fnd ≡ fills_made u rs lv n room fnd
  unfolding outcome
  fills_are room fnd = ap (λ (l : List ℕ). fills_from u rs u.qty.0 l room fnd) all

  rows_are : rs' ≡ lowered u rs u.qty.0 cs
  rows_are = d.rows ∙ ap (lowered u rs u.qty.0) all

  only : Only rs rs'
  only = rw rows_are (lowered_only u rs u.qty.0 cs)

  once : (x : ℕ) → times x cs ≤ 1
  once x = omega (arith, m.able.laid.once x, codes_times (met_side u) x (levels_in rs lv n))

  row : (x : ℕ) → 1 ≤ times x cs → RecordAt rs x
  row x i = m.able.laid.rows x (omega (arith, codes_times (met_side u) x (levels_in rs lv n)))

  last_are : (room : ℕ) (fnd : ℕ → Bool) → p.last ≡ last_from nothing (fills_made u rs lv n room fnd)
  last_are room fnd = d.last room fnd ∙ ap (last_from nothing) (fills_are room fnd)

  pub carries : Carries u rs lv n out rs' out' p.last
  carries = record {
    fills = λ room fnd. d.fills room fnd ∙ ap (written fill_row out 0) (fills_are room fnd);
    makers = λ room fnd.
        ap (λ ws. orders rs' fnd (codes (met_side u) ws)) (only_levels only lv n)
        ∙ (ap (λ (l : List ℕ). orders l fnd cs) rows_are ∙ lowered_orders u room fnd rs u.qty.0 cs once row);
    price = λ room fnd. ap (λ (l : Last). l.price.0) (last_are room fnd) ∙ (last_is (fills_made u rs lv n room fnd)).0;
    quantity = λ room fnd. ap (λ (l : Last). l.qty.0) (last_are room fnd) ∙ (last_is (fills_made u rs lv n room fnd)).1;
    columns = only.columns;
    others = λ x h z. ap (λ (l : List ℕ). field l 1 x) rows_are
        ∙ lowered_other u rs u.qty.0 cs x h (omega (arith, codes_times (met_side u) x (levels_in rs lv n))) (rows_none rs cs row);
    long = only.long;
  }
