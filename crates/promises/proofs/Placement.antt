-- Placement can't be told: two whole stocks that read as one desk, wherever their records and search entries stand, answer every call alike and are left
-- reading alike. Only the count of a search shows where its entries stand. Assumes nothing.
use Prim.Native.Nat.{ℕ, ◌+◌}
use mathlib.Core.Path.{◌≡◌, sym, ap, ◌∙◌}
use mathlib.Core.List.{List}
use mathlib.Core.Option as maybe
use lib.ListN.{length}
use Rattle.std.specs.Prelude.{Option, Result}
use Rattle.rules.specs.Rules as rule
use Rattle.models.specs.declared.BookDepth.{BookDepth}
use Rattle.models.specs.declared.OrderEvent.{OrderEvent}
use Rattle.models.specs.declared.Price.{Price}
use Rattle.depth.specs.declared.Lookup.{Lookup}
use Rattle.stats.specs.declared.Statistics.{Statistics}
use Rattle.stats.specs.Statistics.{statistics_of}
use Rattle.rows.specs.Rows.{fill_row, level_row, places, written}
use Rattle.stats.proofs.Readings.{statistics_same}
use Rattle.whole.proofs.Join.{whole_desk}
use Rattle.whole.proofs.Desk.{desk_resting}
use Rattle.depth.proofs.Desk.{bid_count, ask_count}
use Rattle.models.specs.declared.Refusal.{Refusal}
use Rattle.ledger.specs.Stock.{Stock}
use Rattle.ledger.specs.Desk.{read_book}
use Rattle.desk.specs.Stock.{read_desk}
use Rattle.models.specs.Readings.{value}
use Rattle.questions.specs.Answers.{got_of}
use Rattle.whole.specs.Whole.{WholeStock}
use Rattle.calls.specs.Calls.{Executes}
use Rattle.questions.specs.Questions.{Tells, Shows, Finds}
use Rattle.promises.specs.Outcomes.{SameDesk, Agree, uncounted}
use Rattle.promises.specs.History.{fills_by}
use Rattle.promises.proofs.Answers.{answer_same, quoted_same, deep_same}
use Rattle.promises.proofs.Performed.{leaves_desk, leaves_whole, answers, reply_of, depth_in, levels_in, order_in, tells, shows, finds}

-- ## what a desk fixes of a whole stock

-- the counts are functions of the rules' book, and the statistics of the rules' statistics
pub same_desk : {z : rule.Size} {k₁ k₂ : Stock} {st₁ st₂ : Statistics} → WholeStock z k₁ → WholeStock z k₂ → read_desk k₁ st₁ ≡ read_desk k₂ st₂ → SameDesk k₁ k₂ st₁ st₂
same_desk {k₁ = k₁} {k₂ = k₂} {st₁ = st₁} {st₂ = st₂} w v e =
    let b : read_book k₁ ≡ read_book k₂ = ap (λ (d : rule.Desk (Unit {0})). d.book) e in
    record {
      desk = e;
      statistics = statistics_same st₁ st₂ (ap (λ (d : rule.Desk (Unit {0})). d.stats) e);
      resting = desk_resting (whole_desk w) ∙ (ap (λ (x : rule.Book (Unit {0})). length x.bids + length x.asks) b ∙ sym (desk_resting (whole_desk v)));
      bids = sym (bid_count (whole_desk w)) ∙ (ap (λ (x : rule.Book (Unit {0})). length (rule.levels x.bids)) b ∙ bid_count (whole_desk v));
      asks = sym (ask_count (whole_desk w)) ∙ (ap (λ (x : rule.Book (Unit {0})). length (rule.levels x.asks)) b ∙ ask_count (whole_desk v));
    }

pub same_here : {k₁ k₂ : Stock} {st₁ st₂ : Statistics} → k₁ ≡ k₂ → st₁ ≡ st₂ → SameDesk k₁ k₂ st₁ st₂
same_here p q = record {
  desk = λ i. read_desk (p i) (q i);
  statistics = q;
  resting = λ i. (p i).book.resting;
  bids = λ i. (p i).book.bids;
  asks = λ i. (p i).book.asks;
}

-- ## every call on two stocks that read alike

module _ {z : rule.Size} {k₁ k₂ : Stock} (w : WholeStock z k₁) (v : WholeStock z k₂) where
  pub executes_alike : {c : rule.Call (Unit {0})} {k₁' k₂' : Stock} {st₁ st₂ st₁' st₂' : Statistics} {out out₁ out₂ : List ℕ} {a b : Result OrderEvent Refusal}
      → read_desk k₁ st₁ ≡ read_desk k₂ st₂ → Executes z c k₁ st₁ out a k₁' st₁' out₁ → Executes z c k₂ st₂ out b k₂' st₂' out₂
      → Agree a b k₁' k₂' st₁' st₂' out₁ out₂
  executes_alike {c} {st₁ = st₁} {st₂ = st₂} {out = out} {a = a} {b = b} e x y =
      let p = answers w x in
      let q = answers v y in
      record {
        answer = answer_same a b (fills_by z (read_desk k₁ st₁) c) (fills_by z (read_desk k₂ st₂) c)
            (p.same ∙ (ap (λ (d : rule.Desk (Unit {0})). (rule.perform z d c).answer) e ∙ sym q.same));
        left = same_desk (leaves_whole w x) (leaves_whole v y) (leaves_desk w x ∙ (ap (λ (d : rule.Desk (Unit {0})). rule.after z d c) e ∙ sym (leaves_desk v y)));
        buffer = p.buffer ∙ (ap (λ (d : rule.Desk (Unit {0})). written fill_row out 0 (fills_by z d c)) e ∙ sym q.buffer);
      }

  module _ (e : read_book k₁ ≡ read_book k₂) where
    -- the same, where the statistics are one value
    pub executes_alike_book : {c : rule.Call (Unit {0})} {k₁' k₂' : Stock} {st st₁' st₂' : Statistics} {out out₁ out₂ : List ℕ} {a b : Result OrderEvent Refusal}
        → Executes z c k₁ st out a k₁' st₁' out₁ → Executes z c k₂ st out b k₂' st₂' out₂ → Agree a b k₁' k₂' st₁' st₂' out₁ out₂
    executes_alike_book {st = st} x y = executes_alike (λ i. record { book = e i; stats = statistics_of st }) x y

    pub tells_alike : {f : rule.Book (Unit {0}) → maybe.Option ℕ} {a b : Result (Option Price) Refusal} → Tells z f k₁ a → Tells z f k₂ b → a ≡ b
    tells_alike {f} {a} {b} x y = quoted_same a b (tells w x ∙ (ap (λ (d : rule.Book (Unit {0})). value (f d)) e ∙ sym (tells v y)))

    pub shows_alike : {n : ℕ} {out out₁ out₂ : List ℕ} {a b : Result BookDepth Refusal} → Shows z n k₁ out a out₁ → Shows z n k₂ out b out₂ → (a ≡ b) × (out₁ ≡ out₂)
    shows_alike {n} {out = out} {a = a} {b = b} x y =
        let q : rule.Question = rule.depth n (places level_row out) in (
          deep_same a b ((shows w x).0 ∙ (ap (λ (d : rule.Book (Unit {0})). depth_in (reply_of d q)) e ∙ sym (shows v y).0)),
          (shows w x).1 ∙ (ap (λ (d : rule.Book (Unit {0})). written level_row out 0 (levels_in (reply_of d q))) e ∙ sym (shows v y).1),
        )

    -- the found order, the count excepted
    pub finds_alike : {i : ℕ} {a b : Result Lookup Refusal} → Finds z i k₁ a → Finds z i k₂ b → uncounted (got_of a) ≡ uncounted (got_of b)
    finds_alike {i} x y =
        ap uncounted (finds w x) ∙ (ap (λ (d : rule.Book (Unit {0})). value (order_in (reply_of d (rule.search i)))) e ∙ sym (ap uncounted (finds v y)))
