-- When two outcomes of a public call agree: what a contract leaves open is placement alone. Assumes nothing.
use Rattle.std.specs.Prelude.{ℕ, ◌≡◌, List, length, Result}
use Rattle.std.proofs.Math.Option.{Option}
use Rattle.models.specs.declared.OrderEvent.{OrderEvent}
use Rattle.stats.specs.declared.Statistics.{Statistics}
use Rattle.models.specs.declared.Refusal.{Refusal}
use Rattle.ledger.specs.declared.OrderBook.{OrderBook}
use Rattle.ledger.specs.Stock.{Stock}
use Rattle.desk.specs.Stock.{read_desk}
use Rattle.models.specs.Readings.{Reading, number, value}
use Rattle.calls.specs.Calls.{opening_of}

-- Two stocks with their statistics read alike. Of the four small values only the first free place is left to placement.
pub record SameDesk (k₁ k₂ : Stock) (st₁ st₂ : Statistics) : Type 0 where
  pub desk : read_desk k₁ st₁ ≡ read_desk k₂ st₂
  pub statistics : st₁ ≡ st₂
  pub resting : k₁.book.resting ≡ k₂.book.resting
  pub bids : k₁.book.bids ≡ k₂.book.bids
  pub asks : k₁.book.asks ≡ k₂.book.asks

-- two outcomes of an order or a cancel
pub record Agree (a b : Result OrderEvent Refusal) (k₁ k₂ : Stock) (st₁ st₂ : Statistics) (out₁ out₂ : List ℕ) : Type 0 where
  pub answer : a ≡ b
  pub left : SameDesk k₁ k₂ st₁ st₂
  pub buffer : out₁ ≡ out₂

-- what a search says but for its count, which is placement's
abbrev pub uncounted : Reading (Option (ℕ × ℕ) × ℕ) → Reading (Option (ℕ × ℕ))
uncounted (number n) = number n
uncounted (value v) = value v.0

-- two outcomes of a fresh book, of which b₁ and b₂ were the small values lent: both refuse, leave the lent lists alike and the small values as they were; or
-- both make a book, of lists as long
pub data AgreeFresh (b₁ b₂ : OrderBook) (a b : Result Statistics Refusal) (k₁ k₂ : Stock) : Type 0 where
  neither : opening_of k₁.book a ≡ number 1 → a ≡ b → k₁.book ≡ b₁ → k₂.book ≡ b₂
      → k₁.records ≡ k₂.records → k₁.bids ≡ k₂.bids → k₁.asks ≡ k₂.asks → k₁.search ≡ k₂.search → AgreeFresh b₁ b₂ a b k₁ k₂
  both : (st₁ st₂ : Statistics) → opening_of k₁.book a ≡ value (k₁.book, st₁) → opening_of k₂.book b ≡ value (k₂.book, st₂) → SameDesk k₁ k₂ st₁ st₂
      → length k₁.records ≡ length k₂.records → length k₁.bids ≡ length k₂.bids → length k₁.asks ≡ length k₂.asks → length k₁.search ≡ length k₂.search
      → AgreeFresh b₁ b₂ a b k₁ k₂
