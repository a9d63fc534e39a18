-- When a desk of the programs is as it was: each number of the storage, and the small values as the exports write them, where a double stands as its bits.
-- Assumes nothing.
use Rattle.std.specs.Prelude.{◌≡◌}
use Rattle.script.specs.declared.OwnDesk.{OwnDesk}
use Rattle.numbers.specs.Numbers.{numbers_of}

pub record Unchanged (a b : OwnDesk) : Type 0 where
  pub small : numbers_of a.book a.statistics ≡ numbers_of b.book b.statistics
  pub records : a.records ≡ b.records
  pub bids : a.bids ≡ b.bids
  pub asks : a.asks ≡ b.asks
  pub search : a.search ≡ b.search
