-- What each answer says: document 01's number of a refusal, or its values. Assumes nothing.
use Rattle.std.specs.Prelude.{ℕ, Option, Result}
use Rattle.std.proofs.Math.Option as maybe
use Rattle.models.specs.declared.BookDepth.{BookDepth}
use Rattle.models.specs.declared.Price.{Price}
use Rattle.models.specs.declared.Refusal.{Refusal}
use Rattle.models.specs.Readings.{Reading, reading_of}
use Rattle.depth.specs.declared.Lookup.{Lookup}
use Rattle.depth.specs.Answers.{quote_of, found_of}

-- a price or the spread, if there is one
abbrev pub quoted_of : Result (Option Price) Refusal → Reading (maybe.Option ℕ)
quoted_of = reading_of quote_of

-- the levels asked for, how many asks were written, how many bids
abbrev pub deep_of : Result BookDepth Refusal → Reading (ℕ × ℕ × ℕ)
deep_of = reading_of (λ d. (d.levels, d.asks, d.bids))

-- the found order's price and quantity, if there is one; and how many places were looked at
abbrev pub got_of : Result Lookup Refusal → Reading (maybe.Option (ℕ × ℕ) × ℕ)
got_of = reading_of (λ l. (found_of l.found, l.count))
