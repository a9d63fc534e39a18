-- An answer of the desk's code, with the rows lent for its fills, as text. Assumes nothing.
use Rattle.std.specs.Prelude.{ℕ, List, Result, Ok, Err}
use Rattle.models.specs.declared.OrderEvent.{OrderEvent}
use Rattle.models.specs.declared.OrderEvent.TheVariants.{Unfilled, Placed, Canceled, PartiallyFilled, Filled}
use Rattle.stats.specs.Statistics.{fills_in}
use Rattle.models.specs.declared.Refusal.{Refusal}
use Rattle.desk.specs.Performs.{answer_of}
use Rattle.feed.specs.Feed.{answer_text}

-- how many fills an event says
abbrev pub count_of : OrderEvent → ℕ
count_of (Unfilled id) = 0
count_of (Placed id) = 0
count_of (Canceled id) = 0
count_of (PartiallyFilled id qty fills) = fills
count_of (Filled id qty fills) = fills

-- and an answer
abbrev pub fill_count : Result OrderEvent Refusal → ℕ
fill_count (Err r) = 0
fill_count (Ok e) = count_of e

-- the text of an answer whose fills stand in some rows
abbrev pub told_of : Result OrderEvent Refusal → List ℕ → List ℕ
told_of a rows = answer_text (answer_of a (fills_in rows (fill_count a)))
