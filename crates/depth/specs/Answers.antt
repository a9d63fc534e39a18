-- What the answers mean in the rule book's terms, case by case; and what the search for an id answers. Assumes nothing.
use Rattle.std.specs.Prelude.{ℕ, List, ◌≡◌, Option, None, Some}
use Rattle.std.proofs.Math.Option as maybe
use Rattle.rules.specs.Rules as rule
use Rattle.models.specs.declared.Price.{Price}
use Rattle.search.specs.Seek.{sought}
use Rattle.ledger.specs.Desk.{LedgerIn, stored_book}
use Rattle.depth.specs.declared.Lookup.{Lookup}
use Rattle.depth.specs.declared.Resting.{Resting}

-- the best price of a side, or none
abbrev pub quote_of : Option Price → maybe.Option ℕ
quote_of None = maybe.none
quote_of (Some price) = maybe.some price.0

-- price and quantity
abbrev pub found_of : Option Resting → maybe.Option (ℕ × ℕ)
found_of None = maybe.none
found_of (Some r) = maybe.some (r.price.0, r.qty.0)

-- the search for id over the places se: the order that the rules find in the book, and as many places as the walk looks at
pub record Looks (se rs : List ℕ) (id : ℕ) (l : Lookup) : Type 0 where
  pub answer : {bd ak : List ℕ} {r f nb na : ℕ} → LedgerIn rs bd ak se r f nb na
      → found_of l.found ≡ rule.lookup id (stored_book rs bd ak se nb na).bids (rule.lookup id (stored_book rs bd ak se nb na).asks maybe.none)
  pub count : l.count ≡ (sought se rs id).count
