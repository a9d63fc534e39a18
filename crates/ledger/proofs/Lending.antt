-- What is lent on is handed back, however many steps it goes through. Assumes nothing.
use mathlib.Core.Path.{◌∙◌}
use Rattle.ledger.specs.declared.StoredBook.{StoredBook}
use Rattle.ledger.specs.Stock.{Relent}

pub relent_on : {a b c : StoredBook} → Relent a b → Relent b c → Relent a c
relent_on x y = record {
  records = x.records ∙ y.records;
  bids = x.bids ∙ y.bids;
  asks = x.asks ∙ y.asks;
  search = x.search ∙ y.search;
  records_length = y.records_length ∙ x.records_length;
  bids_length = y.bids_length ∙ x.bids_length;
  asks_length = y.asks_length ∙ x.asks_length;
  search_length = y.search_length ∙ x.search_length;
}
