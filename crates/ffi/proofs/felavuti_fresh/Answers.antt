-- `ffi::felavuti_fresh` meets its contract: a fresh book of orderbook with its numbers written. Assumes nothing.
use Rattle.std.proofs.Common.{rules, refl}
use Rattle.numbers.specs.Reports.{made, refused}
use Rattle.ffi.proofs.Carrying.{opened}
use Rattle.ffi.proofs.felavuti_fresh.Goals as goal

pub returns-in-Ok : goal.returns-in-Ok
returns-in-Ok c =
    let l = c.fresh.ensures.lent in
    opened c.book_of.ensures (search (rules, l.records)) (search (rules, l.bids)) (search (rules, l.asks)) (search (rules, l.search))
    c.fresh.ensures.makes (made c.in-Ok.statistics c.in-Ok.is refl c.written.ensures)

pub returns-in-Err : goal.returns-in-Err
returns-in-Err c =
    let l = c.fresh.ensures.lent in
    opened c.book_of.ensures (search (rules, l.records)) (search (rules, l.bids)) (search (rules, l.asks)) (search (rules, l.search))
    c.fresh.ensures.makes (refused c.in-Err.refusal c.in-Err.is c.from.ensures refl)
