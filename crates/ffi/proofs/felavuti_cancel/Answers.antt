-- `ffi::felavuti_cancel` meets its contract: the call of orderbook with the numbers read and written. Assumes nothing.
use Rattle.std.proofs.Common.{rules}
use Rattle.ffi.proofs.Carrying.{carried}
use Rattle.ffi.proofs.felavuti_cancel.Goals as goal

pub returns : goal.returns
returns c =
    let l = c.cancel-done.ensures.lent in
    carried c.book_of.ensures (search (rules, l.records)) (search (rules, l.bids)) (search (rules, l.asks)) (search (rules, l.search))
    c.statistics_of-statistics.ensures (c.cancel-done.ensures.cancels c.statistics_of-statistics.result) c.reported.ensures
