-- `desk::order` meets its contract: refused as the rules decide from the outlook, or accepted and carried out. Assumes nothing.
use mathlib.Core.Path.{refl}
use Rattle.std.proofs.lemmas.Result.{err_from_is_err_and}
use Rattle.desk.proofs.Ordering.{order_done, order_none, order_refused, view_left, view_matchable, view_rising}
use Rattle.desk.proofs.order.Goals as goal

pub outlook-s-requires : goal.outlook-s-requires
outlook-s-requires c = view_matchable c.view-view.ensures c.requires

pub is_crowded-crowded-requires : goal.is_crowded-crowded-requires
is_crowded-crowded-requires c = view_rising c.view-view.ensures c.requires

pub checked-requires : goal.checked-requires
checked-requires c = view_left c.view-view.ensures c.requires c.args.t c.outlook-s.result c.outlook-s.ensures

pub returns-in_err-checked-clause-performs : goal.returns-in_err-checked-clause-performs
returns-in_err-checked-clause-performs c =
    let p = err_from_is_err_and c.from_residual.result c.from_residual.ensures.1 in
    rw (p.1, p.2)
    (order_refused c.view-view.ensures c.requires c.args.t _ c.outlook-s.ensures c.args.statistics.now _ c.standing-at.ensures _ refl _
    c.is_crowded-crowded.ensures c.args.fills.now _ c.places-room.ensures _ c.checked.ensures _ c.in_err-checked.was)

pub returns-clause-performs : goal.returns-clause-performs
returns-clause-performs c =
    order_done c.requires c.carry.ensures.lent c.args.t c.args.statistics.now c.args.fills.now
    (order_none c.view-view.ensures c.requires c.args.t _ c.outlook-s.ensures c.args.statistics.now _ c.standing-at.ensures _ refl _
    c.is_crowded-crowded.ensures c.args.fills.now _ c.places-room.ensures _ c.checked.ensures c.in_ok-checked.was)
    c.carry.ensures.fulfils
