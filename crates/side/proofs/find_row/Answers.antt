-- `side::find_row` meets its contract. Assumes nothing.
use Prim.Native.Nat.{ℕ}
use mathlib.Core.List.{List}
use lib.Dec.{ltb}
use lib.ListN.{get_or, take}
use borrow.Author.Rules.{rules}
use Rattle.std.proofs.lemmas.List.Sorted.{IsPartitionPoint-from_clause}
use Rattle.side.proofs.Shift.{bracket_at, rows_parted}
use Rattle.side.proofs.find_row.Goals as goal

pub returns : goal.returns
returns c =
    let lv = c.args.levels.now in
    let p = c.args.price.0 in
    let all = c.as_chunks.result.0.now in
    let e = c.as_chunks.ensures in
    let f = c.partition_point.ensures in
    bracket_at lv c.args.n p all c.requires e.front e.front_len _ f.bound
    (IsPartitionPoint-from_clause (λ (y : List ℕ). ltb (get_or y 0 0) p) (take c.args.n all) _ f.partitioned (rows_parted lv c.args.n p all c.requires e.front e.front_len) (λ a r f' k. search rules))
