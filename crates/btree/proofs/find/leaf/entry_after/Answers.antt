use Rattle.std.proofs.Common.{drop, arith}
use Rattle.btree.specs.Page.{count_in}
use Rattle.btree.proofs.finds.Leaves.{leaf_after, leaf_ends}
use Rattle.btree.proofs.find.leaf.entry_after.Goals as goal

pub returns-then-place-count_of-clause-next : goal.returns-then-place-count_of-clause-next
returns-then-place-count_of-clause-next c =
    leaf_after _ c.args.key.now _ _ _ _ c.place_of-place.result c.place_of-place.ensures.place c.item_at.ensures.got c.fill.ensures c.fill-then-place-count_of.ensures

pub returns-else-place-count_of-clause-next : goal.returns-else-place-count_of-clause-next
returns-else-place-count_of-clause-next c =
    leaf_ends c.args.widths.key c.args.widths.value (count_in c.args.leaf.now) (drop 4 c.args.leaf.now) c.args.key.now c.place_of-place.result
    (omega (arith, c.if-place-count_of.false, c.count_of.ensures)) c.place_of-place.ensures.place
