use Rattle.std.proofs.Common.{arith, drop}
use Rattle.btree.specs.lemmas.Items.{length-items}
use Rattle.btree.specs.Page.{count_in}
use Rattle.btree.proofs.walks.Exits.{passed_on}
use Rattle.btree.proofs.walks.Visits.{tell_fails, told_all, told_more}
use Rattle.btree.proofs.walk.leaf.tell_leaf.Goals as goal

pub returns-in_err-tell-clause-cause : goal.returns-in_err-tell-clause-cause
returns-in_err-tell-clause-cause g c =
    passed_on _ c.from_residual.result _ c.from_residual.ensures
    (tell_fails _ c.loop-place.place
    (c.item_at.result.0.now, c.item_at.result.1.now) _ _ _ _ c.loop-place.invariant c.item_at.ensures.got _ _ c.in_err-tell.ensures.cause)

pub loop-place-preserved : goal.loop-place-preserved
loop-place-preserved g c =
    told_more _ c.loop-place.place (
      c.item_at.result.0.now,
      c.item_at.result.1.now,
    ) _ _ _ _ c.loop-place.invariant c.item_at.ensures.got _ _ c.in_ok-tell.ensures.told

pub returns-clause-told : goal.returns-clause-told
returns-clause-told g c =
    told_all _ c.loop-place.place _ _ _ _
    (let long = length-items c.args.widths.key c.args.widths.value (count_in c.args.leaf.now) (drop 4 c.args.leaf.now) in
    omega (arith, long, c.loop-place-test.false, c.count_of-place-end.ensures))
    c.loop-place.invariant
