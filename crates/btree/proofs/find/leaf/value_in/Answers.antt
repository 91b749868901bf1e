use Rattle.std.proofs.lemmas.Bool.Decides.{Decides-eqb}
use Rattle.std.proofs.lemmas.Slice.Eq.{slice_eq-Decides}
use Rattle.btree.proofs.finds.Leaves.{leaf_begins, leaf_has, leaf_lacks}
use Rattle.btree.proofs.find.leaf.value_in.Goals as goal

pub returns-then-place-eq0 : goal.returns-then-place-eq0
returns-then-place-eq0 c = leaf_begins _ c.args.key.now c.place_of-place.result c.place_of-place.ensures.place c.if-place-eq0.true

pub returns-then-eq : goal.returns-then-eq
returns-then-eq c =
    leaf_has _ c.args.key.now c.item_at.result.0.now c.item_at.result.1.now c.place_of-place.result c.place_of-place.ensures.place c.if-place-eq0.false c.item_at.ensures.got c.fill.new.into.items
    ((slice_eq-Decides Decides-eqb _ _ _ c.eq.ensures).0 c.if-eq.true) c.fill.ensures

pub returns-else-eq : goal.returns-else-eq
returns-else-eq c =
    leaf_lacks _ c.args.key.now c.item_at.result.0.now c.item_at.result.1.now c.place_of-place.result c.place_of-place.ensures.place c.if-place-eq0.false c.item_at.ensures.got
    (λ same. let yes = (slice_eq-Decides Decides-eqb _ _ _ c.eq.ensures).1 same in let no = c.if-eq.false in cc)
