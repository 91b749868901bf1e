use Rattle.std.proofs.Common.{take}
use Rattle.btree.specs.declared.page.kind.Kind.TheVariants.{Leaf}
use Rattle.btree.specs.Page.{items_in}
use Rattle.btree.specs.lemmas.Visits.{HasVisited}
use Rattle.btree.proofs.walk.leaf.tell_leaf.Given as goal

abbrev pub invariant-loop-place : goal.invariant-loop-place
invariant-loop-place g l = HasVisited (take l.place (items_in l.widths Leaf l.leaf)) l.fn.last.items l.last.items
    (g.V.Visitor.told l.fn.visitor) (g.V.Visitor.told l.visitor)
