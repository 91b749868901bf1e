use Rattle.std.proofs.Common.{sym, subst, arith}
use Rattle.tree_table.specs.declared.tree.Tree.TheVariants.{Edges}
use Rattle.tree_file.specs.lemmas.One.{EdgesAre, TreeCause}
use Rattle.tree_file.specs.lemmas.Told.{AreTallied, IsNoEdge}
use Rattle.tree_file.proofs.Told.{edges_are, not_refused, other_many, tally_none, too_high}
use Rattle.tree_file.proofs.Walks.{walk_fails, unlike, alike}
use Rattle.tree_file.proofs.one.walk_edges.Goals as goal
use Rattle.tree_file.proofs.one.walk_edges.Goals.{else-told-wanted-via-then-told-wanted+else-told-from, else-told-wanted-via-else-told-wanted}

pub returns-in-Err-clause-cause : goal.returns-in-Err-clause-cause
returns-in-Err-clause-cause g c =
    subst (TreeCause c.args.slot.now Edges (EdgesAre c.args.wanted c.args.known) (g.P.Pages.store c.args.store.now) (g.P.Pages.store c.walk.new.store))
    (sym c.page_fault.ensures)
    (walk_fails c.args.slot.now Edges c.widths_of-widths.result c.root.result c.widths_of-widths.ensures.keys c.widths_of-widths.ensures.values c.root.ensures
    (g.P.Pages.store c.args.store.now) (g.P.Pages.store c.walk.new.store) (EdgesAre c.args.wanted c.args.known) IsNoEdge (AreTallied 0 0) tally_none
    (λ front back entry refused such. not_refused front back entry c.args.wanted c.args.known c.ranges.wanted.fits refused such) c.in-Err.fault
    c.in-Err.ensures.cause)

pub returns-then-told-from-clause-tree : goal.returns-then-told-from-clause-tree
returns-then-told-from-clause-tree g c = λ honest.
    alike c.args.slot.now Edges c.widths_of-widths.result c.root.result c.widths_of-widths.ensures.keys c.widths_of-widths.ensures.values c.root.ensures
    (g.P.Pages.store c.args.store.now) (g.P.Pages.store c.walk.new.store) (EdgesAre c.args.wanted c.args.known) (AreTallied 0 0)
    (AreTallied c.walk.new.visitor.count c.walk.new.visitor.above) tally_none
    (c.in_default.ensures.map honest)
    (edges_are c.walk.new.visitor.count c.walk.new.visitor.above c.args.wanted c.args.known c.ranges.known.fits c.if-told-wanted.true
    (omega (arith, c.if-told-from.true, c.from.ensures)))

pub returns-else-told-wanted-clause-cause : goal.returns-else-told-wanted-clause-cause
returns-else-told-wanted-clause-cause g c = λ honest.
    unlike c.args.slot.now Edges c.widths_of-widths.result c.root.result c.widths_of-widths.ensures.keys c.widths_of-widths.ensures.values c.root.ensures
    (g.P.Pages.store c.args.store.now) (g.P.Pages.store c.walk.new.store) (EdgesAre c.args.wanted c.args.known) (AreTallied 0 0)
    (AreTallied c.walk.new.visitor.count c.walk.new.visitor.above) tally_none
    (c.in_default.ensures.map honest)
    (λ es told such. elim c.else-told-wanted.branch [
      | else-told-wanted-via-then-told-wanted+else-told-from w ↦ too_high c.walk.new.visitor.count c.walk.new.visitor.above c.args.wanted c.args.known
          c.ranges.known.fits (omega (arith, w.if-told-from.false, w.from.ensures)) es told such
      | else-told-wanted-via-else-told-wanted w ↦ other_many c.walk.new.visitor.count c.walk.new.visitor.above c.args.wanted c.args.known
          w.if-told-wanted.false es told such
    ])
