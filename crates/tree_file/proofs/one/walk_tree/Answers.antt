use Rattle.tree_table.specs.declared.tree.Tree.TheVariants.{Positions, Records, Edges, Order}
use Rattle.tree_file.proofs.Walks.{as_tree, as_count}
use Rattle.tree_file.proofs.one.walk_tree.Goals as goal

pub returns-in-Positions-clause-cause : goal.returns-in-Positions-clause-cause
returns-in-Positions-clause-cause g c =
    as_tree c.args.slot.now c.args.tree Positions (g.P.Pages.store c.args.store.now) (g.P.Pages.store c.walk_counted.new.store) c.walk_counted.result
    c.in-Positions.is
    (as_count c.args.slot.now Positions (g.P.Pages.store c.args.store.now) (g.P.Pages.store c.walk_counted.new.store) c.walk_counted.result _ _
    c.from.ensures c.walk_counted.ensures.cause)

pub returns-in-Records-clause-cause : goal.returns-in-Records-clause-cause
returns-in-Records-clause-cause g c =
    as_tree c.args.slot.now c.args.tree Records (g.P.Pages.store c.args.store.now) (g.P.Pages.store c.walk_counted-in-Records.new.store)
    c.walk_counted-in-Records.result c.in-Records.is
    (as_count c.args.slot.now Records (g.P.Pages.store c.args.store.now) (g.P.Pages.store c.walk_counted-in-Records.new.store)
    c.walk_counted-in-Records.result _ _
    c.from-in-Records.ensures c.walk_counted-in-Records.ensures.cause)

pub returns-in-Edges-clause-cause : goal.returns-in-Edges-clause-cause
returns-in-Edges-clause-cause g c =
    as_tree c.args.slot.now c.args.tree Edges (g.P.Pages.store c.args.store.now) (g.P.Pages.store c.walk_edges.new.store) c.walk_edges.result c.in-Edges.is
    c.walk_edges.ensures.cause

pub returns-in-Order-clause-cause : goal.returns-in-Order-clause-cause
returns-in-Order-clause-cause g c =
    as_tree c.args.slot.now c.args.tree Order (g.P.Pages.store c.args.store.now) (g.P.Pages.store c.walk_counted-in-Order.new.store)
    c.walk_counted-in-Order.result c.in-Order.is
    (as_count c.args.slot.now Order (g.P.Pages.store c.args.store.now) (g.P.Pages.store c.walk_counted-in-Order.new.store) c.walk_counted-in-Order.result _ _
    c.from-in-Order.ensures c.walk_counted-in-Order.ensures.cause)
