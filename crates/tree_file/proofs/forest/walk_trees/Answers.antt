use Rattle.page_store.specs.lemmas.Frames.{marks_then}
use Rattle.tree_file.proofs.Forests.{first_fails, second_fails, third_fails, fourth_fails, four_walked}
use Rattle.tree_file.specs.lemmas.MarkedPages.{honest_after}
use Rattle.tree_file.proofs.ForestExits.{if_err, on_ok, passed_on}
use Rattle.tree_file.proofs.forest.walk_trees.Goals as goal

pub returns-in_err-walk_tree-clause-cause : goal.returns-in_err-walk_tree-clause-cause
returns-in_err-walk_tree-clause-cause g c =
    passed_on _ c.from_residual.result _ c.from_residual.ensures
    (first_fails c.args.slot.now (g.P.Pages.store c.args.store.now) (g.P.Pages.store c.walk_tree.new.store) c.in_err-walk_tree.field-0.0
    c.in_err-walk_tree.ensures.cause)

pub returns-in_err-walk_tree-2-clause-cause : goal.returns-in_err-walk_tree-2-clause-cause
returns-in_err-walk_tree-2-clause-cause g c =
    passed_on _ c.from_residual-in_err-walk_tree-2.result _ c.from_residual-in_err-walk_tree-2.ensures
    (second_fails c.args.slot.now (g.P.Pages.store c.args.store.now) (g.P.Pages.store c.walk_tree.new.store) (g.P.Pages.store c.walk_tree-2.new.store)
    c.walk_tree.ensures.only c.in_ok-walk_tree.ensures.tree c.in_err-walk_tree-2.field-0.0 c.in_err-walk_tree-2.ensures.cause)

pub returns-in_err-walk_tree-2-clause-only : goal.returns-in_err-walk_tree-2-clause-only
returns-in_err-walk_tree-2-clause-only g c = marks_then c.walk_tree.ensures.only c.walk_tree-2.ensures.only

pub returns-in_err-walk_tree-3-clause-only : goal.returns-in_err-walk_tree-3-clause-only
returns-in_err-walk_tree-3-clause-only g c = marks_then (marks_then c.walk_tree.ensures.only c.walk_tree-2.ensures.only) c.walk_tree-3.ensures.only

pub returns-in_err-walk_tree-3-clause-cause : goal.returns-in_err-walk_tree-3-clause-cause
returns-in_err-walk_tree-3-clause-cause g c =
    passed_on _ c.from_residual-in_err-walk_tree-3.result _ c.from_residual-in_err-walk_tree-3.ensures
    (third_fails c.args.slot.now (g.P.Pages.store c.args.store.now) (g.P.Pages.store c.walk_tree.new.store) (g.P.Pages.store c.walk_tree-2.new.store)
    (g.P.Pages.store c.walk_tree-3.new.store)
    c.walk_tree.ensures.only c.walk_tree-2.ensures.only c.in_ok-walk_tree.ensures.tree c.in_ok-walk_tree-2.ensures.tree
    c.in_err-walk_tree-3.field-0.0 c.in_err-walk_tree-3.ensures.cause)

pub returns-clause-trees : goal.returns-clause-trees
returns-clause-trees g c = λ honest.
    on_ok _ _ c.walk_tree-4.result
    (λ four. four_walked c.args.slot.now (g.P.Pages.store c.args.store.now) (g.P.Pages.store c.walk_tree.new.store)
    (g.P.Pages.store c.walk_tree-2.new.store) (g.P.Pages.store c.walk_tree-3.new.store) (g.P.Pages.store c.walk_tree-4.new.store) honest
    c.walk_tree.ensures.only c.walk_tree-2.ensures.only c.walk_tree-3.ensures.only c.walk_tree-4.ensures.only
    c.in_ok-walk_tree.ensures.tree c.in_ok-walk_tree-2.ensures.tree c.in_ok-walk_tree-3.ensures.tree (λ there. four))
    (c.walk_tree-4.ensures.tree
    (honest_after (marks_then (marks_then c.walk_tree.ensures.only c.walk_tree-2.ensures.only) c.walk_tree-3.ensures.only) honest))

pub returns-clause-only : goal.returns-clause-only
returns-clause-only g c =
    marks_then (marks_then (marks_then c.walk_tree.ensures.only c.walk_tree-2.ensures.only) c.walk_tree-3.ensures.only) c.walk_tree-4.ensures.only

pub returns-clause-cause : goal.returns-clause-cause
returns-clause-cause g c =
    if_err _ _ c.walk_tree-4.result
    (fourth_fails c.args.slot.now (g.P.Pages.store c.args.store.now) (g.P.Pages.store c.walk_tree.new.store) (g.P.Pages.store c.walk_tree-2.new.store)
    (g.P.Pages.store c.walk_tree-3.new.store) (g.P.Pages.store c.walk_tree-4.new.store)
    c.walk_tree.ensures.only c.walk_tree-2.ensures.only c.walk_tree-3.ensures.only c.in_ok-walk_tree.ensures.tree c.in_ok-walk_tree-2.ensures.tree
    c.in_ok-walk_tree-3.ensures.tree)
    c.walk_tree-4.ensures.cause
