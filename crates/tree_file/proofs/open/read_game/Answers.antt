use Rattle.page_store.specs.lemmas.Frames.{marks_read, marks_then}
use Rattle.std.proofs.Common.{refl}
use Rattle.tree_file.proofs.FoundGame.{chain_cause, forest_cause, entries_cause, table_read}
use Rattle.page_store.specs.lemmas.Frames.{passed_on}
use Rattle.tree_file.proofs.open.read_game.Goals as goal

pub returns-in_err-chain-clause-cause : goal.returns-in_err-chain-clause-cause
returns-in_err-chain-clause-cause g c =
    passed_on _ c.from_residual.result _ c.from_residual.ensures
    (chain_cause (g.P.Pages.store c.args.store.now) c.args.slot.now c.requires (g.P.Pages.store c.read_chain.new.store) _ _ refl c.in_err-chain.ensures.cause)

pub returns-in_err-walk_trees-clause-only : goal.returns-in_err-walk_trees-clause-only
returns-in_err-walk_trees-clause-only g c =
    marks_then c.read_chain.ensures.only c.walk_trees.ensures.only

pub returns-in_err-walk_trees-clause-cause : goal.returns-in_err-walk_trees-clause-cause
returns-in_err-walk_trees-clause-cause g c =
    let is = c.in_ok-chain.ensures.ok in
    passed_on _ c.from_residual-in_err-walk_trees.result _ c.from_residual-in_err-walk_trees.ensures
    (forest_cause (g.P.Pages.store c.args.store.now) c.args.slot.now c.requires (g.P.Pages.store c.read_chain.new.store) c.in_ok-chain.chain.pages.items
    c.in_ok-chain.chain.content.items
    c.read_chain.ensures.only
    is.chain is.long is.marked is.kept (g.P.Pages.store c.walk_trees.new.store) _ c.in_err-walk_trees.ensures.cause)

pub returns-in_err-check_entries-clause-only : goal.returns-in_err-check_entries-clause-only
returns-in_err-check_entries-clause-only g c =
    marks_then c.read_chain.ensures.only
    (marks_then c.walk_trees.ensures.only (marks_read c.check_entries.ensures.read.works c.check_entries.ensures.read.unchanged))

pub returns-in_err-check_entries-clause-cause : goal.returns-in_err-check_entries-clause-cause
returns-in_err-check_entries-clause-cause g c =
    let is = c.in_ok-chain.ensures.ok in
    passed_on _ c.from_residual-in_err-check_entries.result _ c.from_residual-in_err-check_entries.ensures
    (entries_cause (g.P.Pages.store c.args.store.now) c.args.slot.now c.requires (g.P.Pages.store c.read_chain.new.store) c.in_ok-chain.chain.pages.items
    c.in_ok-chain.chain.content.items
    c.read_chain.ensures.only
    is.chain is.long is.marked is.kept (g.P.Pages.store c.walk_trees.new.store) c.walk_trees.ensures.only c.in_ok-walk_trees.ensures.trees
    (g.P.Pages.store c.check_entries.new.store) _ c.in_err-check_entries.ensures.cause)

pub returns-clause-only : goal.returns-clause-only
returns-clause-only g c =
    marks_then c.read_chain.ensures.only
    (marks_then c.walk_trees.ensures.only (marks_read c.check_entries.ensures.read.works c.check_entries.ensures.read.unchanged))

pub returns-clause-read : goal.returns-clause-read
returns-clause-read g c = λ honest.
    let is = c.in_ok-chain.ensures.ok in
    table_read (g.P.Pages.store c.args.store.now) c.args.slot.now c.requires (g.P.Pages.store c.read_chain.new.store) c.in_ok-chain.chain.pages.items
    c.in_ok-chain.chain.content.items
    c.read_chain.ensures.only
    is.chain is.long is.marked is.kept (g.P.Pages.store c.walk_trees.new.store) c.walk_trees.ensures.only c.in_ok-walk_trees.ensures.trees
    (g.P.Pages.store c.check_entries.new.store) c.check_entries.ensures.read.unchanged.marks c.in_ok-check_entries.ensures.table honest
