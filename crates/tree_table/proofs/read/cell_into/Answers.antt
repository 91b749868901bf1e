use Rattle.std.proofs.Common.{◌∙◌, ℕ, List, ap, subst}
use Rattle.game_file.specs.Bytes.{IsCell}
use Rattle.retrograde.specs.declared.records.Record.{Record}
use Rattle.btree.specs.Entries.{find_entry}
use Rattle.tree_table.specs.declared.tree.Tree.TheVariants.{Records}
use Rattle.tree_table.specs.Causes.{IsNoForest, IsNoTable}
use Rattle.tree_table.proofs.Faults.{passed_on, read_for}
use Rattle.tree_table.proofs.Found.{filled, unfilled}
use Rattle.tree_table.proofs.TableReads.{cell_is, cell_absent, cell_broken}
use Rattle.tree_table.proofs.read.cell_into.Goals as goal

pub returns-in_err-found-clause-cause : goal.returns-in_err-found-clause-cause
returns-in_err-found-clause-cause g c =
    passed_on _ c.from_residual.result _ c.from_residual.ensures
    (read_for IsNoForest IsNoTable c.args.slot.now (g.P.Pages.store c.args.store.now) (g.P.Pages.store c.value_into.new.store) _
    (λ none honest text table h. none honest text h.entries h.forest)
    c.in_err-found.ensures.cause)

pub returns-then-not-found-clause-cause : goal.returns-then-not-found-clause-cause
returns-then-not-found-clause-cause g c = λ honest text table h.
    cell_absent c.args.slot.now text table (g.P.Pages.store c.args.store.now) h c.args.number c.requires.known
    (unfilled _ _ _ c.if-not-found.true
    (c.in_ok-found.ensures.found honest text h.entries h.forest ∙ ap (find_entry (h.entries Records)) (c.number_key-key.ensures)))

pub returns-else-fill_cell-clause-cause : goal.returns-else-fill_cell-clause-cause
returns-else-fill_cell-clause-cause g c = λ honest text table h.
    cell_broken c.args.slot.now text table (g.P.Pages.store c.args.store.now) h c.args.number c.value_into.new.into.items c.requires.known
    (filled _ _ _ c.if-not-found.false
    (c.in_ok-found.ensures.found honest text h.entries h.forest ∙ ap (find_entry (h.entries Records)) (c.number_key-key.ensures)))
    (subst (λ (b : List ℕ). (cell : List ℕ × Record) → IsCell c.args.slot.now.sizes.packed b cell → ⊥) c.deref.ensures.0
    (c.fill_cell.ensures.none c.if-fill_cell.false))

pub returns-then-fill_cell-clause-cell : goal.returns-then-fill_cell-clause-cell
returns-then-fill_cell-clause-cell g c =
    let slot = c.args.slot.now in
    let cell = c.fill_cell.new.into in
    let is = subst (λ (b : List ℕ). IsCell slot.sizes.packed b (cell.position.items, cell.kept)) c.deref.ensures.0
    (c.fill_cell.ensures.filled c.if-fill_cell.true) in
    cell_is slot (g.P.Pages.store c.args.store.now) c.args.number c.value_into.new.into.items cell c.requires.known
    (λ honest text table h. filled _ _ _ c.if-not-found.false (c.in_ok-found.ensures.found honest text h.entries h.forest
    ∙ ap (find_entry (h.entries Records)) (c.number_key-key.ensures))) is
