use Rattle.std.proofs.Common.{◌∙◌, ap}
use Rattle.btree.specs.Entries.{find_entry}
use Rattle.tree_table.specs.declared.tree.Tree.TheVariants.{Records}
use Rattle.tree_table.specs.Causes.{IsNoForest, IsNoTable}
use Rattle.tree_table.specs.lemmas.Readers.{value_there, value_absent}
use Rattle.tree_table.proofs.Faults.{passed_on, read_for}
use Rattle.tree_table.proofs.TableReads.{cell_is, cell_absent, cell_broken}
use Rattle.tree_table.proofs.read.cell_by.Goals as goal

pub returns-in_err-find_key-clause-cause : goal.returns-in_err-find_key-clause-cause
returns-in_err-find_key-clause-cause g c =
    passed_on _ c.from_residual.result _ c.from_residual.ensures
    (read_for IsNoForest IsNoTable c.args.slot.now (g.P.Pages.store c.args.store.now) (g.P.Pages.store c.find_key.new.store) _
    (λ none honest text table h. none honest text h.entries h.forest)
    (c.in_err-find_key.ensures.cause c.args.slot.now Records c.requires.of))

pub returns-then-not-branch-clause-cause : goal.returns-then-not-branch-clause-cause
returns-then-not-branch-clause-cause g c = λ honest text table h.
    cell_absent c.args.slot.now text table (g.P.Pages.store c.args.store.now) h c.args.number c.requires.known
    (value_absent c.find_key.new.reader c.in_ok-find_key.field-0 _ c.if-not-branch.true
    (c.in_ok-find_key.ensures.found c.args.slot.now Records c.requires.of honest text h.entries h.forest
    ∙ ap (find_entry (h.entries Records)) c.number_key.ensures))

pub returns-else-fill_cell-clause-cause : goal.returns-else-fill_cell-clause-cause
returns-else-fill_cell-clause-cause g c = λ honest text table h.
    cell_broken c.args.slot.now text table (g.P.Pages.store c.args.store.now) h c.args.number c.value.result.now c.requires.known
    (value_there c.find_key.new.reader c.in_ok-find_key.field-0 c.value.result.now _ c.if-not-branch.false c.value.ensures
    (c.in_ok-find_key.ensures.found c.args.slot.now Records c.requires.of honest text h.entries h.forest
    ∙ ap (find_entry (h.entries Records)) c.number_key.ensures))
    (c.fill_cell.ensures.none c.if-fill_cell.false)

pub returns-in_err-find_key-clause-near : goal.returns-in_err-find_key-clause-near
returns-in_err-find_key-clause-near g c = (c.find_key.ensures.reader.of c.args.slot.now Records c.requires.of, c.find_key.ensures.reader.reading)

pub returns-then-not-branch-clause-near : goal.returns-then-not-branch-clause-near
returns-then-not-branch-clause-near g c = (c.find_key.ensures.reader.of c.args.slot.now Records c.requires.of, c.find_key.ensures.reader.reading)

pub returns-then-fill_cell-clause-near : goal.returns-then-fill_cell-clause-near
returns-then-fill_cell-clause-near g c = (c.find_key.ensures.reader.of c.args.slot.now Records c.requires.of, c.find_key.ensures.reader.reading)

pub returns-else-fill_cell-clause-near : goal.returns-else-fill_cell-clause-near
returns-else-fill_cell-clause-near g c = (c.find_key.ensures.reader.of c.args.slot.now Records c.requires.of, c.find_key.ensures.reader.reading)

pub returns-then-fill_cell-clause-cell : goal.returns-then-fill_cell-clause-cell
returns-then-fill_cell-clause-cell g c =
    let slot = c.args.slot.now in
    let cell = c.fill_cell.new.into in
    cell_is slot (g.P.Pages.store c.args.store.now) c.args.number c.value.result.now cell c.requires.known
    (λ honest text table h. value_there c.find_key.new.reader c.in_ok-find_key.field-0 c.value.result.now _ c.if-not-branch.false c.value.ensures
    (c.in_ok-find_key.ensures.found slot Records c.requires.of honest text h.entries h.forest ∙ ap (find_entry (h.entries Records)) c.number_key.ensures))
    (c.fill_cell.ensures.filled c.if-fill_cell.true)
