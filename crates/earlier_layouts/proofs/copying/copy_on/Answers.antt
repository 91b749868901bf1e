use Rattle.tree_table.specs.InTrees.{work_in}
use Rattle.earlier_layouts.proofs.Tables.{left_works}
use Rattle.earlier_layouts.proofs.copying.copy_on.Goals as goal

pub returns-clause-works : goal.returns-clause-works
returns-clause-works g c =
    left_works c.args.slot c.args.text.items (g.P.Pages.store c.args.store) c.requires.sized.few c.requires.holds
    (work_in c.table_on-tree.result) (work_in c.copy_table.new.to) c.table_on-tree.ensures.work _ c.in-Err.fault c.in-Err.ensures.left
