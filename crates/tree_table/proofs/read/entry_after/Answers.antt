use Rattle.std.proofs.Common.{sym, subst}
use Rattle.table.specs.declared.fault.TableFault.{TableFault}
use Rattle.tree_table.specs.Causes.{IsNoForest, ReadCause}
use Rattle.tree_table.proofs.Forests.{map_in, read_fails}
use Rattle.tree_table.proofs.read.entry_after.Goals as goal

pub returns-in-Ok-clause-found : goal.returns-in-Ok-clause-found
returns-in-Ok-clause-found g c = λ honest text entries h.
    c.in-Ok.ensures.found honest (h.pages c.args.tree) (entries c.args.tree)
    (map_in c.args.slot.now text entries (g.P.Pages.store c.args.store.now) c.widths_of-widths.result c.args.tree c.root.result c.widths_of-widths.ensures.keys c.widths_of-widths.ensures.values c.root.ensures h)

pub returns-in-Err-clause-cause : goal.returns-in-Err-clause-cause
returns-in-Err-clause-cause g c =
    subst (λ (f : TableFault). ReadCause IsNoForest c.args.slot.now (g.P.Pages.store c.args.store.now)
    (g.P.Pages.store c.next_into.new.store) f) (sym c.table_fault.ensures)
    (read_fails c.args.slot.now (g.P.Pages.store c.args.store.now) (g.P.Pages.store c.next_into.new.store) c.widths_of-widths.result c.args.tree c.root.result _
    c.widths_of-widths.ensures.keys c.widths_of-widths.ensures.values c.root.ensures c.in-Err.ensures.cause)
