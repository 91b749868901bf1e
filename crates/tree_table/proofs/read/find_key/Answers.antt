use Rattle.std.proofs.Common.{sym, subst}
use Rattle.table.specs.declared.fault.TableFault.{TableFault}
use Rattle.tree_table.specs.Causes.{IsNoForest, ReadCause}
use Rattle.tree_table.proofs.Forests.{map_in, read_fails}
use Rattle.tree_table.proofs.read.find_key.Goals as goal

pub returns-in-Ok-clause-found : goal.returns-in-Ok-clause-found
returns-in-Ok-clause-found g c = λ slot tree is honest text entries h.
    c.in-Ok.ensures.found honest (h.pages tree) (entries tree)
    (map_in slot text entries (g.P.Pages.store c.args.store.now) c.args.reader.now.widths tree c.args.reader.now.root is.keys is.values is.root h)

pub returns-in-Err-clause-cause : goal.returns-in-Err-clause-cause
returns-in-Err-clause-cause g c = λ slot tree is.
    subst (λ (f : TableFault). ReadCause IsNoForest slot (g.P.Pages.store c.args.store.now) (g.P.Pages.store c.find.new.store) f) (sym c.table_fault.ensures)
    (read_fails slot (g.P.Pages.store c.args.store.now) (g.P.Pages.store c.find.new.store) c.args.reader.now.widths tree c.args.reader.now.root _
    is.keys is.values is.root c.in-Err.ensures.cause)
