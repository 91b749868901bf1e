use Rattle.std.proofs.Common.{refl}
use Rattle.tree_file.specs.File.{file_of}
use Rattle.tree_table.specs.InTrees.{work_in}
use Rattle.tree_file.specs.lemmas.Backed.{IsBackedFile, backed_still}
use Rattle.tree_table.specs.lemmas.StandingTable.{works_still}
use Rattle.tree_file.proofs.Exits.{files_fail}
use Rattle.tree_file.proofs.working.TreeFileTable.packed.Goals as goal

pub invariant_of-self : goal.invariant_of-self
invariant_of-self g c =
    let self = c.args.self.now in
    let was : IsBackedFile g.row.LAYOUT self.commits (file_of (work_in self.table) self.game) = record
    { of_layout = self.of_layout; counted = self.counted; sized = self.sized; sealed = self.sealed; stands = self.stands } in
    let is = backed_still g.row.LAYOUT self.commits (file_of (work_in self.table) self.game) (file_of (work_in c.packed.new.self) self.game) was
    (works_still c.packed.ensures.read.stays.works) c.packed.ensures.read.stays.text refl in
    record { of_layout = is.of_layout; counted = is.counted; sized = is.sized; sealed = is.sealed; stands = is.stands }

pub returns-clause-fault : goal.returns-clause-fault
returns-clause-fault g c = files_fail c.packed.result (work_in c.args.self.now.table) (work_in c.packed.new.self) c.args.self.now.game c.packed.ensures.fault
