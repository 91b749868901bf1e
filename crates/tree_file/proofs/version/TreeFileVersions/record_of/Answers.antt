use Rattle.std.proofs.Common.{refl}
use Rattle.tree_table.specs.InTrees.{work_in}
use Rattle.tree_table.specs.lemmas.StandingTable.{works_still}
use Rattle.tree_file.specs.File.{file_of}
use Rattle.tree_file.specs.InFile.{file_in}
use Rattle.tree_file.specs.lemmas.Backed.{IsBackedFile, backed_still}
use Rattle.tree_file.specs.lemmas.Frames.{stays_here}
use Rattle.tree_file.proofs.Versions.{read_faulted, read_not}
use Rattle.tree_file.proofs.version.TreeFileVersions.record_of.Goals as goal

pub returns-then-number-version-clause-stays : goal.returns-then-number-version-clause-stays
returns-then-number-version-clause-stays g c = stays_here (file_in c.args.self.now)

pub invariant_of-self : goal.invariant_of-self
invariant_of-self g c =
    let self = c.args.self.now in
    let was : IsBackedFile g.row.LAYOUT self.commits (file_of (work_in self.table) self.game) = record
    { of_layout = self.of_layout; counted = self.counted; sized = self.sized; sealed = self.sealed; stands = self.stands } in
    let is = backed_still g.row.LAYOUT self.commits (file_of (work_in self.table) self.game) (file_of (work_in c.kept_record.new.self) self.game) was
    (works_still c.kept_record.ensures.stays.works) c.kept_record.ensures.stays.text refl in
    record { of_layout = is.of_layout; counted = is.counted; sized = is.sized; sealed = is.sealed; stands = is.stands }

pub returns-clause-record : goal.returns-clause-record
returns-clause-record g c = λ honest table it. c.kept_record.ensures.«record» honest c.args.version.now.hold.place table it

pub returns-clause-cause : goal.returns-clause-cause
returns-clause-cause g c = λ table it low.
    let self = c.args.self.now in
    read_not c.args.version.now.hold.place c.args.version.now.slot table (file_of (work_in self.table) self.game)
    (file_of (work_in c.kept_record.new.self) self.game) it
    c.kept_record.result c.kept_record.ensures.cause

pub returns-clause-fault : goal.returns-clause-fault
returns-clause-fault g c =
    let self = c.args.self.now in
    read_faulted c.args.version.now.slot (file_of (work_in self.table) self.game) (file_of (work_in c.kept_record.new.self) self.game)
    c.kept_record.result c.kept_record.ensures.cause
