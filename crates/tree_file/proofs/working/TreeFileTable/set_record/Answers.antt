use Rattle.std.proofs.Common.{◌≡◌, refl}
use Rattle.page_store.specs.Store.{StoreWorks}
use Rattle.tree_file.specs.File.{file_of}
use Rattle.tree_table.specs.InTrees.{work_in}
use Rattle.tree_table.specs.WorkTable.{WorkGoesOn, WorkFails}
use Rattle.tree_file.specs.lemmas.Backed.{IsBackedFile, backed_still}
use Rattle.tree_file.proofs.Exits.{on_ok, either_way, files_fail}
use Rattle.tree_table.specs.lemmas.StandingTable.{works_still}
use Rattle.tree_file.proofs.working.TreeFileTable.set_record.Goals as goal

pub invariant_of-self : goal.invariant_of-self
invariant_of-self g c =
    let self = c.args.self.now in
    let old = work_in self.table in
    let new = work_in c.set_record.new.self in
    let was : IsBackedFile g.row.LAYOUT self.commits (file_of old self.game) = record
    { of_layout = self.of_layout; counted = self.counted; sized = self.sized; sealed = self.sealed; stands = self.stands } in
    let works = either_way {C = StoreWorks old.store new.store × (new.text ≡ old.text)} c.set_record.result (λ (a : WorkGoesOn old new). (a.works, a.text))
    (λ f (a : WorkFails old new f). (a.works, a.text))
    (on_ok _ (WorkGoesOn old new) c.set_record.result (λ wrote. wrote.ahead) c.set_record.ensures.wrote) c.set_record.ensures.fault in
    let is = backed_still g.row.LAYOUT self.commits (file_of old self.game) (file_of new self.game) was (works_still works.0) works.1 refl in
    record { of_layout = is.of_layout; counted = is.counted; sized = is.sized; sealed = is.sealed; stands = is.stands }

pub returns-clause-fault : goal.returns-clause-fault
returns-clause-fault g c = files_fail c.set_record.result (work_in c.args.self.now.table)
    (work_in c.set_record.new.self) c.args.self.now.game c.set_record.ensures.fault

pub returns-clause-wrote : goal.returns-clause-wrote
returns-clause-wrote g c =
    on_ok _ _ c.set_record.result
    (λ wrote. record { honest = wrote.honest; known = wrote.known; ahead = record { work = wrote.ahead; game = refl } }) c.set_record.ensures.wrote
