use Rattle.std.proofs.Common.{◌∙◌, ap, sym, subst}
use Rattle.page_store.specs.Store.{Store}
use Rattle.tree_table.specs.WorkTable.{Work}
use Rattle.tree_file.specs.File.{file_of}
use Rattle.tree_file.specs.lemmas.Backed.{IsBackedFile}
use Rattle.tree_file.proofs.Creation.{back_found}
use Rattle.tree_file.specs.lemmas.Opened.{IsFileRead}
use Rattle.tree_file.proofs.OpenedFile.{cut_store, file_read, found_backed, not_opened, read_cause, root_cause}
use Rattle.tree_file.proofs.SealedStore.{found_stands}
use Rattle.tree_file.proofs.file.TreeFile.read.Goals as goal

pub returns-in-Err-read_root-clause-refused : goal.returns-in-Err-read_root-clause-refused
returns-in-Err-read_root-clause-refused g c =
    let same = c.in-Err-read_root.ensures.kept in
    back_found _ _ (g.P.Pages.store c.in-Ok.store) _ _ c.in-Ok.ensures.ok (c.give_back.ensures.disk ∙ ap (λ (s : Store). s.disk) same)
    (c.give_back.ensures.failures ∙ ap (λ (s : Store). s.failures) same)

pub returns-in-Err-read_root-clause-cause : goal.returns-in-Err-read_root-clause-cause
returns-in-Err-read_root-clause-cause g c =
    root_cause g.row.LAYOUT _ _ (g.P.Pages.store c.in-Ok.store) _ c.in-Err-read_root.fault c.in-Ok.ensures.ok c.in-Err-read_root.ensures.cause

pub standing-requires-clause-stands : goal.standing-requires-clause-stands
standing-requires-clause-stands g c = λ honest. ∣ found_stands _ _ _ _ c.in-Ok-read_all.ensures.found honest ∣₁

pub invariant_of-result : goal.invariant_of-result
invariant_of-result g c =
    let at_first = cut_store g.row.LAYOUT c.in-Ok-read_root.slot _ _ (g.P.Pages.store c.in-Ok.store) (g.P.Pages.store c.read_root.new.store) c.in-Ok.ensures.ok
    (g.met.P.Pages.sound c.in-Ok.store) c.in-Ok-read_root.ensures.read in
    let slot = c.in-Ok-read_root.slot in
    let is = subst (λ (w : Work). IsBackedFile g.row.LAYOUT slot.commits (file_of w slot.game)) (sym c.standing.ensures.work)
    (found_backed g.row.LAYOUT _ _ _ _ at_first c.read_all.ensures.on _ _ _ c.in-Ok-read_all.ensures.found) in
    record { counted = is.counted; sized = is.sized; sealed = is.sealed; of_layout = is.of_layout; stands = is.stands }

pub returns-in-Ok-read_all-clause-ok : goal.returns-in-Ok-read_all-clause-ok
returns-in-Ok-read_all-clause-ok g c =
    let at_first = cut_store g.row.LAYOUT c.in-Ok-read_root.slot _ _ (g.P.Pages.store c.in-Ok.store) (g.P.Pages.store c.read_root.new.store) c.in-Ok.ensures.ok
    (g.met.P.Pages.sound c.in-Ok.store) c.in-Ok-read_root.ensures.read in
    let slot = c.in-Ok-read_root.slot in
    subst (λ (w : Work). IsFileRead g.row.LAYOUT (g.P.Device.SectorDisk.disk c.args.disk) (g.P.Device.SectorDisk.failures c.args.disk) (file_of w slot.game))
    (sym c.standing.ensures.work)
    (file_read g.row.LAYOUT _ _ _ _ at_first c.read_all.ensures.on _ _ _ c.in-Ok-read_all.ensures.found (g.met.P.Pages.sound c.read_all.new.store))

pub returns-in-Err-read_all-clause-refused : goal.returns-in-Err-read_all-clause-refused
returns-in-Err-read_all-clause-refused g c =
    let at_first = cut_store g.row.LAYOUT c.in-Ok-read_root.slot _ _ (g.P.Pages.store c.in-Ok.store) (g.P.Pages.store c.read_root.new.store) c.in-Ok.ensures.ok
    (g.met.P.Pages.sound c.in-Ok.store) c.in-Ok-read_root.ensures.read in
    not_opened g.row.LAYOUT _ _ _ _ at_first c.read_all.ensures.on _ _ c.give_back-in-Err-read_all.ensures.disk c.give_back-in-Err-read_all.ensures.failures

pub returns-in-Err-read_all-clause-cause : goal.returns-in-Err-read_all-clause-cause
returns-in-Err-read_all-clause-cause g c =
    let at_first = cut_store g.row.LAYOUT c.in-Ok-read_root.slot _ _ (g.P.Pages.store c.in-Ok.store) (g.P.Pages.store c.read_root.new.store) c.in-Ok.ensures.ok
    (g.met.P.Pages.sound c.in-Ok.store) c.in-Ok-read_root.ensures.read in
    rw c.give_back-in-Err-read_all.ensures.failures
    (read_cause g.row.LAYOUT _ _ _ _ at_first c.read_all.ensures.on c.in-Err-read_all.fault c.in-Err-read_all.ensures.cause)
