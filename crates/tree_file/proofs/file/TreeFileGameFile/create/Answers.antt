use Rattle.std.proofs.Common.{◌/◌, ◌∙◌, ℕ, ap, sym, subst}
use Rattle.std.specs.Prelude.{min}
use Rattle.sector_disk.specs.lemmas.Moments.{still_honest}
use Rattle.game_file.specs.Fields.{commits_in}
use Rattle.game_file.specs.declared.fault.FileFault.{FileFault}
use Rattle.game_file.specs.Causes.{FileCreateCause}
use Rattle.tree_file.specs.InFile.{file_in}
use Rattle.tree_file.specs.File.{File, IsWholeFile, state_of}
use Rattle.game_file.specs.Calls.{IsOpenedFile}
use Rattle.tree_table.specs.Held.{StoresTrees}
use Rattle.std.proofs.lemmas.Result.{IfErr-weaker, IfOk-weaker}
use Rattle.tree_file.proofs.Creation.{both_ok, counts_none, create_cause, created, created_pages, empty_root, laid_down, never, not_created, not_laid, opened_back, why_not_laid}
use Rattle.tree_file.proofs.file.TreeFileGameFile.create.Goals as goal

pub returns-in-Err-read-clause-refused : goal.returns-in-Err-read-clause-refused
returns-in-Err-read-clause-refused g c =
    let made = c.in-Ok.ensures.ok in
    let went = c.in-Ok.ensures.left in
    let laid = laid_down went.time went.same_size made.room made.ok made.synced went.moments
    (λ honest begins. never (c.in-Ok.ensures.table honest begins).0) in
    let pages = c.room_for-pages.ensures ∙ ap (λ (n : ℕ). min (n / 8) 1048576) c.sectors.ensures in
    let slot = empty_root g.row.LAYOUT pages c.empty_slot.ensures in
    not_created g.row.LAYOUT _ slot _ _ _ went.failures laid _ _ c.in-Err-read.ensures.refused

pub returns-in-Err-read-clause-cause : goal.returns-in-Err-read-clause-cause
returns-in-Err-read-clause-cause g c =
    let made = c.in-Ok.ensures.ok in
    let went = c.in-Ok.ensures.left in
    let laid = laid_down went.time went.same_size made.room made.ok made.synced went.moments
    (λ honest begins. never (c.in-Ok.ensures.table honest begins).0) in
    let pages = c.room_for-pages.ensures ∙ ap (λ (n : ℕ). min (n / 8) 1048576) c.sectors.ensures in
    let slot = empty_root g.row.LAYOUT pages c.empty_slot.ensures in
    subst (λ (f : FileFault). FileCreateCause (g.P.Device.SectorDisk.disk c.args.disk) (g.P.Device.SectorDisk.failures c.args.disk)
    (g.P.Device.SectorDisk.failures c.in-Err-read.refused.disk) f) (sym c.of_new.ensures)
    (create_cause g.row.LAYOUT _ slot _ _ _ went.failures laid _ c.in-Err-read.refused.fault c.in-Err-read.ensures.cause)

pub returns-in-Err-clause-refused : goal.returns-in-Err-clause-refused
returns-in-Err-clause-refused g c =
    let told = c.in-Err.ensures.left in
    let pages = c.room_for-pages.ensures ∙ ap (λ (n : ℕ). min (n / 8) 1048576) c.sectors.ensures in
    let slot = empty_root g.row.LAYOUT pages c.empty_slot.ensures in
    not_laid g.row.LAYOUT _ _ _ _ slot told.time told.same_size told.failures told.moments (λ honest begins. (c.in-Err.ensures.table honest begins).1)

pub returns-in-Err-clause-cause : goal.returns-in-Err-clause-cause
returns-in-Err-clause-cause g c =
    subst (λ (f : FileFault). FileCreateCause (g.P.Device.SectorDisk.disk c.args.disk) (g.P.Device.SectorDisk.failures c.args.disk)
    (g.P.Device.SectorDisk.failures c.create.new.disk) f) (sym c.into.ensures)
    (why_not_laid (g.P.Device.SectorDisk.disk c.args.disk) (g.P.Device.SectorDisk.failures c.args.disk) (g.P.Device.SectorDisk.failures c.create.new.disk)
    c.in-Err.fault c.in-Err.ensures.err.fault)

pub returns-in-Ok-read-clause-whole : goal.returns-in-Ok-read-clause-whole
returns-in-Ok-read-clause-whole g c =
    IfOk-weaker c.with_pages.result _ _
    (λ t same. subst (λ (f : File). IsWholeFile g.row.LAYOUT f) (sym same) c.in-Ok-read.ensures.ok.whole) c.with_pages.ensures.file

pub returns-in-Ok-read-clause-ok : goal.returns-in-Ok-read-clause-ok
returns-in-Ok-read-clause-ok g c =
    let made = c.in-Ok.ensures.ok in
    let went = c.in-Ok.ensures.left in
    let laid = laid_down went.time went.same_size made.room made.ok made.synced went.moments
    (λ honest begins. never (c.in-Ok.ensures.table honest begins).0) in
    let pages = c.room_for-pages.ensures ∙ ap (λ (n : ℕ). min (n / 8) 1048576) c.sectors.ensures in
    let slot = empty_root g.row.LAYOUT pages c.empty_slot.ensures in
    both_ok c.with_pages.result _ _ _
    (λ t same many.
    created g.row.LAYOUT _ slot _ _ _ went.failures laid (state_of (file_in t)) (many ∙ pages)
    (λ honest.
    ap (λ (f : File). commits_in f.work.store.root) same
    ∙ counts_none _ _ laid honest (c.in-Ok-read.ensures.ok.root (still_honest laid.goes_on honest)) c.empty_slot.ensures.commits)
    (subst (λ (f : File). IsOpenedFile (StoresTrees g.row.LAYOUT) (g.P.Device.SectorDisk.disk c.create.new.disk)
    (g.P.Device.SectorDisk.failures c.create.new.disk)
    (state_of f)) (sym same) c.in-Ok-read.ensures.ok.opened)) c.with_pages.ensures.file c.with_pages.ensures.pages

pub returns-in-Ok-read-clause-refused : goal.returns-in-Ok-read-clause-refused
returns-in-Ok-read-clause-refused g c =
    let made = c.in-Ok.ensures.ok in
    let went = c.in-Ok.ensures.left in
    let laid = laid_down went.time went.same_size made.room made.ok made.synced went.moments
    (λ honest begins. never (c.in-Ok.ensures.table honest begins).0) in
    let pages = c.room_for-pages.ensures ∙ ap (λ (n : ℕ). min (n / 8) 1048576) c.sectors.ensures in
    let slot = empty_root g.row.LAYOUT pages c.empty_slot.ensures in
    IfErr-weaker c.with_pages.result _ _
    (λ back it.
    not_created g.row.LAYOUT _ slot _ _ _ went.failures laid _ _
    (opened_back g.row.LAYOUT _ slot _ (g.P.Device.SectorDisk.failures c.args.disk) _ went.failures laid
    (state_of (file_in c.in-Ok-read.file)) _ _ it.disk it.failures c.in-Ok-read.ensures.ok.opened))
    c.with_pages.ensures.err

pub returns-in-Ok-read-clause-cause : goal.returns-in-Ok-read-clause-cause
returns-in-Ok-read-clause-cause g c =
    let made = c.in-Ok.ensures.ok in
    let went = c.in-Ok.ensures.left in
    let laid = laid_down went.time went.same_size made.room made.ok made.synced went.moments
    (λ honest begins. never (c.in-Ok.ensures.table honest begins).0) in
    let pages = c.room_for-pages.ensures ∙ ap (λ (n : ℕ). min (n / 8) 1048576) c.sectors.ensures in
    let slot = empty_root g.row.LAYOUT pages c.empty_slot.ensures in
    IfErr-weaker c.with_pages.result _ _
    (λ back it.
    subst (λ (f : FileFault). FileCreateCause (g.P.Device.SectorDisk.disk c.args.disk) (g.P.Device.SectorDisk.failures c.args.disk)
    (g.P.Device.SectorDisk.failures back.disk) f) (sym it.fault)
    (λ honest.
    it.cause (created_pages g.row.LAYOUT _ slot _ (g.P.Device.SectorDisk.failures c.args.disk) _ went.failures laid
    (state_of (file_in c.in-Ok-read.file)) c.in-Ok-read.ensures.ok.opened c.in-Ok-read.ensures.ok.all honest ∙ sym pages)))
    c.with_pages.ensures.err
