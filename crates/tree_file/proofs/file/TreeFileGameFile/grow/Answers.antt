use Rattle.std.proofs.Common.{inl, inr, ◌≤◌, ◌<◌, length, refl, sym, ◌∙◌, ap, subst, arith}
use Rattle.page_store.specs.Store.{Store}
use Rattle.game_file.specs.declared.fault.FileFault.{FileFault}
use Rattle.game_file.specs.Faults.{of_pages}
use Rattle.game_file.specs.Growth.{FileGrowCause}
use Rattle.game_file.specs.State.{count_behind}
use Rattle.game_file.specs.lemmas.Growth.{asked_not_grown}
use Rattle.game_file.specs.Fields.{commits_in}
use Rattle.tree_table.specs.Held.{StoresTrees}
use Rattle.tree_table.specs.InTrees.{work_in}
use Rattle.tree_table.specs.lemmas.StandingTable.{still_then}
use Rattle.tree_table.specs.lemmas.Versions.{grows_keep_holds, keeps_holds_then}
use Rattle.tree_file.specs.File.{file_of, state_of}
use Rattle.tree_file.specs.InFile.{file_in}
use Rattle.tree_file.specs.lemmas.Backed.{IsBackedFile, backed_still}
use Rattle.tree_file.specs.lemmas.Frames.{stays_here}
use Rattle.tree_file.specs.lemmas.Whole.{again_whole, whole_stays}
use Rattle.tree_file.proofs.Growth.{IsNamedIn, grown_backed, grown_now, grown_whole, not_grown, since_ahead, since_cause, since_grown, since_not_grown}
use Rattle.tree_file.proofs.file.TreeFileGameFile.grow.Goals as goal
use Rattle.tree_file.proofs.file.TreeFileGameFile.grow.Goals.{then-pages-room-via-then-pages-room, then-pages-room-via-else-pages-room+then-pages-gt-MAX_PAGES}

pub returns-then-pages-room-clause-err : goal.returns-then-pages-room-clause-err
returns-then-pages-room-clause-err g c = λ whole.
    let file = file_in c.args.self.now in
    let sound = g.met.P.Pages.sound c.args.self.now.table.store in
    asked_not_grown (StoresTrees g.row.LAYOUT) c.args.pages (state_of file) (state_of file)
    (whole_stays g.row.LAYOUT file file sound whole (stays_here file)).1

pub returns-then-pages-room-clause-cause : goal.returns-then-pages-room-clause-cause
returns-then-pages-room-clause-cause g c = elim c.then-pages-room.branch [
  | then-pages-room-via-then-pages-room w ↦ inl (omega (arith, w.if-pages-room.true, c.capacity-room.ensures))
  | then-pages-room-via-else-pages-room+then-pages-gt-MAX_PAGES w ↦ inr (omega (arith, w.if-pages-gt-MAX_PAGES.true))
]

pub returns-then-this-lt-FIRST_WITH_GOALS-clause-err : goal.returns-then-this-lt-FIRST_WITH_GOALS-clause-err
returns-then-this-lt-FIRST_WITH_GOALS-clause-err g c = λ whole.
    let file = file_in c.args.self.now in
    let sound = g.met.P.Pages.sound c.args.self.now.table.store in
    asked_not_grown (StoresTrees g.row.LAYOUT) c.args.pages (state_of file) (state_of file)
    (whole_stays g.row.LAYOUT file file sound whole (stays_here file)).1

pub returns-then-this-lt-FIRST_WITH_GOALS-clause-small : goal.returns-then-this-lt-FIRST_WITH_GOALS-clause-small
returns-then-this-lt-FIRST_WITH_GOALS-clause-small g c = λ is_open small. elim small [
  | inl few ↦ absurd (omega (arith, few, c.capacity-room.ensures, c.if-pages-room.false))
  | inr many ↦ absurd (omega (arith, many, c.if-pages-gt-MAX_PAGES.false))
]

pub invariant_of-self : goal.invariant_of-self
invariant_of-self g c =
    let self = c.args.self.now in
    let was = file_in self in
    let mid = file_of (work_in c.restore.new.self) self.game in
    let new = file_of (work_in c.grow.new.self) self.game in
    let back = c.restore.ensures in
    let told = c.grow.ensures in
    let backed : IsBackedFile g.row.LAYOUT self.commits was = record
    { of_layout = self.of_layout; counted = self.counted; sized = self.sized; sealed = self.sealed; stands = self.stands } in
    let mid_backed = backed_still g.row.LAYOUT self.commits was mid backed back.still back.text refl in
    let root = c.slot_naming-root.ensures in
    let more : length mid.work.store.marks < c.args.pages = omega (arith, back.still.same_pages, c.capacity-room.ensures, c.if-pages-room.false) in
    let is = grown_backed {layout = g.row.LAYOUT} {pages =
    c.args.pages} _ c.slot_naming-root.result mid new back.calm told.calm more told.grows c.in-Ok.ensures.ok root.layout
    (sym root.commits) self.sized mid_backed.stands told.same.text refl in
    record { counted = is.counted; sized = is.sized; sealed = is.sealed; of_layout = is.of_layout; stands = is.stands }

pub invariant_of-self-in-Err-1 : goal.invariant_of-self-in-Err-1
invariant_of-self-in-Err-1 g c =
    let self = c.args.self.now in
    let was = file_in self in
    let mid = file_of (work_in c.restore.new.self) self.game in
    let new = file_of (work_in c.grow.new.self) self.game in
    let back = c.restore.ensures in
    let told = c.grow.ensures in
    let backed : IsBackedFile g.row.LAYOUT self.commits was = record
    { of_layout = self.of_layout; counted = self.counted; sized = self.sized; sealed = self.sealed; stands = self.stands } in
    let is = backed_still g.row.LAYOUT self.commits was new backed (still_then back.still c.in-Err.ensures.err.left) (told.same.text ∙ back.text) refl in
    record { counted = is.counted; sized = is.sized; sealed = is.sealed; of_layout = is.of_layout; stands = is.stands }

pub returns-in-Ok-clause-ahead : goal.returns-in-Ok-clause-ahead
returns-in-Ok-clause-ahead g c =
    let self = c.args.self.now in
    let was = file_in self in
    let mid = file_of (work_in c.restore.new.self) self.game in
    let new = file_of (work_in c.grow.new.self) self.game in
    let back = c.restore.ensures in
    let told = c.grow.ensures in
    since_ahead was mid new back.still back.others told.grows

pub returns-in-Ok-clause-lasts : goal.returns-in-Ok-clause-lasts
returns-in-Ok-clause-lasts g c =
    let self = c.args.self.now in
    let was = file_in self in
    let mid = file_of (work_in c.restore.new.self) self.game in
    let new = file_of (work_in c.grow.new.self) self.game in
    let back = c.restore.ensures in
    let told = c.grow.ensures in
    keeps_holds_then was.work.store mid.work.store new.work.store back.held
    (grows_keep_holds c.slot_naming-root.result c.args.pages mid.work.store new.work.store told.grows)

pub returns-in-Err-clause-ahead : goal.returns-in-Err-clause-ahead
returns-in-Err-clause-ahead g c =
    let self = c.args.self.now in
    let was = file_in self in
    let mid = file_of (work_in c.restore.new.self) self.game in
    let new = file_of (work_in c.grow.new.self) self.game in
    let back = c.restore.ensures in
    let told = c.grow.ensures in
    since_ahead was mid new back.still back.others told.grows

pub returns-in-Err-clause-lasts : goal.returns-in-Err-clause-lasts
returns-in-Err-clause-lasts g c =
    let self = c.args.self.now in
    let was = file_in self in
    let mid = file_of (work_in c.restore.new.self) self.game in
    let new = file_of (work_in c.grow.new.self) self.game in
    let back = c.restore.ensures in
    let told = c.grow.ensures in
    keeps_holds_then was.work.store mid.work.store new.work.store back.held
    (grows_keep_holds c.slot_naming-root.result c.args.pages mid.work.store new.work.store told.grows)

pub returns-in-Ok-clause-whole : goal.returns-in-Ok-clause-whole
returns-in-Ok-clause-whole g c = λ whole.
    let self = c.args.self.now in
    let was = file_in self in
    let mid = file_of (work_in c.restore.new.self) self.game in
    let new = file_of (work_in c.grow.new.self) self.game in
    let back = c.restore.ensures in
    let told = c.grow.ensures in
    let root = c.slot_naming-root.ensures in
    let named : IsNamedIn g.row.LAYOUT c.args.pages self.game c.slot_naming-root.result = record
    { of_layout = root.layout; says = root.pages; names = root.names; packing = root.packing } in
    let more : length mid.work.store.marks < c.args.pages = omega (arith, back.still.same_pages, c.capacity-room.ensures, c.if-pages-room.false) in
    let few : c.args.pages ≤ 1048576 = omega (arith, c.if-pages-gt-MAX_PAGES.false) in
    let whole_mid = again_whole was mid whole back.still refl back.text back.calm (g.met.P.Pages.sound c.restore.new.self.store) back.torn back.slot in
    grown_whole mid new whole_mid c.slot_naming-root.result c.args.pages named more few told.grows refl told.same.text c.in-Ok.ensures.ok told.calm
    (g.met.P.Pages.sound c.grow.new.self.store) (told.same.torn ∙ back.torn) (told.same.slot ∙ back.slot)

pub returns-in-Ok-clause-ok : goal.returns-in-Ok-clause-ok
returns-in-Ok-clause-ok g c = λ whole.
    let self = c.args.self.now in
    let was = file_in self in
    let mid = file_of (work_in c.restore.new.self) self.game in
    let new = file_of (work_in c.grow.new.self) self.game in
    let back = c.restore.ensures in
    let told = c.grow.ensures in
    let root = c.slot_naming-root.ensures in
    let named : IsNamedIn g.row.LAYOUT c.args.pages self.game c.slot_naming-root.result = record
    { of_layout = root.layout; says = root.pages; names = root.names; packing = root.packing } in
    let more : length mid.work.store.marks < c.args.pages = omega (arith, back.still.same_pages, c.capacity-room.ensures, c.if-pages-room.false) in
    let few : c.args.pages ≤ 1048576 = omega (arith, c.if-pages-gt-MAX_PAGES.false) in
    let whole_mid = again_whole was mid whole back.still refl back.text back.calm (g.met.P.Pages.sound c.restore.new.self.store) back.torn back.slot in
    since_grown was mid new back.still back.others whole refl back.text back.calm c.args.pages
    (grown_now mid new whole_mid c.slot_naming-root.result c.args.pages named more few told.grows refl told.same.text c.in-Ok.ensures.ok told.calm
    (root.commits ∙ ap count_behind (self.counted ∙ ap commits_in (sym back.still.root))))

pub returns-in-Ok-clause-small : goal.returns-in-Ok-clause-small
returns-in-Ok-clause-small g c = λ is_open small. elim small [
  | inl few ↦ absurd (omega (arith, few, c.capacity-room.ensures, c.if-pages-room.false))
  | inr many ↦ absurd (omega (arith, many, c.if-pages-gt-MAX_PAGES.false))
]

pub returns-in-Err-clause-whole : goal.returns-in-Err-clause-whole
returns-in-Err-clause-whole g c = λ whole.
    let self = c.args.self.now in
    let was = file_in self in
    let mid = file_of (work_in c.restore.new.self) self.game in
    let new = file_of (work_in c.grow.new.self) self.game in
    let back = c.restore.ensures in
    let told = c.grow.ensures in
    again_whole was new whole (still_then back.still c.in-Err.ensures.err.left) refl (told.same.text ∙ back.text) told.calm
    (g.met.P.Pages.sound c.grow.new.self.store) (told.same.torn ∙ back.torn) (told.same.slot ∙ back.slot)

pub returns-in-Err-clause-err : goal.returns-in-Err-clause-err
returns-in-Err-clause-err g c = λ whole.
    let self = c.args.self.now in
    let was = file_in self in
    let mid = file_of (work_in c.restore.new.self) self.game in
    let new = file_of (work_in c.grow.new.self) self.game in
    let back = c.restore.ensures in
    let told = c.grow.ensures in
    let root = c.slot_naming-root.ensures in
    let named : IsNamedIn g.row.LAYOUT c.args.pages self.game c.slot_naming-root.result = record
    { of_layout = root.layout; says = root.pages; names = root.names; packing = root.packing } in
    let more : length mid.work.store.marks < c.args.pages = omega (arith, back.still.same_pages, c.capacity-room.ensures, c.if-pages-room.false) in
    let few : c.args.pages ≤ 1048576 = omega (arith, c.if-pages-gt-MAX_PAGES.false) in
    let whole_mid = again_whole was mid whole back.still refl back.text back.calm (g.met.P.Pages.sound c.restore.new.self.store) back.torn back.slot in
    since_not_grown was mid new back.still back.others whole refl back.text back.calm c.args.pages
    (not_grown mid new whole_mid c.slot_naming-root.result c.args.pages named more few told.grows refl told.same.text c.in-Err.ensures.err.left told.calm
    c.in-Err.fault c.in-Err.ensures.err.cause c.in-Err.ensures.err.untouched)

pub returns-in-Err-clause-cause : goal.returns-in-Err-clause-cause
returns-in-Err-clause-cause g c =
    let self = c.args.self.now in
    let was = file_in self in
    let mid = file_of (work_in c.restore.new.self) self.game in
    let new = file_of (work_in c.grow.new.self) self.game in
    let back = c.restore.ensures in
    let told = c.grow.ensures in
    subst (λ (f : FileFault). FileGrowCause c.args.pages (state_of was) (state_of new) f) (sym c.into.ensures)
    (since_cause was mid new back.still back.others c.args.pages c.in-Err.fault c.in-Err.ensures.err.cause)

pub returns-in-Err-clause-small : goal.returns-in-Err-clause-small
returns-in-Err-clause-small g c = λ is_open small. elim small [
  | inl few ↦ absurd (omega (arith, few, c.capacity-room.ensures, c.if-pages-room.false))
  | inr many ↦ absurd (omega (arith, many, c.if-pages-gt-MAX_PAGES.false))
]

pub returns-in-Err-clause-still : goal.returns-in-Err-clause-still
returns-in-Err-clause-still g c = λ other.
    ap (λ (s : Store). s.closed) (c.in-Err.ensures.err.untouched (λ disk. other (c.into.ensures ∙ ap of_pages disk))) ∙ c.restore.ensures.others.closed
