use Rattle.std.proofs.Common.{◌≡◌, ℕ, List, length, false, Some, IsTrue, refl, sym, ◌∙◌, ap, subst, arith}
use mathlib.Core.Logic.{∥∥₁_elim, ∥∥₁_prop}
use Rattle.sector_disk.specs.lemmas.Moments.{goes_on_trans}
use Rattle.game_file.specs.Fields.{commits_in, goal_numbered, layout_in, HasPlaceFor}
use Rattle.game_file.specs.declared.fault.FileFault.{FileFault}
use Rattle.game_file.specs.Causes.{FileCommitCause}
use Rattle.game_file.specs.Kept.{kept_as}
use Rattle.game_file.specs.State.{count_behind}
use Rattle.game_file.specs.Stops.{LeavesEither, LeavesTable}
use Rattle.tree_table.specs.declared.slot.TreeSlot.{TreeSlot}
use Rattle.tree_table.specs.Held.{StoresTrees}
use Rattle.tree_table.specs.InTrees.{work_in}
use Rattle.tree_table.specs.KeptTrees.{IsKeptInTrees, IsSizedSlot, StandsInTrees}
use Rattle.tree_table.specs.WorkTable.{table_now}
use Rattle.tree_table.specs.lemmas.StandingTable.{still_then, was_honest, works_still}
use Rattle.tree_file.specs.File.{file_of, kept_of, state_of}
use Rattle.tree_file.specs.InFile.{file_in}
use Rattle.tree_file.specs.lemmas.Backed.{IsBackedFile, backed_still}
use Rattle.tree_file.specs.lemmas.Whole.{again_whole}
use Rattle.tree_table.specs.lemmas.Versions.{keeps_holds_then}
use Rattle.game_file.specs.Faults.{of_pages}
use Rattle.tree_file.proofs.Commits.{calm_sealed, its_place, none_kept_some, kept_goal_is, kept_packing_is, kept_text_is, not_put, put_now, put_whole, refused_ahead, same_disk, why_not, worked}
use Rattle.tree_file.proofs.file.TreeFileGameFile.commit.Goals as goal

pub invariant_of-self : goal.invariant_of-self
invariant_of-self g c =
    let self = c.args.self.now in
    let next = c.save.new.self in
    let told = c.in-Ok.ensures.ok in
    let new = (work_in next).store in
    record {
      of_layout = told.layout ∙ self.of_layout;
      counted = sym told.commits;
      sized = record { some = next.some; short = next.short; few = next.few; points = next.points };
      sealed = calm_sealed new (told.calm self.sealed);
      stands = λ honest.
          ∥∥₁_elim (told.stands c.if-self.false (was_honest c.save.ensures.advances.time honest)) ∥∥₁_prop
          (λ (s : StandsInTrees self.table.slot self.table.text.items new).
          ∣ subst (λ (x : TreeSlot). StandsInTrees x next.text.items new) (sym c.save.ensures.same.slot)
          (subst (λ (x : List ℕ). StandsInTrees self.table.slot x new) (sym c.save.ensures.same.text) s) ∣₁);
    }

pub restore-requires-clause-stands : goal.restore-requires-clause-stands
restore-requires-clause-stands g c =
    let self = c.args.self.now in
    let was : IsBackedFile g.row.LAYOUT self.commits (file_of (work_in self.table) self.game) = record
    { of_layout = self.of_layout; counted = self.counted; sized = self.sized; sealed = self.sealed; stands = self.stands } in
    (backed_still g.row.LAYOUT self.commits (file_of (work_in self.table) self.game) (file_of (work_in c.save.new.self) self.game) was c.in-Err.ensures.err.left
    c.save.ensures.same.text refl).stands

pub invariant_of-self-in-Err : goal.invariant_of-self-in-Err
invariant_of-self-in-Err g c =
    let self = c.args.self.now in
    let was : IsBackedFile g.row.LAYOUT self.commits (file_of (work_in self.table) self.game) = record
    { of_layout = self.of_layout; counted = self.counted; sized = self.sized; sealed = self.sealed; stands = self.stands } in
    let is = backed_still g.row.LAYOUT self.commits (file_of (work_in self.table) self.game) (file_of (work_in c.restore.new.self) self.game) was
    (still_then c.in-Err.ensures.err.left c.restore.ensures.still) (c.restore.ensures.text ∙ c.save.ensures.same.text) refl in
    record { of_layout = is.of_layout; counted = is.counted; sized = is.sized; sealed = is.sealed; stands = is.stands }

pub returns-in-Ok-clause-ok : goal.returns-in-Ok-clause-ok
returns-in-Ok-clause-ok g c = λ begun kept whole is ahead fits.
    let was = file_in begun in
    let self = c.args.self.now in
    let next = c.save.new.self in
    let told = c.in-Ok.ensures.ok in
    let new = file_of (work_in next) (Some next.slot) in
    let now = kept_as kept.text kept.packing kept.goal (table_now (work_in self.table)) in
    let sized : IsSizedSlot self.table.slot = record { some = self.table.some; short = self.table.short; few = self.table.few; points = self.table.points } in
    let is_open : was.work.store.closed ≡ false = ahead.work.works.closed (c.save.ensures.advances.shut told.open) in
    let done : IsTrue was.work.store.disk.honest → IsKeptInTrees new.work.store (Some now) =
    λ honest. told.done was.work.store (kept_of was) now (worked was kept whole is (file_in self) ahead sized fits honest is_open) in
    let place = subst (λ (r : List ℕ). HasPlaceFor (layout_in r) self.table.slot.goal) (sym ahead.work.works.root)
    (its_place was kept whole is (file_in self) ahead) in
    let root = told.root place ∙ sym c.save.ensures.same.slot in
    let of_layout = told.layout ∙ self.of_layout in
    let text = c.save.ensures.same.text ∙ ahead.work.text ∙ sym (kept_text_is was kept whole is) in
    let packing = ap (λ (s : TreeSlot). s.packing) c.save.ensures.same.slot ∙ ahead.work.packing ∙ sym (kept_packing_is was kept whole is) in
    let goal_is = ap (λ (s : TreeSlot). goal_numbered s.goal) c.save.ensures.same.slot ∙ ap goal_numbered ahead.work.goal
    ∙ sym (kept_goal_is was kept whole is) in
    let calm = told.calm self.sealed in
    let goes_on = goes_on_trans ahead.work.works.goes_on c.save.ensures.advances.time in
    let sound = g.met.P.Pages.sound next.store in (
      put_whole was new next.slot now of_layout told.pages refl refl root text packing goal_is calm goes_on done sound
          (omega (arith, whole.room, ahead.work.works.same_pages, c.save.ensures.advances.same_pages))
          (c.save.ensures.same.torn ∙ c.if-self.false),
      put_now was new next.slot now of_layout told.pages refl refl root text packing goal_is calm goes_on done
          (told.commits ∙ ap count_behind (self.counted ∙ ap commits_in ahead.work.works.root)) told.open
          (λ honest. subst (λ (l : ℕ). LeavesEither (StoresTrees l (length was.work.store.marks)) was.work.store.disk new.work.store.disk
          (kept_of was) (Some now))
          whole.of_layout
          (c.save.ensures.stop was.work.store (kept_of was) now (worked was kept whole is (file_in self) ahead sized fits honest is_open))),
    )

pub returns-in-Err-clause-err : goal.returns-in-Err-clause-err
returns-in-Err-clause-err g c = λ begun kept whole is ahead fits.
    let was = file_in begun in
    let self = c.args.self.now in
    let left = (work_in c.save.new.self).store in
    let told = c.restore.ensures in
    let new = file_of (work_in c.restore.new.self) self.game in
    let now = kept_as kept.text kept.packing kept.goal (table_now (work_in self.table)) in
    let sized : IsSizedSlot self.table.slot = record { some = self.table.some; short = self.table.short; few = self.table.few; points = self.table.points } in
    let still = still_then (works_still ahead.work.works) (still_then c.in-Err.ensures.err.left told.still) in
    let text = told.text ∙ c.save.ensures.same.text ∙ ahead.work.text in
    let sound = g.met.P.Pages.sound c.restore.new.self.store in (
      again_whole was new whole still ahead.game text told.calm sound told.torn told.slot,
      not_put was new now whole still text ahead.game told.calm
          (λ honest is_open.
          let left_open : left.closed ≡ false = sym told.others.closed ∙ is_open in
          same_disk was.work.store.disk left.disk new.work.store.disk
          (λ image. StoresTrees g.row.LAYOUT (length was.work.store.marks) image (kept_of was)) told.others.disk
          (subst (λ (l : ℕ). LeavesTable (StoresTrees l (length was.work.store.marks)) was.work.store.disk left.disk (kept_of was)) whole.of_layout
          (c.in-Err.ensures.err.kept_stop was.work.store (kept_of was) now
          (worked was kept whole is (file_in self) ahead sized fits honest (ahead.work.works.closed (c.save.ensures.advances.shut left_open))) left_open)))
          (λ honest is_open.
          same_disk was.work.store.disk left.disk new.work.store.disk _ told.others.disk
          (subst (λ (l : ℕ). LeavesEither (StoresTrees l (length was.work.store.marks)) was.work.store.disk left.disk (kept_of was) (Some now)) whole.of_layout
          (c.save.ensures.stop was.work.store (kept_of was) now (worked was kept whole is (file_in self) ahead sized fits honest is_open)))),
    )

pub returns-in-Err-clause-cause : goal.returns-in-Err-clause-cause
returns-in-Err-clause-cause g c = λ begun kept whole is ahead.
    let was = file_in begun in
    let self = c.args.self.now in
    let new = file_of (work_in c.restore.new.self) self.game in
    let now = table_now (work_in self.table) in
    subst (λ (f : FileFault). FileCommitCause kept.table now (state_of was) (state_of new) f) (sym c.into.ensures)
    (why_not was (file_in self) new kept.table now (work_in c.save.new.self).store c.in-Err.fault ahead.work.works ahead.work.still c.restore.ensures.others
    c.in-Err.ensures.err.cause)

pub returns-in-Ok-clause-ahead : goal.returns-in-Ok-clause-ahead
returns-in-Ok-clause-ahead g c = record {
  goes_on = c.save.ensures.advances.time;
  same_size = c.save.ensures.advances.same_size;
  failures = c.save.ensures.advances.failures;
  capacity = c.save.ensures.advances.same_pages;
  closes = c.save.ensures.advances.closes;
}

pub returns-in-Err-clause-ahead : goal.returns-in-Err-clause-ahead
returns-in-Err-clause-ahead g c =
    refused_ahead (file_in c.args.self.now) (work_in c.save.new.self).store
    (file_of (work_in c.restore.new.self) c.args.self.now.game) c.save.ensures.advances.time c.save.ensures.advances.same_size
    c.save.ensures.advances.failures c.save.ensures.advances.same_pages c.save.ensures.advances.closes c.restore.ensures.others c.restore.ensures.still

pub returns-then-is_none-clause-err : goal.returns-then-is_none-clause-err
returns-then-is_none-clause-err g c = λ begun kept whole is ahead fits. absurd
    (none_kept_some begun.game c.args.self.now.game _ _ kept ahead.game c.if-is_none.ensures is)

pub returns-then-is_none-clause-cause : goal.returns-then-is_none-clause-cause
returns-then-is_none-clause-cause g c = λ begun kept whole is ahead. absurd
    (none_kept_some begun.game c.args.self.now.game _ _ kept ahead.game c.if-is_none.ensures is)

pub restore-requires-clause-sealed : goal.restore-requires-clause-sealed
restore-requires-clause-sealed g c = λ p is. c.args.self.now.sealed p (c.in-Err.ensures.err.left.waiting p is)

pub returns-in-Err-clause-lasts : goal.returns-in-Err-clause-lasts
returns-in-Err-clause-lasts g c =
    keeps_holds_then (g.P.Pages.store c.args.self.now.table.store) (work_in c.save.new.self).store
    (work_in c.restore.new.self).store c.save.ensures.advances.held
    c.restore.ensures.held

pub returns-in-Err-clause-still : goal.returns-in-Err-clause-still
returns-in-Err-clause-still g c = λ begun ahead other.
    c.restore.ensures.others.closed ∙ c.in-Err.ensures.err.still (λ disk. other (c.into.ensures ∙ ap of_pages disk)) ∙ ahead.work.still
