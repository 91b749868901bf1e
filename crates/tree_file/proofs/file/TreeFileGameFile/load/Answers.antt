use Rattle.std.proofs.Common.{◌≡◌, ◌⊎◌, ℕ, List, length, false, Option, None, Some, IsTrue, refl, sym, ◌∙◌, ap, subst, arith}
use Rattle.rbg_game.specs.Goals.{points_of}
use Rattle.game_file.specs.Fields.{number_of_goal, HasPlaceFor}
use Rattle.retrograde.specs.Stored.{loaded}
use Rattle.game_file.specs.declared.fault.FileFault.{FileFault}
use Rattle.game_file.specs.Calls.{IsPut, IsNotPut}
use Rattle.game_file.specs.Causes.{FileLoadCause}
use Rattle.game_file.specs.Kept.{Kept, kept_as}
use Rattle.game_file.specs.State.{count_behind}
use Rattle.game_file.specs.Stops.{LeavesEither, LeavesTable}
use Rattle.tree_table.specs.Held.{StoresTrees}
use Rattle.tree_table.specs.InTrees.{work_in}
use Rattle.tree_table.specs.KeptTrees.{IsKeptInTrees, StandsFor, StandsInTrees, slot_or_bare}
use Rattle.tree_table.specs.declared.slot.TreeSlot.{TreeSlot}
use Rattle.tree_table.specs.lemmas.StandingTable.{still_then, was_honest}
use Rattle.tree_file.specs.File.{file_of, state_of}
use Rattle.tree_file.specs.InFile.{file_in}
use Rattle.tree_file.specs.lemmas.Backed.{IsBackedFile, backed_still}
use Rattle.tree_file.specs.lemmas.Whole.{again_whole}
use Rattle.tree_table.specs.lemmas.Versions.{keeps_holds_then}
use Rattle.game_file.specs.Faults.{of_table}
use Rattle.tree_file.proofs.Loads.{has_place, no_game, none_kept, nothing_put, so_refused, some_kept, vacant, why_not_loaded}
use Rattle.tree_file.proofs.Commits.{calm_sealed, not_put, put_now, put_whole, refused_ahead, same_disk}
use Rattle.tree_file.proofs.file.TreeFileGameFile.load.Goals as goal

pub returns-then-is_empty-clause-err : goal.returns-then-is_empty-clause-err
returns-then-is_empty-clause-err g c = λ whole none. nothing_put (file_in c.args.self.now)
    (kept_as c.args.text.now c.args.packing (points_of c.args.goal) (loaded c.args.start.now.items)) whole

pub returns-in_err-text-clause-err : goal.returns-in_err-text-clause-err
returns-in_err-text-clause-err g c = λ whole none.
    so_refused c.from_residual.result
    (nothing_put (file_in c.args.self.now) (kept_as c.args.text.now c.args.packing (points_of c.args.goal) (loaded c.args.start.now.items)) whole)

pub returns-then-not-has_place-clause-err : goal.returns-then-not-has_place-clause-err
returns-then-not-has_place-clause-err g c = λ whole none.
    nothing_put (file_in c.args.self.now) (kept_as c.args.text.now c.args.packing (points_of c.args.goal) (loaded c.args.start.now.items)) whole

pub start-requires-clause-place : goal.start-requires-clause-place
start-requires-clause-place g c = subst (λ (n : ℕ). HasPlaceFor n (number_of_goal (points_of c.args.goal))) (sym c.args.self.now.of_layout)
    (has_place g.row.LAYOUT c.args.goal (c.has_place.ensures.0 c.if-not-has_place.false))

pub invariant_of-self : goal.invariant_of-self
invariant_of-self g c =
    let self = c.args.self.now in
    let next = c.start.new.self in
    let told = c.in-Ok.ensures.ok in
    let new = (work_in next).store in
    record {
      of_layout = told.layout ∙ self.of_layout;
      counted = sym told.commits;
      sized = record { some = next.some; short = next.short; few = next.few; points = next.points };
      sealed = calm_sealed new (told.calm self.sealed);
      stands = λ honest.
          let stands : StandsInTrees next.slot c.in_ok-text.text.items new = told.stands (was_honest c.start.ensures.advances.time honest) in
          ∣ subst (λ (x : List ℕ). StandsInTrees next.slot x new) (sym told.text) stands ∣₁;
    }

pub returns-in-Ok-clause-whole : goal.returns-in-Ok-clause-whole
returns-in-Ok-clause-whole g c = λ whole.
    let self = c.args.self.now in
    let was = file_in self in
    let next = c.start.new.self in
    let told = c.in-Ok.ensures.ok in
    let new = file_of (work_in next) (Some next.slot) in
    let now = kept_as c.in_ok-text.text.items c.args.packing (points_of c.args.goal) (loaded c.args.start.now.items) in
    let none = no_game self.game (sym c.if-is_some.ensures) in
    let is_open : was.work.store.closed ≡ false = c.start.ensures.advances.shut told.open in
    let done : IsTrue was.work.store.disk.honest → IsKeptInTrees new.work.store (Some now) = λ honest. told.done (vacant was whole none honest is_open) in
    put_whole was new next.slot now (told.layout ∙ self.of_layout) told.pages refl refl told.root told.text told.packing told.goal
    (told.calm self.sealed) c.start.ensures.advances.time done (g.met.P.Pages.sound next.store)
    (omega (arith, whole.room, c.start.ensures.advances.same_pages)) told.torn

pub returns-in-Ok-clause-ok : goal.returns-in-Ok-clause-ok
returns-in-Ok-clause-ok g c = λ whole unkept.
    let same : c.in_ok-text.text.items ≡ c.args.text.now = c.in_ok-text.ensures.items_if_clones_equal (λ x y h. h) in
    let self = c.args.self.now in
    let was = file_in self in
    let next = c.start.new.self in
    let told = c.in-Ok.ensures.ok in
    let new = file_of (work_in next) (Some next.slot) in
    let start = loaded c.args.start.now.items in
    let now = kept_as c.in_ok-text.text.items c.args.packing (points_of c.args.goal) start in
    let none = no_game self.game (sym c.if-is_some.ensures) in
    let is_open : was.work.store.closed ≡ false = c.start.ensures.advances.shut told.open in
    let done : IsTrue was.work.store.disk.honest → IsKeptInTrees new.work.store (Some now) = λ honest. told.done (vacant was whole none honest is_open) in
    subst (λ (x : List ℕ). IsPut (StoresTrees g.row.LAYOUT) (kept_as x c.args.packing (points_of c.args.goal) start) (state_of was) (state_of new)) same
    (put_now was new next.slot now (told.layout ∙ self.of_layout) told.pages refl refl told.root told.text told.packing told.goal
    (told.calm self.sealed) c.start.ensures.advances.time done
    (told.commits ∙ ap count_behind self.counted) told.open
    (λ honest. subst (λ (k : Option Kept). LeavesEither
    (StoresTrees g.row.LAYOUT (length was.work.store.marks)) was.work.store.disk new.work.store.disk k (Some now)) (sym (none_kept was none))
    (subst (λ (l : ℕ). LeavesEither (StoresTrees l (length was.work.store.marks)) was.work.store.disk new.work.store.disk None (Some now)) whole.of_layout
    (c.start.ensures.stop (vacant was whole none honest is_open)))))

pub returns-in-Err-clause-whole : goal.returns-in-Err-clause-whole
returns-in-Err-clause-whole g c = λ whole.
    let self = c.args.self.now in
    let was = file_in self in
    let told = c.restore.ensures in
    let new = file_of (work_in c.restore.new.self) self.game in
    let none = no_game self.game (sym c.if-is_some.ensures) in
    again_whole was new whole (still_then c.in-Err.ensures.err.left told.still) refl (told.text ∙ c.in-Err.ensures.err.kept_text) told.calm
    (g.met.P.Pages.sound c.restore.new.self.store) told.torn
    (told.slot ∙ ap slot_or_bare (sym none))

pub returns-in-Err-clause-err : goal.returns-in-Err-clause-err
returns-in-Err-clause-err g c = λ whole unkept.
    let same : c.in_ok-text.text.items ≡ c.args.text.now = c.in_ok-text.ensures.items_if_clones_equal (λ x y h. h) in
    let self = c.args.self.now in
    let was = file_in self in
    let left = (work_in c.start.new.self).store in
    let told = c.restore.ensures in
    let new = file_of (work_in c.restore.new.self) self.game in
    let start = loaded c.args.start.now.items in
    let none = no_game self.game (sym c.if-is_some.ensures) in
    let now = kept_as c.in_ok-text.text.items c.args.packing (points_of c.args.goal) start in
    subst (λ (x : List ℕ). IsNotPut (StoresTrees g.row.LAYOUT) (kept_as x c.args.packing (points_of c.args.goal) start) (state_of was) (state_of new)) same
    (not_put was new now whole (still_then c.in-Err.ensures.err.left told.still) (told.text ∙ c.in-Err.ensures.err.kept_text) refl told.calm
    (λ honest is_open.
    let left_open : left.closed ≡ false = sym told.others.closed ∙ is_open in
    subst (λ (k : Option Kept). LeavesTable
    (StoresTrees g.row.LAYOUT (length was.work.store.marks)) was.work.store.disk new.work.store.disk k) (sym (none_kept was none))
    (same_disk was.work.store.disk left.disk new.work.store.disk
    (λ image. StoresTrees g.row.LAYOUT (length was.work.store.marks) image None) told.others.disk
    (subst (λ (l : ℕ). LeavesTable (StoresTrees l (length was.work.store.marks)) was.work.store.disk left.disk None) whole.of_layout
    (c.in-Err.ensures.err.kept_stop (vacant was whole none honest (c.start.ensures.advances.shut left_open)) left_open))))
    (λ honest is_open.
    subst (λ (k : Option Kept). LeavesEither
    (StoresTrees g.row.LAYOUT (length was.work.store.marks)) was.work.store.disk new.work.store.disk k (Some now)) (sym (none_kept was none))
    (same_disk was.work.store.disk left.disk new.work.store.disk (λ image. StoresTrees g.row.LAYOUT (length was.work.store.marks) image None
    ⊎ StoresTrees g.row.LAYOUT (length was.work.store.marks) image (Some now)) told.others.disk
    (subst (λ (l : ℕ). LeavesEither (StoresTrees l (length was.work.store.marks)) was.work.store.disk left.disk None (Some now)) whole.of_layout
    (c.start.ensures.stop (vacant was whole none honest is_open))))))

pub returns-in-Err-clause-cause : goal.returns-in-Err-clause-cause
returns-in-Err-clause-cause g c = λ whole unkept is_open.
    let self = c.args.self.now in
    let was = file_in self in
    let left = (work_in c.start.new.self).store in
    let new = file_of (work_in c.restore.new.self) self.game in
    let same : c.in_ok-text.text.items ≡ c.args.text.now = c.in_ok-text.ensures.items_if_clones_equal (λ x y h. h) in
    let none = no_game self.game (sym c.if-is_some.ensures) in
    subst (λ (f : FileFault). FileLoadCause c.args.start.now.items (state_of was) (state_of new) f) (sym c.into.ensures)
    (why_not_loaded c.args.start.now.items (length c.in_ok-text.text.items) was new left c.in-Err.fault whole none (omega (arith, ap length same, c.requires))
    c.restore.ensures.others c.in-Err.ensures.err.cause)

pub returns-in-Ok-clause-ahead : goal.returns-in-Ok-clause-ahead
returns-in-Ok-clause-ahead g c = record {
  goes_on = c.start.ensures.advances.time;
  same_size = c.start.ensures.advances.same_size;
  failures = c.start.ensures.advances.failures;
  capacity = c.start.ensures.advances.same_pages;
  closes = c.start.ensures.advances.closes;
}

pub returns-in-Err-clause-ahead : goal.returns-in-Err-clause-ahead
returns-in-Err-clause-ahead g c =
    refused_ahead (file_in c.args.self.now) (work_in c.start.new.self).store
    (file_of (work_in c.restore.new.self) c.args.self.now.game) c.start.ensures.advances.time c.start.ensures.advances.same_size
    c.start.ensures.advances.failures c.start.ensures.advances.same_pages c.start.ensures.advances.closes c.restore.ensures.others c.restore.ensures.still

pub returns-then-is_some-clause-err : goal.returns-then-is_some-clause-err
returns-then-is_some-clause-err g c = λ whole none.
    nothing_put (file_in c.args.self.now) (kept_as c.args.text.now c.args.packing (points_of c.args.goal) (loaded c.args.start.now.items)) whole

pub returns-then-is_some-clause-cause : goal.returns-then-is_some-clause-cause
returns-then-is_some-clause-cause g c = λ whole none is_open. absurd (some_kept (file_in c.args.self.now) (sym c.if-is_some.ensures) none)

pub restore-requires-clause-sealed : goal.restore-requires-clause-sealed
restore-requires-clause-sealed g c = λ p is. c.args.self.now.sealed p (c.in-Err.ensures.err.left.waiting p is)

pub restore-requires-clause-stands : goal.restore-requires-clause-stands
restore-requires-clause-stands g c =
    let self = c.args.self.now in
    let was : IsBackedFile g.row.LAYOUT self.commits (file_of (work_in self.table) self.game) = record
    { of_layout = self.of_layout; counted = self.counted; sized = self.sized; sealed = self.sealed; stands = self.stands } in
    let is = backed_still g.row.LAYOUT self.commits (file_of (work_in self.table) self.game)
    (file_of (work_in c.start.new.self) self.game) was c.in-Err.ensures.err.left
    c.in-Err.ensures.err.kept_text refl in
    λ honest. subst (λ (game : Option TreeSlot). ∥ StandsFor game (work_in c.start.new.self).text (work_in c.start.new.self).store ∥₁)
    (no_game self.game (sym c.if-is_some.ensures)) (is.stands honest)

pub invariant_of-self-in-Err : goal.invariant_of-self-in-Err
invariant_of-self-in-Err g c =
    let self = c.args.self.now in
    let was : IsBackedFile g.row.LAYOUT self.commits (file_of (work_in self.table) self.game) = record
    { of_layout = self.of_layout; counted = self.counted; sized = self.sized; sealed = self.sealed; stands = self.stands } in
    let is = backed_still g.row.LAYOUT self.commits (file_of (work_in self.table) self.game) (file_of (work_in c.restore.new.self) self.game) was
    (still_then c.in-Err.ensures.err.left c.restore.ensures.still) (c.restore.ensures.text ∙ c.in-Err.ensures.err.kept_text) refl in
    record { counted = is.counted; sized = is.sized; sealed = is.sealed; of_layout = is.of_layout; stands = is.stands }

pub returns-in-Err-clause-lasts : goal.returns-in-Err-clause-lasts
returns-in-Err-clause-lasts g c =
    keeps_holds_then (g.P.Pages.store c.args.self.now.table.store) (work_in c.start.new.self).store
    (work_in c.restore.new.self).store c.start.ensures.advances.held
    c.restore.ensures.held

pub returns-in-Err-clause-still : goal.returns-in-Err-clause-still
returns-in-Err-clause-still g c = λ other. c.restore.ensures.others.closed ∙ c.in-Err.ensures.err.still (λ disk. other (c.into.ensures ∙ ap of_table disk))
