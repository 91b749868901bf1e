use Rattle.std.proofs.Common.{inr, refl, ap, sym}
use Rattle.tree_table.specs.InTrees.{work_in}
use Rattle.tree_table.specs.WorkTable.{Work}
use Rattle.tree_table.specs.lemmas.Versions.{version_taken_else}
use Rattle.tree_file.specs.File.{file_of, state_of}
use Rattle.tree_file.specs.lemmas.Backed.{IsBackedFile, backed_still}
use Rattle.tree_file.proofs.Versions.{hold_still, place_apart, some_free, taken_goal, taken_packing, taken_state, taken_text, taken_version, taken_whole}
use Rattle.tree_file.proofs.version.TreeFileVersions.keep.Goals as goal

pub invariant_of-self : goal.invariant_of-self
invariant_of-self g c =
    let self = c.args.self.now in
    let was : IsBackedFile g.row.LAYOUT self.commits (file_of (work_in self.table) self.game) = record
    { of_layout = self.of_layout; counted = self.counted; sized = self.sized; sealed = self.sealed; stands = self.stands } in
    let is = backed_still g.row.LAYOUT self.commits (file_of (work_in self.table) self.game) (file_of (work_in c.hold.new.self) self.game) was
    (hold_still (work_in self.table) (work_in c.hold.new.self) c.hold.result c.hold.ensures.some c.hold.ensures.none) c.hold.ensures.text refl in
    record { of_layout = is.of_layout; counted = is.counted; sized = is.sized; sealed = is.sealed; stands = is.stands }

pub returns-in-Some-hold-clause-whole : goal.returns-in-Some-hold-clause-whole
returns-in-Some-hold-clause-whole g c = λ whole.
    let self = c.args.self.now in
    taken_whole c.in-Some-hold.hold.place (file_of (work_in self.table) self.game)
    (file_of (work_in c.hold.new.self) self.game) whole c.in-Some-hold.ensures.some
    (g.met.P.Pages.sound c.hold.new.self.store) c.hold.ensures.slot c.hold.ensures.text c.hold.ensures.torn refl

pub returns-in-Some-hold-clause-state : goal.returns-in-Some-hold-clause-state
returns-in-Some-hold-clause-state g c = λ honest whole.
    let self = c.args.self.now in
    taken_state c.in-Some-hold.hold.place (file_of (work_in self.table) self.game)
    (file_of (work_in c.hold.new.self) self.game) whole c.in-Some-hold.ensures.some
    (g.met.P.Pages.sound c.hold.new.self.store) c.hold.ensures.slot c.hold.ensures.text c.hold.ensures.torn refl honest

pub returns-in-Some-hold-clause-kept : goal.returns-in-Some-hold-clause-kept
returns-in-Some-hold-clause-kept g c = λ honest whole kept is.
    let self = c.args.self.now in
    taken_version c.in-Some-hold.hold.place (file_of (work_in self.table) self.game)
    (file_of (work_in c.hold.new.self) self.game) whole c.in-Some-hold.ensures.some
    (g.met.P.Pages.sound c.hold.new.self.store) c.hold.ensures.slot c.hold.ensures.text c.hold.ensures.torn refl c.in-Some.slot kept honest c.in-Some.is is

pub returns-in-Some-hold-clause-others : goal.returns-in-Some-hold-clause-others
returns-in-Some-hold-clause-others g c = λ version table it.
    let self = c.args.self.now in
    let old = g.P.Pages.store self.table.store in
    let new = g.P.Pages.store c.hold.new.self.store in
    let taken = c.in-Some-hold.ensures.some in
    let apart = place_apart c.in-Some-hold.hold.place version.hold.place version.slot table old new taken it in (
      apart,
      version_taken_else c.in-Some-hold.hold.place version.hold.place version.slot table old new (g.met.P.Pages.sound self.table.store)
          (λ same. apart (sym same)) taken it,
    )

pub returns-in-None-clause-none : goal.returns-in-None-clause-none
returns-in-None-clause-none g c = inr c.in-None.ensures.none.1

pub returns-in-None-clause-refused : goal.returns-in-None-clause-refused
returns-in-None-clause-refused g c = ap (λ (w : Work). state_of (file_of w c.args.self.now.game)) c.in-None.ensures.none.0

pub returns-in-Some-hold-clause-text : goal.returns-in-Some-hold-clause-text
returns-in-Some-hold-clause-text g c = λ whole.
    let self = c.args.self.now in
    taken_text c.in-Some-hold.hold.place (file_of (work_in self.table) self.game)
    (file_of (work_in c.hold.new.self) self.game) whole c.in-Some-hold.ensures.some
    (g.met.P.Pages.sound c.hold.new.self.store) c.hold.ensures.slot c.hold.ensures.text c.hold.ensures.torn refl

pub returns-in-Some-hold-clause-packing : goal.returns-in-Some-hold-clause-packing
returns-in-Some-hold-clause-packing g c = λ whole.
    let self = c.args.self.now in
    taken_packing c.in-Some-hold.hold.place (file_of (work_in self.table) self.game)
    (file_of (work_in c.hold.new.self) self.game) whole c.in-Some-hold.ensures.some
    (g.met.P.Pages.sound c.hold.new.self.store) c.hold.ensures.slot c.hold.ensures.text c.hold.ensures.torn refl

pub returns-in-Some-hold-clause-goal : goal.returns-in-Some-hold-clause-goal
returns-in-Some-hold-clause-goal g c = λ whole.
    let self = c.args.self.now in
    taken_goal c.in-Some-hold.hold.place (file_of (work_in self.table) self.game)
    (file_of (work_in c.hold.new.self) self.game) whole c.in-Some-hold.ensures.some
    (g.met.P.Pages.sound c.hold.new.self.store) c.hold.ensures.slot c.hold.ensures.text c.hold.ensures.torn refl

pub returns-in-Some-hold-clause-free : goal.returns-in-Some-hold-clause-free
returns-in-Some-hold-clause-free g c = λ full.
    some_free c.in-Some-hold.hold.place (g.P.Pages.store c.args.self.now.table.store) (g.P.Pages.store c.hold.new.self.store) c.in-Some-hold.ensures.some full
