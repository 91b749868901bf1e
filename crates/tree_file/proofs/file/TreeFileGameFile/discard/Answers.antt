use Rattle.std.proofs.Common.{refl, ◌∙◌, inl, inr}
use Rattle.game_file.specs.lemmas.Free.{given_up_free}
use Rattle.tree_table.specs.InTrees.{work_in}
use Rattle.tree_file.specs.File.{file_of}
use Rattle.tree_file.specs.lemmas.Backed.{IsBackedFile, backed_still}
use Rattle.tree_file.specs.lemmas.Whole.{fails_for_later}
use Rattle.tree_file.specs.InFile.{file_in}
use Rattle.tree_file.proofs.Commits.{again_ahead, given_up_kept, given_up_whole}
use Rattle.tree_file.proofs.file.TreeFileGameFile.discard.Goals as goal

pub invariant_of-self : goal.invariant_of-self
invariant_of-self g c =
    let self = c.args.self.now in
    let was : IsBackedFile g.row.LAYOUT self.commits (file_of (work_in self.table) self.game) = record
    { of_layout = self.of_layout; counted = self.counted; sized = self.sized; sealed = self.sealed; stands = self.stands } in
    let is = backed_still g.row.LAYOUT self.commits (file_of (work_in self.table) self.game) (file_of (work_in c.restore.new.self) self.game) was
    c.restore.ensures.still c.restore.ensures.text refl in
    record { of_layout = is.of_layout; counted = is.counted; sized = is.sized; sealed = is.sealed; stands = is.stands }

pub returns-clause-back : goal.returns-clause-back
returns-clause-back g c = λ begun whole goes_on.
    let was = file_in begun in
    let told = c.restore.ensures in
    let sound = g.met.P.Pages.sound c.restore.new.self.store in (
      given_up_whole was (file_in c.args.self.now) (file_of (work_in c.restore.new.self) c.args.self.now.game) whole goes_on.work.works goes_on.work.text
          goes_on.game
          told.still told.others told.text refl told.torn told.slot told.calm sound,
      given_up_kept was (file_in c.args.self.now) (file_of (work_in c.restore.new.self) c.args.self.now.game) whole goes_on.work.works goes_on.work.text
          goes_on.game
          told.still told.others told.text refl told.torn told.slot told.calm sound,
      told.others.closed ∙ goes_on.work.still,
    )

pub returns-clause-failed : goal.returns-clause-failed
returns-clause-failed g c = λ begun fault whole fails.
    let was = file_in begun in
    let told = c.restore.ensures in
    let sound = g.met.P.Pages.sound c.restore.new.self.store in (
      given_up_whole was (file_in c.args.self.now) (file_of (work_in c.restore.new.self) c.args.self.now.game) whole fails.work.works fails.work.text
          fails.game
          told.still told.others told.text refl told.torn told.slot told.calm sound,
      given_up_kept was (file_in c.args.self.now) (file_of (work_in c.restore.new.self) c.args.self.now.game) whole fails.work.works fails.work.text fails.game
          told.still told.others told.text refl told.torn told.slot told.calm sound,
      fails_for_later g.row.LAYOUT was (file_in c.args.self.now) (file_of (work_in c.restore.new.self) c.args.self.now.game) fault begun.table.holds whole fails
          told.others.failures,
    )

pub returns-clause-ahead : goal.returns-clause-ahead
returns-clause-ahead g c =
    let self = c.args.self.now in
    again_ahead (file_of (work_in self.table) self.game) (file_of (work_in c.restore.new.self) self.game) c.restore.ensures.still c.restore.ensures.others

pub returns-clause-still : goal.returns-clause-still
returns-clause-still g c = λ begun fault whole fails other. c.restore.ensures.others.closed ∙ fails.work.still other

pub returns-clause-freed : goal.returns-clause-freed
returns-clause-freed g c = λ begun whole since.
    let was = (work_in begun.table).store in
    let mid = (work_in c.args.self.now.table).store in
    let new = (work_in c.restore.new.self).store in
    elim since [
      | inl it ↦ given_up_free was mid new whole.calm it.work.works c.restore.ensures.marks
      | inr it ↦ given_up_free was mid new whole.calm it.1.work.works c.restore.ensures.marks
    ]
