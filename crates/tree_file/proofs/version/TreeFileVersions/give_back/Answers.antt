use Rattle.std.proofs.Common.{refl, sym}
use Rattle.tree_table.specs.InTrees.{work_in}
use Rattle.tree_table.specs.lemmas.StandingTable.{let_go_still}
use Rattle.tree_table.specs.lemmas.Versions.{version_let_go}
use Rattle.tree_file.specs.File.{file_of}
use Rattle.tree_file.specs.lemmas.Backed.{IsBackedFile, backed_still}
use Rattle.tree_file.proofs.Versions.{let_go_goal, let_go_packing, let_go_state, let_go_text, let_go_whole, none_kept}
use Rattle.tree_file.proofs.version.TreeFileVersions.give_back.Goals as goal

pub invariant_of-self : goal.invariant_of-self
invariant_of-self g c =
    let self = c.args.self.now in
    let was : IsBackedFile g.row.LAYOUT self.commits (file_of (work_in self.table) self.game) = record
    { of_layout = self.of_layout; counted = self.counted; sized = self.sized; sealed = self.sealed; stands = self.stands } in
    let is = backed_still g.row.LAYOUT self.commits (file_of (work_in self.table) self.game) (file_of (work_in c.let_go.new.self) self.game) was
    (let_go_still c.args.version.hold.place (g.P.Pages.store self.table.store)
    (g.P.Pages.store c.let_go.new.self.store) c.let_go.ensures.gone) c.let_go.ensures.text refl in
    record { of_layout = is.of_layout; counted = is.counted; sized = is.sized; sealed = is.sealed; stands = is.stands }

pub returns-clause-whole : goal.returns-clause-whole
returns-clause-whole g c = λ whole.
    let self = c.args.self.now in
    let_go_whole c.args.version.hold.place (file_of (work_in self.table) self.game) (file_of (work_in c.let_go.new.self) self.game) whole c.let_go.ensures.gone
    (g.met.P.Pages.sound c.let_go.new.self.store) c.let_go.ensures.slot c.let_go.ensures.text c.let_go.ensures.torn refl

pub returns-clause-state : goal.returns-clause-state
returns-clause-state g c = λ honest whole.
    let self = c.args.self.now in
    let_go_state c.args.version.hold.place (file_of (work_in self.table) self.game) (file_of (work_in c.let_go.new.self) self.game) whole c.let_go.ensures.gone
    (g.met.P.Pages.sound c.let_go.new.self.store) c.let_go.ensures.slot c.let_go.ensures.text c.let_go.ensures.torn refl honest

pub returns-clause-others : goal.returns-clause-others
returns-clause-others g c = λ other table apart it.
    version_let_go c.args.version.hold.place other.hold.place other.slot table (g.P.Pages.store c.args.self.now.table.store)
    (g.P.Pages.store c.let_go.new.self.store)
    (λ same. apart (sym same)) c.let_go.ensures.gone it

pub returns-clause-text : goal.returns-clause-text
returns-clause-text g c = λ whole.
    let self = c.args.self.now in
    let_go_text c.args.version.hold.place (file_of (work_in self.table) self.game) (file_of (work_in c.let_go.new.self) self.game) whole c.let_go.ensures.gone
    (g.met.P.Pages.sound c.let_go.new.self.store) c.let_go.ensures.slot c.let_go.ensures.text c.let_go.ensures.torn refl

pub returns-clause-packing : goal.returns-clause-packing
returns-clause-packing g c = λ whole.
    let self = c.args.self.now in
    let_go_packing c.args.version.hold.place (file_of (work_in self.table) self.game)
    (file_of (work_in c.let_go.new.self) self.game) whole c.let_go.ensures.gone
    (g.met.P.Pages.sound c.let_go.new.self.store) c.let_go.ensures.slot c.let_go.ensures.text c.let_go.ensures.torn refl

pub returns-clause-goal : goal.returns-clause-goal
returns-clause-goal g c = λ whole.
    let self = c.args.self.now in
    let_go_goal c.args.version.hold.place (file_of (work_in self.table) self.game) (file_of (work_in c.let_go.new.self) self.game) whole c.let_go.ensures.gone
    (g.met.P.Pages.sound c.let_go.new.self.store) c.let_go.ensures.slot c.let_go.ensures.text c.let_go.ensures.torn refl

pub returns-clause-ended : goal.returns-clause-ended
returns-clause-ended g c = λ table it.
    none_kept c.args.version.hold.place c.args.version.slot table (g.P.Pages.store c.args.self.now.table.store) (g.P.Pages.store c.let_go.new.self.store)
    c.let_go.ensures.gone it
