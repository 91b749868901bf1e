use Rattle.std.proofs.Common.{◌∙◌, ℕ, sym, ap, subst, arith}
use Rattle.sector_disk.specs.Disk.{Disk}
use Rattle.game_file.specs.declared.fault.FileFault.{FileFault}
use Rattle.game_file.specs.State.{count_behind}
use Rattle.tree_table.specs.Held.{StoresTrees}
use Rattle.tree_file.specs.File.{state_of}
use Rattle.tree_file.specs.InFile.{file_in}
use Rattle.tree_file.specs.MoveCauses.{IsMoved, IsNotMoved, LeavesPages}
use Rattle.tree_file.proofs.Renewal.{moved, moved_pages, named_anew, no_goal, not_moved}
use Rattle.tree_file.proofs.renew.TreeFile+P+2.renew.Goals as goal

pub returns-in-Ok-clause-moved : goal.returns-in-Ok-clause-moved
returns-in-Ok-clause-moved g c =
    let self = c.args.self in
    let root = c.slot_naming-root.ensures in
    let anew = named_anew 3 _ (file_in self) c.slot_naming-root.result root.layout root.pages c.capacity.ensures root.names root.packing in
    let left = g.P.Pages.store c.commit.new.self in
    let is = moved 3 (file_in self) c.requires c.slot_naming-root.result anew left c.commit.ensures.commits c.in-Ok.ensures.ok
    (g.met.P.Pages.sound c.commit.new.self) (root.commits ∙ ap count_behind self.counted) c.in-Ok.ensures.after in
    subst (λ (d : Disk). IsMoved (StoresTrees 2) (StoresTrees 3) (state_of (file_in self)) d (g.P.Device.SectorDisk.failures c.give_back.result))
    (sym c.give_back.ensures.disk)
    (subst (λ (n : ℕ). IsMoved (StoresTrees 2) (StoresTrees 3) (state_of (file_in self)) left.disk n) (sym c.give_back.ensures.failures) is)

pub returns-in-Ok-clause-goal : goal.returns-in-Ok-clause-goal
returns-in-Ok-clause-goal g c = no_goal (file_in c.args.self) c.requires (omega arith)

pub returns-in-Ok-clause-pages : goal.returns-in-Ok-clause-pages
returns-in-Ok-clause-pages g c =
    let self = c.args.self in
    let root = c.slot_naming-root.ensures in
    let anew = named_anew 3 _ (file_in self) c.slot_naming-root.result root.layout root.pages c.capacity.ensures root.names root.packing in
    subst (λ (d : Disk). LeavesPages (state_of (file_in self)).disk d) (sym c.give_back.ensures.disk)
    (moved_pages 3 (file_in self) c.requires c.slot_naming-root.result anew (g.P.Pages.store c.commit.new.self) c.commit.ensures.commits
    c.in-Ok.ensures.ok (g.met.P.Pages.sound c.commit.new.self))

pub returns-clause-goal : goal.returns-clause-goal
returns-clause-goal g c = no_goal (file_in c.args.self) c.requires (omega arith)

pub returns-clause-refused : goal.returns-clause-refused
returns-clause-refused g c =
    let self = c.args.self in
    let root = c.slot_naming-root.ensures in
    let anew = named_anew 3 _ (file_in self) c.slot_naming-root.result root.layout root.pages c.capacity.ensures root.names root.packing in
    let left = g.P.Pages.store c.commit.new.self in
    let told = not_moved 3 (file_in self) c.requires c.slot_naming-root.result anew left c.commit.ensures.commits c.in-Err.fault
    c.in-Err.ensures.cause in
    let with_fault = subst (λ (f : FileFault). IsNotMoved (StoresTrees 2) (StoresTrees 3) (state_of (file_in self)) left.disk
    left.failures f) (sym c.into.ensures) told in
    let with_count = subst (λ (n : ℕ). IsNotMoved (StoresTrees 2) (StoresTrees 3) (state_of (file_in self)) left.disk n c.into.result)
    (sym c.give_back-in-Err.ensures.failures) with_fault in
    subst (λ (d : Disk). IsNotMoved (StoresTrees 2) (StoresTrees 3) (state_of (file_in self)) d
    (g.P.Device.SectorDisk.failures c.give_back-in-Err.result) c.into.result)
    (sym c.give_back-in-Err.ensures.disk) with_count
