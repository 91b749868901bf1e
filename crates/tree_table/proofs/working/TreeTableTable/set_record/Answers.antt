use Rattle.std.proofs.Common.{ap, ◌∙◌}
use Rattle.tree_table.specs.declared.slot.TreeSlot.{TreeSlot}
use Rattle.std.proofs.lemmas.Result.{IfErr-weaker}
use Rattle.tree_table.specs.WorkTable.{WorkFails}
use Rattle.tree_table.specs.InTrees.{work_in}
use Rattle.tree_table.specs.lemmas.Frames.{stays_goes_on, goes_on_then, fails_since}
use Rattle.tree_table.proofs.HeldTable.{writes_so}
use Rattle.tree_table.proofs.Commits.{on_ok}
use Rattle.tree_table.proofs.working.TreeTableTable.set_record.Goals as goal

pub returns-clause-wrote : goal.returns-clause-wrote
returns-clause-wrote g c =
    on_ok _ _ c.set_seen.result
    (λ wrote. writes_so work_in _ _ (goes_on_then (stays_goes_on c.in_ok-see.ensures.stays) wrote.ahead)
    (wrote.known ∙ ap (λ (s : TreeSlot). s.sizes.counts.known) c.in_ok-see.ensures.stays.slot)) c.set_seen.ensures.wrote

pub returns-clause-fault : goal.returns-clause-fault
returns-clause-fault g c =
    IfErr-weaker c.set_seen.result (WorkFails (work_in c.see.new.self) (work_in c.set_seen.new.self))
    (WorkFails (work_in c.args.self.now) (work_in c.set_seen.new.self))
    (λ fault fails. fails_since fault (stays_goes_on c.in_ok-see.ensures.stays) fails) c.set_seen.ensures.fault
