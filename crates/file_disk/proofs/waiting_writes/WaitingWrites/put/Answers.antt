use Rattle.std.proofs.Common.{◌∙◌}
use Rattle.file_disk.proofs.waiting_writes.WaitingWrites.put.Goals as goal

pub returns-clause-others : goal.returns-clause-others
returns-clause-others c = λ content k other. c.fill.ensures.others content k other ∙ c.in-Some.ensures.same content k

pub returns-clause-slots : goal.returns-clause-slots
returns-clause-slots c = λ k other. c.fill.ensures.slots k other ∙ c.in-Some.ensures.slots k
