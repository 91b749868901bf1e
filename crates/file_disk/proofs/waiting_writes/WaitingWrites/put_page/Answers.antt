use Rattle.std.proofs.Common.{◌∙◌}
use Rattle.file_disk.proofs.waiting_writes.WaitingWrites.put_page.Goals as goal

pub returns-clause-others : goal.returns-clause-others
returns-clause-others c = record {
  shown = λ content k outside. c.fill_page.ensures.others.shown content k outside ∙ c.in-Some.ensures.same content k;
  slots = λ k outside. c.fill_page.ensures.others.slots k outside ∙ c.in-Some.ensures.slots k;
}

pub returns-clause-inside : goal.returns-clause-inside
returns-clause-inside c = λ end within inside. c.fill_page.ensures.inside end within (c.in-Some.ensures.inside end inside)
