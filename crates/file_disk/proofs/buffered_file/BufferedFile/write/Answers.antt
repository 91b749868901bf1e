use Rattle.std.proofs.Common.{ap, ◌∙◌}
use Rattle.file_disk.specs.declared.waiting_writes.WaitingWrites.{WaitingWrites}
use Rattle.file_disk.specs.Shown.{shown}
use Rattle.file_disk.proofs.buffered_file.BufferedFile.write.Goals as goal

pub returns-then-flush-clause-others : goal.returns-then-flush-clause-others
returns-then-flush-clause-others g c = λ honest k other.
    c.put-then-flush.ensures.others (g.F.ByteFile.content c.flush.new.self.file) k other
    ∙ c.if-flush.ensures.shown honest k
    ∙ ap (λ (w : WaitingWrites). shown w (g.F.ByteFile.content c.args.self.now.file) k) c.if-put.ensures.refused
