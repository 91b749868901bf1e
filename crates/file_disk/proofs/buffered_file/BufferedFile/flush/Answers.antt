use Rattle.std.proofs.Common.{ap, sym, ◌∙◌}
use Rattle.file_disk.specs.declared.waiting_writes.WaitingWrites.{WaitingWrites}
use Rattle.file_disk.proofs.Shown.{all_in_file, nothing_waits}
use Rattle.file_disk.proofs.buffered_file.BufferedFile.flush.Goals as goal

pub returns-clause-in_file : goal.returns-clause-in_file
returns-clause-in_file g c = λ honest k.
    sym (all_in_file _ _ _ _ (c.if-not-put_all.ensures.put honest) k) ∙ (c.put_all.ensures.puts honest).same.shown k

pub returns-clause-shown : goal.returns-clause-shown
returns-clause-shown g c = λ honest k.
    nothing_waits _ _ _ (g.F.ByteFile.content c.put_all.new.file) (ap (λ (w : WaitingWrites). w.count) c.swap.ensures.x_after ∙ c.clear-2.ensures.none) k ∙ returns-clause-in_file g c honest k
