use Rattle.file_disk.specs.lemmas.WaitingSectors.{IsRun}
use Rattle.file_disk.proofs.waiting_writes.WaitingWrites.run_at.Given as goal

abbrev pub invariant-loop-run : goal.invariant-loop-run
invariant-loop-run l = IsRun l.self.pages.items l.self.count l.place l.run
