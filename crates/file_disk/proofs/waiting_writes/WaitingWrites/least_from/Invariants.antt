use Rattle.file_disk.specs.lemmas.Search.{IsLeast}
use Rattle.file_disk.proofs.waiting_writes.WaitingWrites.least_from.Given as goal

abbrev pub invariant-loop-place : goal.invariant-loop-place
invariant-loop-place l = IsLeast l.self.pages.items l.place l.number l.least l.found
