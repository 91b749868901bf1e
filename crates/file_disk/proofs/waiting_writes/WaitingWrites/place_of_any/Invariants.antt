use Rattle.std.proofs.Common.{◌≢◌, ℕ, ◌<◌}
use Rattle.file_disk.specs.WaitingSectors.{page_at}
use Rattle.file_disk.proofs.waiting_writes.WaitingWrites.place_of_any.Given as goal

abbrev pub invariant-loop-place : goal.invariant-loop-place
invariant-loop-place l = (p : ℕ) → p < l.place → (page_at l.self.pages.items p).number ≢ l.page
