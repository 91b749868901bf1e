use Rattle.std.proofs.Common.{◌≡◌, length}
use Rattle.file_disk.proofs.waiting_writes.forget_notes.Given as goal

abbrev pub invariant-loop-page : goal.invariant-loop-page
invariant-loop-page l = length l.hints.items ≡ 16384
