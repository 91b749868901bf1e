use Rattle.std.proofs.Common.{◌≡◌, ℕ, ◌<◌, ◌≤◌, Some}
use Rattle.file_disk.specs.Bytes.{sector_of}
use Rattle.file_disk.specs.WaitingSectors.{slot_in, given}
use Rattle.file_disk.proofs.waiting_writes.WaitingWrites.lay_over.Given as goal

abbrev pub invariant-loop-part : goal.invariant-loop-part
invariant-loop-part l = record {
  laid : (s : ℕ) → s < l.part → sector_of l.into s
      ≡ given l.self.bytes.items (sector_of l.fn.into s) (slot_in l.self.pages.items s (Some l.place));
  still : (s : ℕ) → l.part ≤ s → sector_of l.into s ≡ sector_of l.fn.into s;
}
