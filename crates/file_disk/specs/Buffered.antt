-- The buffers of a file as a disk.
use Rattle.std.specs.Prelude.{ℕ, Bool, true, false, length, IsTrue}
use Rattle.std.proofs.Common.{refl, arith}
use Rattle.sector_disk.specs.Disk.{Disk, with_failed}
use Rattle.sector_disk.specs.Unknown.{unknown_disk}
use Rattle.file_disk.specs.Buffers.{Buffers, HasNoRoomBehind, buffered_now}
use Rattle.file_disk.specs.Past.{shown_then}
use Rattle.file_disk.specs.Shown.{shown}
use Rattle.file_disk.specs.lemmas.Narrow.{length-image_of, now_allowed}

-- over an honest file: a moment passes with each thing that happens to the file, and what the disk showed then is what the file did
abbrev pub honest_disk : (b : Buffers) → HasNoRoomBehind b → Disk
honest_disk b ends = record {
  now = buffered_now b;
  clock = length b.happened;
  was = shown_then b.happened b.content;
  honest = true;
  failed_writes = 0;
  now_allows = now_allowed b ends;
  lasts = omega (arith, length-image_of (shown b.waiting b.content) b.sectors);
}

-- over any file, of which so many writes, syncs and extensions have failed: of one that is not honest nothing is known
unfoldable pub buffered_disk : (honest : Bool) (b : Buffers) → (IsTrue honest → HasNoRoomBehind b) → ℕ → Disk
buffered_disk true b ends failed = with_failed (honest_disk b (ends refl)) failed
buffered_disk false b ends failed = with_failed (unknown_disk b.sectors) failed
