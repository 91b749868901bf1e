use Rattle.std.proofs.Common.{◌≡◌, ◌<◌, ◌≤◌, ℕ, length, true, false}
use Rattle.std.specs.Prelude.{slice_index_or}
use Rattle.sector_disk.proofs.log.clear_from.Given as goal

abbrev pub invariant-loop-place : goal.invariant-loop-place
invariant-loop-place l = record {
  size : length l.synced.items ≡ length l.initial.synced.items;
  below : (k : ℕ) → k < l.end → slice_index_or l.synced.items k true ≡ slice_index_or l.initial.synced.items k true;
  cleared : (k : ℕ) → l.end ≤ k → k < l.place → slice_index_or l.synced.items k true ≡ false;
}
