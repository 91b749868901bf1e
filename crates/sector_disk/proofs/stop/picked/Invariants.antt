use Rattle.std.proofs.Common.{◌≡◌, ◌<◌, ◌≤◌, ◌%◌, ℕ, length, true}
use Rattle.std.specs.Prelude.{◌≢◌, slice_index_or}
use Rattle.sector_disk.specs.Disk.{sector}
use Rattle.sector_disk.specs.Stops.{digit, unsynced_below, left_at}
use Rattle.sector_disk.proofs.stop.picked.Given as goal

abbrev pub invariant-loop-place : goal.invariant-loop-place
invariant-loop-place l = record {
  size : length l.left.items ≡ l.place;
  number : l.number ≡ unsynced_below (λ j. slice_index_or l.synced j true) l.place % 32;
  there : (k : ℕ) → l.lasting ≤ k → k < l.place → digit l.pick (unsynced_below (λ j. slice_index_or l.synced j true) k) ≢ 0;
  each : (k : ℕ) → k < l.place → sector l.left.items k ≡ left_at l.pick (λ j. slice_index_or l.synced j true) l.before l.written k;
}
