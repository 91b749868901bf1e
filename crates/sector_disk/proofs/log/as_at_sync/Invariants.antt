use Rattle.std.proofs.Common.{◌≡◌, ◌-◌, length, drop}
use Rattle.sector_disk.specs.Past.{undone}
use Rattle.sector_disk.proofs.log.as_at_sync.Given as goal

abbrev pub invariant-loop-count : goal.invariant-loop-count
invariant-loop-count l = l.sectors.items ≡ undone (drop (length l.events - l.count) l.events) l.contents
