use Rattle.std.proofs.Common.{◌≡◌, None, take}
use Rattle.sector_disk.specs.Past.{end_after}
use Rattle.sector_disk.proofs.log.lasting_sectors.Given as goal

abbrev pub invariant-loop-event : goal.invariant-loop-event
invariant-loop-event l = l.end ≡ end_after None (take l.event-index l.events)
