use Rattle.std.proofs.Common.{◌≡◌, take}
use Rattle.sector_disk.specs.lemmas.Log.{IsLastSyncOf}
use Rattle.sector_disk.proofs.log.last_sync.Given as goal

abbrev pub invariant-loop-event : goal.invariant-loop-event
invariant-loop-event l = record {
  count : l.count ≡ l.event-index;
  is : IsLastSyncOf (take l.event-index l.events) l.last;
}
