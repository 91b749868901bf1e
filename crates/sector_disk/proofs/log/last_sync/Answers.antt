use Rattle.std.proofs.Common.{◌≡◌, ◌+◌, ℕ, List, [], arith, length, take, get_or, sym, subst}
use Rattle.std.proofs.lemmas.List.{take_more, length-take-le}
use Rattle.sector_disk.specs.declared.log.Event.{Event}
use Rattle.sector_disk.specs.declared.log.Event.TheVariants.{Wrote}
use Rattle.sector_disk.specs.lemmas.Log.{IsLastSyncOf, last_by}
use Rattle.sector_disk.proofs.Stops.{last_next}
use Rattle.sector_disk.proofs.log.last_sync.Goals as goal

pub loop-event-preserved : goal.loop-event-preserved
loop-event-preserved c =
    let so_far = c.loop-event.invariant in
    let more = take_more c.args.events.now c.loop-event.event-index (Wrote 0 []) c.loop-event-test.true in
    let long = length-take-le c.loop-event.event-index c.args.events.now (omega (arith, c.loop-event-test.true)) in
    let count : c.loop-event.count + 1 ≡ length (take c.loop-event.event-index c.args.events.now) + 1 = omega (arith, so_far.count, long) in
    record {
      count = omega (arith, so_far.count);
      is = subst (λ (last : ℕ). IsLastSyncOf (take (c.loop-event.event-index + 1) c.args.events.now) last) (sym c.last_after-last.ensures)
          (subst (λ (es : List Event). IsLastSyncOf es
          (last_by (get_or c.args.events.now c.loop-event.event-index (Wrote 0 [])) (c.loop-event.count + 1) c.loop-event.last))
          (sym more) (last_next _ _ _ _ count so_far.is));
    }
