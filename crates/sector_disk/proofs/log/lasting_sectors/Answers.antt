use Rattle.std.proofs.Common.{[], ℕ, Option, None, take, get_or, sym, ap, ◌∙◌}
use Rattle.std.proofs.lemmas.List.{take_more}
use Rattle.sector_disk.specs.declared.log.Event.TheVariants.{Wrote}
use Rattle.sector_disk.specs.Past.{end_by, end_after}
use Rattle.sector_disk.proofs.Kept.{end_after-push}
use Rattle.sector_disk.proofs.log.lasting_sectors.Goals as goal

pub loop-event-preserved : goal.loop-event-preserved
loop-event-preserved c =
    let more = take_more c.args.events.now c.loop-event.event-index (Wrote 0 []) c.loop-event-test.true in
    c.end_behind-end.ensures
    ∙ ap (λ (e : Option ℕ). end_by e (get_or c.args.events.now c.loop-event.event-index (Wrote 0 []))) c.loop-event.invariant
    ∙ sym (end_after-push None (take c.loop-event.event-index c.args.events.now) (get_or c.args.events.now c.loop-event.event-index (Wrote 0 [])))
    ∙ ap (end_after None) (sym more)
