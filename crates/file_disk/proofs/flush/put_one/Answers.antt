use Rattle.std.proofs.Common.{arith, ◌<◌, length}
use Rattle.file_disk.proofs.Slots.{stands}
use Rattle.file_disk.proofs.Flushes.{one_waits, one_put, true_on, on_true}
use Rattle.file_disk.proofs.flush.put_one.Goals as goal

pub put_slots-requires-clause-wait : goal.put_slots-requires-clause-wait
put_slots-requires-clause-wait g c =
    let within : c.args.place < length c.args.waiting.now.pages.items = omega (arith, c.args.waiting.now.few, c.requires.there) in
    one_waits _ _ _ _ _ c.args.waiting.now.distinct (stands _ _ _ c.index.ensures within) c.requires.there c.requires.sector c.if-not-page-sector.false

pub returns-clause-put : goal.returns-clause-put
returns-clause-put g c = λ honest.
    let within : c.args.place < length c.args.waiting.now.pages.items = omega (arith, c.args.waiting.now.few, c.requires.there) in
    true_on c.put_slots.result (λ done. one_put _ _ _ _ _ _ (stands _ _ _ c.index.ensures within) (on_true _ (c.put_slots.ensures.put honest) done))
