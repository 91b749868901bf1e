use Rattle.std.proofs.Common.{arith, ◌≤◌, ◌+◌, ◌*◌, length}
use Rattle.file_disk.proofs.Flushes.{part_is, part_fits, write_puts, written_each, true_on, on_true}
use Rattle.file_disk.proofs.Events.{writes_tried, part_waits}
use Rattle.file_disk.proofs.flush.put_slots.Goals as goal

pub returns-clause-puts : goal.returns-clause-puts
returns-clause-puts g c = λ honest.
    let within : 512 * c.args.slot + 512 * c.args.sectors ≤ length c.args.waiting.now.bytes.items =
    omega (arith, c.args.waiting.now.sized, c.args.waiting.now.few, c.requires.there) in
    let inside : 512 * c.args.first + 512 * c.args.sectors ≤ length (g.F.ByteFile.content c.args.file.now) = omega (arith, c.requires.inside honest) in
    let is = part_is _ _ (512 * c.args.slot) (512 * c.args.sectors) c.deref.ensures.value in
    let fits = part_fits _ _ _ _ _ _ is within inside in
    write_puts _ _ _ _ _ _ _ _ _ _ c.args.waiting.now.distinct c.requires.wait is within (c.write_at.ensures.others honest fits)
    (c.write_at.ensures.written honest fits)

pub returns-clause-put : goal.returns-clause-put
returns-clause-put g c = λ honest.
    let within : 512 * c.args.slot + 512 * c.args.sectors ≤ length c.args.waiting.now.bytes.items =
    omega (arith, c.args.waiting.now.sized, c.args.waiting.now.few, c.requires.there) in
    let inside : 512 * c.args.first + 512 * c.args.sectors ≤ length (g.F.ByteFile.content c.args.file.now) = omega (arith, c.requires.inside honest) in
    let is = part_is _ _ (512 * c.args.slot) (512 * c.args.sectors) c.deref.ensures.value in
    let fits = part_fits _ _ _ _ _ _ is within inside in
    true_on c.write_at.result (λ done. written_each _ _ _ _ _ _ is within (on_true _ (c.write_at.ensures.written honest fits) done))

pub returns-clause-touched : goal.returns-clause-touched
returns-clause-touched g c = λ honest.
    let within : 512 * c.args.slot + 512 * c.args.sectors ≤ length c.args.waiting.now.bytes.items =
    omega (arith, c.args.waiting.now.sized, c.args.waiting.now.few, c.requires.there) in
    let is = part_is _ _ (512 * c.args.slot) (512 * c.args.sectors) c.deref.ensures.value in
    writes_tried c.args.waiting.now _ _ _ c.write_at.result (part_waits c.args.waiting.now _ _ _ _ _ c.requires.wait is within)
    (c.write_at.ensures.noted honest) (c.write_at.ensures.tried honest) (returns-clause-puts g c honest).same
