use Rattle.std.proofs.Common.{◌≡◌, ◌+◌, ◌*◌, ◌<◌, Bool, true, Some, None, length, sym, ap, ◌∙◌, arith}
use Rattle.std.specs.Prelude.{if◌then◌else◌}
use Rattle.file_disk.specs.declared.waiting_page.WaitingPage.{WaitingPage}
use Rattle.file_disk.specs.Bytes.{sector_of}
use Rattle.file_disk.specs.WaitingSectors.{page_at, has_sector, given}
use Rattle.file_disk.proofs.Flushes.{part_is}
use Rattle.file_disk.proofs.Shown.{other_part}
use Rattle.file_disk.proofs.Slots.{stands}
use Rattle.file_disk.proofs.waiting_writes.WaitingWrites.lay_part.Goals as goal

pub returns-then-index-part-clause-its : goal.returns-then-index-part-clause-its
returns-then-index-part-clause-its c =
    let waiting = c.args.self.now in
    let place = c.args.place in
    let part = c.args.part in
    let within : place < length waiting.pages.items = omega (arith, c.requires.there, waiting.few) in
    let has : has_sector (page_at waiting.pages.items place) part ≡ true =
    ap (λ (p : WaitingPage). has_sector p part) (stands waiting.pages.items place c.index.result.now c.index.ensures within) ∙ c.if-index-part.true in
    let from : sector_of c.put_part.new.page part ≡ sector_of waiting.bytes.items (8 * place + part) =
    c.put_part.ensures.its ∙ part_is _ waiting.bytes.items (512 * (8 * place + part)) 512 c.deref.ensures.value in
    from ∙ sym (ap (λ (b : Bool). given waiting.bytes.items (sector_of c.args.into.now part) (if b then Some (8 * place + part) else None)) has)

pub returns-then-index-part-clause-others : goal.returns-then-index-part-clause-others
returns-then-index-part-clause-others c = λ s ne. other_part c.args.into.now c.put_part.new.page c.args.part s c.put_part.ensures.others ne
