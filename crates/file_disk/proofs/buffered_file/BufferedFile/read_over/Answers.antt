use Rattle.std.proofs.Common.{◌≡◌, ◌+◌, ◌*◌, ℕ, List, Some, sym, ap, ◌∙◌}
use Rattle.file_disk.specs.Bytes.{bytes_at, sector_of}
use Rattle.file_disk.specs.WaitingSectors.{slot_in, given}
use Rattle.file_disk.proofs.Flushes.{on_true}
use Rattle.file_disk.proofs.Shown.{given_waits, part_read, shown_over}
use Rattle.file_disk.proofs.buffered_file.BufferedFile.read_over.Goals as goal

pub returns-then-waits_whole-clause-bytes : goal.returns-then-waits_whole-clause-bytes
returns-then-waits_whole-clause-bytes g c = λ honest k lt.
    let waiting = c.args.self.now.waiting in
    let content = g.F.ByteFile.content c.args.self.now.file in
    let page = c.args.page in
    let place = c.args.place in
    c.lay_over.ensures k lt
    ∙ given_waits waiting.pages.items waiting.bytes.items _ (sector_of content (8 * page + k)) k place (c.if-waits_whole.ensures k lt)
    ∙ sym (shown_over waiting.pages.items waiting.count waiting.bytes.items content page k place lt c.requires.its)

pub returns-clause-bytes : goal.returns-clause-bytes
returns-clause-bytes g c = λ honest k lt.
    let waiting = c.args.self.now.waiting in
    let content = g.F.ByteFile.content c.args.self.now.file in
    let page = c.args.page in
    let place = c.args.place in
    let is : c.read_at-done.new.into ≡ bytes_at content (4096 * page) 4096 = on_true _ (c.read_at-done.ensures.bytes honest) c.if-not-done.false
    ∙ ap (λ (n : ℕ). bytes_at content (4096 * page) n) c.told-into in
    c.lay_over-2.ensures k lt
    ∙ ap (λ (b : List ℕ). given waiting.bytes.items b (slot_in waiting.pages.items k (Some place))) (part_read content c.read_at-done.new.into page k lt is)
    ∙ sym (shown_over waiting.pages.items waiting.count waiting.bytes.items content page k place lt c.requires.its)
