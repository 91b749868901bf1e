use Rattle.std.proofs.Common.{◌≡◌, ◌*◌, ℕ, None, sym, ap, ◌∙◌}
use Rattle.file_disk.specs.Bytes.{bytes_at}
use Rattle.file_disk.specs.WaitingSectors.{place_of}
use Rattle.file_disk.proofs.Flushes.{on_true, true_on}
use Rattle.file_disk.proofs.Shown.{part_read, shown_apart}
use Rattle.file_disk.proofs.buffered_file.BufferedFile.read_page.Goals as goal

pub returns-in-None-clause-bytes : goal.returns-in-None-clause-bytes
returns-in-None-clause-bytes g c = λ honest.
    let waiting = c.args.self.now.waiting in
    let content = g.F.ByteFile.content c.args.self.now.file in
    let page = c.args.page in
    let none : place_of waiting.pages.items waiting.count page ≡ None = sym c.place.ensures.is ∙ c.in-None.is in
    true_on c.read_at.result (λ done k lt.
    part_read content c.read_at.new.into page k lt (on_true _ (c.read_at.ensures.bytes honest) done ∙ ap (λ (n : ℕ). bytes_at content (4096 * page) n) c.told-into)
    ∙ sym (shown_apart waiting.pages.items waiting.count waiting.bytes.items content page k lt none))
