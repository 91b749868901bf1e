use Rattle.std.proofs.Common.{ap, ◌∙◌, ◌*◌, ℕ, sym}
use Rattle.std.proofs.lemmas.Option.{same_Some}
use Rattle.file_disk.specs.Bytes.{bytes_at}
use Rattle.file_disk.proofs.read_page.ReadPage.load.Goals as goal

pub returns-then-read_at-clause-copied : goal.returns-then-read_at-clause-copied
returns-then-read_at-clause-copied g c = λ honest page is.
    c.if-read_at.ensures.bytes honest
    ∙ ap (λ (n : ℕ). bytes_at (g.F.ByteFile.content c.args.file.now) (4096 * c.args.page) n) (sym c.read_at.auto.into ∙ c.read_at.array_long)
    ∙ ap (λ (p : ℕ). bytes_at (g.F.ByteFile.content c.args.file.now) (4096 * p) 4096) (same_Some _ _ is)
