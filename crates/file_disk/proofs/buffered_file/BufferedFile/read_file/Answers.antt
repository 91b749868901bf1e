use Rattle.std.proofs.Common.{ap, sym, subst, ◌∙◌, Bool, List, ℕ}
use Rattle.std.specs.Prelude.{IsTrue}
use Rattle.file_disk.specs.Bytes.{sector_of}
use Rattle.file_disk.proofs.Shown.{page_gives}
use Rattle.file_disk.proofs.buffered_file.BufferedFile.read_file.Goals as goal

pub returns-then-give-clause-bytes : goal.returns-then-give-clause-bytes
returns-then-give-clause-bytes g c = λ honest.
    c.if-give.ensures.given ∙ page_gives _ _ c.args.at (c.args.self.now.copied honest _ c.if-give.ensures.its)

pub returns-then-give-2-clause-bytes : goal.returns-then-give-2-clause-bytes
returns-then-give-2-clause-bytes g c = λ honest.
    let now : IsTrue (g.F.ByteFile.honest c.load_page.new.self.file) = subst (λ (b : Bool). IsTrue b) (sym c.load_page.ensures.same_honest) honest in
    c.if-give-2.ensures.given ∙ page_gives _ _ c.args.at (c.load_page.new.self.copied now _ c.if-give-2.ensures.its)
    ∙ ap (λ (b : List ℕ). sector_of b c.args.at) (c.load_page.ensures.unchanged honest)
