use Rattle.std.proofs.Common.{arith, ◌<◌, ◌≡◌, ◌+◌, ℕ, length, ap, subst}
use Rattle.file_disk.specs.declared.waiting_page.WaitingPage.{WaitingPage}
use Rattle.file_disk.specs.WaitingSectors.{page_at}
use Rattle.file_disk.specs.lemmas.WaitingSectors.{AreInFile}
use Rattle.file_disk.proofs.Slots.{stands}
use Rattle.file_disk.proofs.Flushes.{run_has}
use Rattle.file_disk.proofs.flush.put_from.Goals as goal

pub returns-clause-put : goal.returns-clause-put
returns-clause-put g c = λ honest.
    let within : c.args.place < length c.args.waiting.now.pages.items = omega (arith, c.args.waiting.now.few, c.requires.there) in
    let number : (page_at c.args.waiting.now.pages.items c.args.place).number ≡ c.index.result.now.number =
    ap (λ (w : WaitingPage). w.number) (stands c.args.waiting.now.pages.items _ _ c.index.ensures within) in
    subst (λ (n : ℕ). AreInFile c.args.waiting.now.pages.items c.args.waiting.now.count c.args.waiting.now.bytes.items
    (page_at c.args.waiting.now.pages.items c.args.place).number (n + c.run_at-run.result) (g.F.ByteFile.content c.put_run.new.file)) number
    (run_has _ _ _ _ _ _ c.args.waiting.now.distinct c.run_at-run.ensures (c.if-not-put_run.ensures.put honest))
