use Rattle.std.proofs.Common.{arith, ◌<◌, ◌≡◌, ◌*◌, ◌+◌, ℕ, Some, length, ap, sym, subst}
use Rattle.file_disk.specs.declared.waiting_page.WaitingPage.{WaitingPage}
use Rattle.file_disk.specs.WaitingSectors.{page_at, slot_of}
use Rattle.file_disk.proofs.Slots.{stands}
use Rattle.file_disk.proofs.Flushes.{run_waits, run_put, true_on, on_true}
use Rattle.file_disk.proofs.flush.put_run.Goals as goal

pub put_slots-requires-clause-wait : goal.put_slots-requires-clause-wait
put_slots-requires-clause-wait g c = λ k lt.
    let within : c.args.place < length c.args.waiting.now.pages.items = omega (arith, c.args.waiting.now.few, c.requires.run.within, c.requires.some) in
    let number : (page_at c.args.waiting.now.pages.items c.args.place).number ≡ c.index.result.now.number =
    ap (λ (w : WaitingPage). w.number) (stands c.args.waiting.now.pages.items _ _ c.index.ensures within) in
    subst (λ (n : ℕ). slot_of c.args.waiting.now.pages.items c.args.waiting.now.count (8 * n + k) ≡ Some (8 * c.args.place + k)) number
    (run_waits _ _ _ _ c.args.waiting.now.distinct c.requires.run k lt)

pub returns-clause-put : goal.returns-clause-put
returns-clause-put g c = λ honest.
    let within : c.args.place < length c.args.waiting.now.pages.items = omega (arith, c.args.waiting.now.few, c.requires.run.within, c.requires.some) in
    let number : (page_at c.args.waiting.now.pages.items c.args.place).number ≡ c.index.result.now.number =
    ap (λ (w : WaitingPage). w.number) (stands c.args.waiting.now.pages.items _ _ c.index.ensures within) in
    true_on c.put_slots.result (λ done. run_put _ _ _ _ _ _ _ (sym number) c.requires.run (on_true _ (c.put_slots.ensures.put honest) done))
