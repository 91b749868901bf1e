use Rattle.std.proofs.Common.{sym, ap, arith, ◌∙◌, ◌≡◌, ◌<◌, length}
use Rattle.file_disk.specs.declared.waiting_page.WaitingPage.{WaitingPage}
use Rattle.file_disk.specs.WaitingSectors.{page_at}
use Rattle.file_disk.proofs.Slots.{place_found, place_none, stands}
use Rattle.file_disk.proofs.waiting_writes.WaitingWrites.place_of_any.Goals as goal

pub returns-then-index-page : goal.returns-then-index-page
returns-then-index-page c =
    let within : c.loop-place.place < length c.args.self.now.pages.items = omega arith in
    let is : (page_at c.args.self.now.pages.items c.loop-place.place).number ≡ c.args.page =
    ap (λ (p : WaitingPage). p.number) (stands c.args.self.now.pages.items _ _ c.index.ensures within) ∙ c.if-index-page.true in
    record { is = sym (place_found _ _ _ _ c.args.self.now.distinct c.loop-place-test.true is); there = (c.loop-place-test.true, is) }

pub returns-clause-is : goal.returns-clause-is
returns-clause-is c = sym (place_none _ _ _ (λ p lt. c.loop-place.invariant p (omega arith)))
