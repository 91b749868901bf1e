use Rattle.std.proofs.Common.{sym, ap, arith, ◌∙◌, ◌≡◌, ◌<◌, ◌-◌, length}
use Rattle.std.proofs.lemmas.Grind.{get_or_default_zero}
use Rattle.file_disk.specs.declared.waiting_page.WaitingPage.{WaitingPage}
use Rattle.file_disk.specs.WaitingSectors.{page_at}
use Rattle.file_disk.proofs.Slots.{not_noted, place_found, stands}
use Rattle.file_disk.proofs.waiting_writes.WaitingWrites.place.Goals as goal

pub returns-then-hint-eq0-clause-is : goal.returns-then-hint-eq0-clause-is
returns-then-hint-eq0-clause-is c =
    let hints = c.args.self.now.hints.items in
    let within : c.hint_of.result < length hints = omega (arith, c.hint_of.ensures, c.args.self.now.hinted) in
    sym (not_noted _ _ _ c.hint_of.result hints c.args.self.now.noted c.hint_of.ensures
    (sym (get_or_default_zero hints _ _ within) ∙ sym c.index.ensures ∙ sym c.from-hint.ensures ∙ c.if-hint-eq0.true))

pub returns-then-index-page-clause-is : goal.returns-then-index-page-clause-is
returns-then-index-page-clause-is c =
    let place = c.from-hint.result - 1 in
    let taken : place < c.args.self.now.count = omega arith in
    let within : place < length c.args.self.now.pages.items = omega (arith, taken, c.args.self.now.few) in
    let is : (page_at c.args.self.now.pages.items place).number ≡ c.args.page =
    ap (λ (p : WaitingPage). p.number) (stands c.args.self.now.pages.items _ _ c.index-then-hint-self.ensures within) ∙ c.if-index-page.true in
    sym (place_found _ _ _ _ c.args.self.now.distinct taken is)
