use Rattle.std.proofs.Common.{◌≡◌, inr, ℕ, length, sym, ◌∙◌, ap, subst}
use Rattle.page_store.specs.Store.{reads}
use Rattle.page_chain.specs.Chain.{IsChain, first_of}
use Rattle.table.specs.Records.{nothing}
use Rattle.tree_table.specs.declared.slot.TreeSlot.{TreeSlot}
use Rattle.tree_table.specs.WorkTable.{text_slot, HoldsTable}
use Rattle.tree_table.proofs.Bare.{text_holds}
use Rattle.earlier_layouts.proofs.copying.write_text.Goals as goal

pub returns-clause-holds : goal.returns-clause-holds
returns-clause-holds g c = λ honest.
    let text = c.args.text.now in
    let mid = g.P.Pages.store c.write_chain.new.store in
    let told = c.in_ok-pages.ensures.ok in
    let pages = c.in_ok-pages.pages.items in
    let first_is : first_of pages ≡ c.first_page-first.result = sym (c.first_page-first.ensures ∙ ap first_of c.deref.ensures.value) in
    let is : text_slot c.args.packing 0 (first_of pages) (length text) c.args.packed ≡ c.slot_of.result =
    (λ i. text_slot c.args.packing 0 (first_is i) (length text) c.args.packed) ∙ sym c.slot_of.ensures in
    subst (λ (s : TreeSlot). HoldsTable s text nothing mid) is
    (text_holds c.args.packing 0 (first_of pages) (length text) c.args.packed text pages mid c.requires.some c.requires.short
    (subst (λ (n : ℕ). IsChain n (first_of pages) pages text (reads mid)) (sym c.write_chain.ensures.works.same_pages) (told.chain honest))
    (λ p here. inr (told.fresh p here)))
