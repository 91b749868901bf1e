use Rattle.std.proofs.Common.{List, ap, sym, ◌∙◌, arith}
use Rattle.page_store.specs.Store.{reads}
use Rattle.page_store.specs.lemmas.Works.{works_refl}
use Rattle.btree.specs.declared.page.kind.Kind.TheVariants.{Leaf}
use Rattle.btree.specs.Page.{Item, items_in}
use Rattle.btree.specs.Entries.{first_key, put_entry}
use Rattle.btree.specs.lemmas.EntryPut.{IsEntryPut}
use Rattle.page_store.specs.Marks.{free_count}
use Rattle.btree.proofs.puts.InPlace.{of_done, if_done, edit_refused}
use Rattle.btree.proofs.puts.Replacements.{stays}
use Rattle.btree.proofs.puts.WrittenItems.{written_one}
use Rattle.btree.proofs.put.in_place.put_on.Goals as goal

pub returns-clause-written : goal.returns-clause-written
returns-clause-written g c = λ honest.
    let w = c.args.widths in
    let q = c.args.page in
    let old = g.P.Pages.store c.args.store.now in
    let new = g.P.Pages.store c.edit_page.new.self in
    let was : List Item = items_in w Leaf (reads old q) in
    let list : List Item = put_entry was c.args.key.now c.args.value.now in
    of_done c.edit_page.result (λ (put : IsEntryPut w c.args.key.now c.args.value.now c.args.only_new (reads old q) (reads new q)) top leads ascend first.
    written_one w Leaf q old list q top old new leads
    (ap first_key (sym (put.items ascend)) ∙ put.first ascend top.0 first)
    (stays q old c.requires.fresh) (works_refl old) c.requires.is_page c.requires.there
    (λ h. put.page) (λ h. put.items ascend) c.edit_page.ensures.others c.edit_page.ensures.marks)
    (c.edit_page.ensures.edited honest)

pub returns-clause-new_key : goal.returns-clause-new_key
returns-clause-new_key g c = λ honest.
    let w = c.args.widths in
    let q = c.args.page in
    let old = g.P.Pages.store c.args.store.now in
    let new = g.P.Pages.store c.edit_page.new.self in
    of_done c.edit_page.result (λ (put : IsEntryPut w c.args.key.now c.args.value.now c.args.only_new (reads old q) (reads new q)). put.new_key)
    (c.edit_page.ensures.edited honest)

pub returns-clause-ok : goal.returns-clause-ok
returns-clause-ok g c =
    let told = c.edit_page.ensures in
    if_done c.edit_page.result (λ is_open. record { works = told.works; «open» = is_open; takes = omega (arith, ap free_count told.marks) }) told.open

pub returns-clause-err : goal.returns-clause-err
returns-clause-err g c =
    let told = c.edit_page.ensures in
    edit_refused c.edit_page.result told.works told.marks told.untouched told.cause
