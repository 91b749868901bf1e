use Rattle.std.proofs.Common.{◌≡◌, ℕ, refl, sym, ◌∙◌, ap, subst}
use Rattle.page_store.specs.declared.fault.PageFault.{PageFault}
use Rattle.page_store.specs.declared.fault.PageFault.TheVariants as page
use Rattle.page_store.specs.Frames.{PagesRefused}
use Rattle.page_store.specs.Marks.{free_count}
use Rattle.page_store.specs.Store.{Store}
use Rattle.table.specs.declared.fault.TableFault.{TableFault}
use Rattle.table.specs.declared.fault.TableFault.TheVariants.{Disk, TableFull}
use Rattle.btree.specs.declared.page.widths.Widths.{Widths}
use Rattle.btree.specs.Changes.{MapPutCause}
use Rattle.tree_table.specs.declared.slot.TreeSlot.{TreeSlot}
use Rattle.tree_table.specs.Causes.{HasNoForest, ChangeCause}
use Rattle.tree_table.specs.Frames.{IsPutIn}
use Rattle.tree_table.specs.lemmas.Faults.{fault_of}
use Rattle.tree_table.proofs.Faults.{put_refused}
use Rattle.tree_table.proofs.Forests.{put_fails, put_is}
use Rattle.tree_table.proofs.change.put_in.Goals as goal

pub returns-in-Ok-clause-ok : goal.returns-in-Ok-clause-ok
returns-in-Ok-clause-ok g c =
    let old = g.P.Pages.store c.args.store.now in
    let new = g.P.Pages.store c.put.new.store in
    let put = c.in-Ok.ensures in
    subst (λ (s : TreeSlot). IsPutIn c.args.slot c.args.tree c.args.key.now c.args.value.now old new s) (sym c.slot_with.ensures)
    (put_is c.args.slot c.args.tree c.args.key.now c.args.value.now old new c.widths_of-widths.result c.root.result c.in-Ok.root
    c.widths_of-widths.ensures.keys c.widths_of-widths.ensures.values c.root.ensures put.map put.ok put.first)

pub returns-in-Err-clause-err : goal.returns-in-Err-clause-err
returns-in-Err-clause-err g c =
    let old = g.P.Pages.store c.args.store.now in
    let new = g.P.Pages.store c.put.new.store in
    subst (λ (f : TableFault). PagesRefused Disk (ChangeCause HasNoForest c.args.slot) 49 old new f) (sym c.table_fault.ensures)
    (put_refused (ChangeCause HasNoForest c.args.slot) old new _ c.in-Err.ensures.err
    (put_fails c.args.slot old new c.widths_of-widths.result c.args.tree c.root.result _
    c.widths_of-widths.ensures.keys c.widths_of-widths.ensures.values c.root.ensures))

-- where no page was free at first
full_for : (w : Widths) (root : ℕ) (old new : Store) (fault : PageFault) → MapPutCause w root old new fault → (fault ≡ page.TableFull → new ≡ old)
    → fault_of fault ≡ TableFull → free_count old.marks ≡ 0
full_for w root old new page.Disk cause refused is = absurd (cc)
full_for w root old new page.NotATable cause refused is = absurd (cc)
full_for w root old new page.Damaged cause refused is = absurd (cc)
full_for w root old new page.TableFull cause refused is = ap (λ (s : Store). free_count s.marks) (sym (refused refl)) ∙ cause
full_for w root old new page.OutOfMemory cause refused is = absurd (cc)
full_for w root old new page.Closed cause refused is = absurd (cc)

pub returns-in-Err-clause-full : goal.returns-in-Err-clause-full
returns-in-Err-clause-full g c = λ none is.
    full_for c.widths_of-widths.result c.root.result (g.P.Pages.store c.args.store.now) (g.P.Pages.store c.put.new.store) _ c.in-Err.ensures.err.cause
    (c.in-Err.ensures.refused (c.root.ensures ∙ none)) (sym c.table_fault.ensures ∙ is)
