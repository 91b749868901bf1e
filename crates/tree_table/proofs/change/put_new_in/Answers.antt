use Rattle.std.proofs.Common.{◌≡◌, ℕ, ◌+◌, List, Option, IfSome, IfNone, OnSome, sym, subst}
use Rattle.page_store.specs.Frames.{PagesRead, PagesRefused, PagesWritten}
use Rattle.page_store.specs.Marks.{free_count}
use Rattle.table.specs.declared.fault.TableFault.{TableFault}
use Rattle.table.specs.declared.fault.TableFault.TheVariants.{Disk}
use Rattle.btree.specs.Answers.{TellsNew}
use Rattle.btree.specs.Changes.{HoldsMap, TakePlace}
use Rattle.btree.specs.Entries.{put_entry}
use Rattle.tree_table.specs.declared.slot.TreeSlot.{TreeSlot}
use Rattle.tree_table.specs.Causes.{HasNoForest, ChangeCause}
use Rattle.tree_table.specs.Frames.{IsPutIn}
use Rattle.tree_table.specs.WorkTable.{forest_there}
use Rattle.tree_table.proofs.Faults.{put_refused}
use Rattle.tree_table.proofs.Forests.{map_in, put_fails, put_is}
use Rattle.tree_table.proofs.change.put_new_in.Goals as goal

pub returns-in-Ok-None-clause-told : goal.returns-in-Ok-None-clause-told
returns-in-Ok-None-clause-told g c = λ honest text entries h.
    let tree = c.args.tree in
    let old = g.P.Pages.store c.args.store.now in
    subst (λ (r : Option ℕ). TellsNew (entries tree) c.args.key.now r) c.in-Ok-None.field-0-is
    (c.in-Ok-None.ensures.told honest (h.pages tree) (entries tree)
    (map_in c.args.slot text entries old c.widths_of-widths.result tree c.root.result c.widths_of-widths.ensures.keys c.widths_of-widths.ensures.values c.root.ensures (forest_there c.args.slot text entries old h))
    (h.held tree))

pub returns-in-Ok-None-clause-left : goal.returns-in-Ok-None-clause-left
returns-in-Ok-None-clause-left g c =
    let old = g.P.Pages.store c.args.store.now in
    let new = g.P.Pages.store c.put_new.new.store in
    subst (λ (r : Option ℕ). IfNone r (PagesRead old new)) c.in-Ok-None.field-0-is c.in-Ok-None.ensures.left

pub returns-in-Ok-Some-clause-told : goal.returns-in-Ok-Some-clause-told
returns-in-Ok-Some-clause-told g c = λ honest text entries h.
    let tree = c.args.tree in
    let old = g.P.Pages.store c.args.store.now in
    subst (λ (r : Option ℕ). TellsNew (entries tree) c.args.key.now r) c.in-Ok-Some.field-0-is
    (c.in-Ok-Some.ensures.told honest (h.pages tree) (entries tree)
    (map_in c.args.slot text entries old c.widths_of-widths.result tree c.root.result c.widths_of-widths.ensures.keys c.widths_of-widths.ensures.values c.root.ensures (forest_there c.args.slot text entries old h))
    (h.held tree))

pub returns-in-Ok-Some-clause-ok : goal.returns-in-Ok-Some-clause-ok
returns-in-Ok-Some-clause-ok g c =
    let old = g.P.Pages.store c.args.store.now in
    let new = g.P.Pages.store c.put_new.new.store in
    let w = c.widths_of-widths.result in
    let put = c.in-Ok-Some.ensures in
    let is = c.in-Ok-Some.field-0-is in
    subst (λ (s : TreeSlot). IsPutIn c.args.slot c.args.tree c.args.key.now c.args.value.now old new s) (sym c.slot_with.ensures)
    (put_is c.args.slot c.args.tree c.args.key.now c.args.value.now old new w c.root.result c.in-Ok-Some.root
    c.widths_of-widths.ensures.keys c.widths_of-widths.ensures.values c.root.ensures
    (λ honest pages es holds held. subst (λ (r : Option ℕ). IfSome r (λ next. (others : List ℕ)
    × HoldsMap w new next others (put_entry es c.args.key.now c.args.value.now)
    × TakePlace pages others old new)) is (put.map honest pages es holds held))
    (subst (λ (r : Option ℕ). OnSome r (PagesWritten 49 old new)) is put.ok)
    (λ none. subst (λ (r : Option ℕ). OnSome r (free_count new.marks + 1 ≡ free_count old.marks)) is (put.first none)))

pub returns-in-Err-clause-err : goal.returns-in-Err-clause-err
returns-in-Err-clause-err g c =
    let old = g.P.Pages.store c.args.store.now in
    let new = g.P.Pages.store c.put_new.new.store in
    subst (λ (f : TableFault). PagesRefused Disk (ChangeCause HasNoForest c.args.slot) 49 old new f) (sym c.table_fault.ensures)
    (put_refused (ChangeCause HasNoForest c.args.slot) old new _ c.in-Err.ensures.err
    (put_fails c.args.slot old new c.widths_of-widths.result c.args.tree c.root.result _
    c.widths_of-widths.ensures.keys c.widths_of-widths.ensures.values c.root.ensures))
