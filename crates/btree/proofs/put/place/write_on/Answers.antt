use Rattle.std.proofs.Common.{◌≡◌, ◌≢◌, ◌∙◌, ℕ, List, Ok, Err, Result, OnOk, IfErr, IsTrue, false, sym, ap, subst}
use Rattle.page_store.specs.declared.fault.PageFault.{PageFault}
use Rattle.page_store.specs.declared.fault.PageFault.TheVariants.{Disk}
use Rattle.page_store.specs.Causes.{PageWriteCause}
use Rattle.page_store.specs.Frames.{PagesRefused}
use Rattle.page_store.specs.Store.{Store, StoreWorks, reads}
use Rattle.btree.specs.declared.page.kind.Kind.{Kind}
use Rattle.btree.specs.declared.page.widths.Widths.{Widths}
use Rattle.btree.specs.Page.{Item, IsPage, items_in}
use Rattle.btree.specs.lemmas.Growth.{IsWrittenOn}
use Rattle.btree.proofs.puts.Faults.{not_written}
use Rattle.btree.proofs.put.place.write_on.Goals as goal

module _ (old new : Store) (works : StoreWorks old new) (marks : new.marks ≡ old.marks) where
  wrote : (w : Widths) (kind : Kind) (q : ℕ) (bytes : List ℕ) (list : List Item) (r : Result (Unit {0}) PageFault)
      → IsPage w kind bytes → items_in w kind bytes ≡ list → (IsTrue old.disk.honest → OnOk r (reads new q ≡ bytes))
      → (IsTrue old.disk.honest → (p : ℕ) → p ≢ q → reads new p ≡ reads old p) → OnOk r (new.closed ≡ false) → OnOk r (IsWrittenOn w kind q list old new)
  wrote w kind q bytes list (Ok x) form are written others is_open = record {
    form = λ honest. subst (IsPage w kind) (sym (written honest)) form;
    items = λ honest. ap (items_in w kind) (written honest) ∙ are;
    others = others;
    marks = marks;
    «open» = is_open;
    works = works;
  }
  wrote w kind q bytes list (Err fault) form are written others is_open = tt

  refused : (r : Result (Unit {0}) PageFault) → IfErr r (λ fault. fault ≢ Disk → new ≡ old) → IfErr r (PageWriteCause old new)
      → IfErr r (PagesRefused Disk PageWriteCause 0 old new)
  refused (Ok x) untouched cause = tt
  refused (Err fault) untouched cause = not_written works marks untouched cause

pub returns-clause-ok : goal.returns-clause-ok
returns-clause-ok g c =
    let told = c.write_page.ensures in
    wrote (g.P.Pages.store c.args.store.now)
    (g.P.Pages.store c.write_page.new.self) told.works told.marks c.args.widths c.args.kind c.args.page c.page_of-bytes.result _
    c.write_page.result c.page_of-bytes.ensures.page c.page_of-bytes.ensures.items told.written told.others told.open

pub returns-clause-err : goal.returns-clause-err
returns-clause-err g c =
    let told = c.write_page.ensures in
    refused (g.P.Pages.store c.args.store.now) (g.P.Pages.store c.write_page.new.self) told.works told.marks c.write_page.result told.untouched told.cause
