use Rattle.std.proofs.Common.{◌∙◌, ℕ, List, IfOk, IfErr, OnOk, IsTrue, refl, subst, arith}
use Rattle.std.proofs.lemmas.Result.{IfOk-weaker}
use Rattle.page_store.specs.declared.fault.PageFault.TheVariants.{Disk}
use Rattle.page_store.specs.Frames.{PagesWritten, PagesRefused}
use Rattle.page_store.specs.Store.{Store}
use Rattle.page_store.specs.lemmas.Frames.{refused_since, written_within}
use Rattle.page_store.specs.lemmas.Works.{works_refl}
use Rattle.btree.specs.declared.page.kind.Kind.TheVariants.{Leaf}
use Rattle.btree.specs.Page.{Item}
use Rattle.btree.specs.Changes.{AreHeld, HoldsMap, TakePlace, MapPutCause}
use Rattle.btree.specs.Entries.{put_entry}
use Rattle.btree.specs.lemmas.Growth.{IsOnNewPage}
use Rattle.btree.specs.lemmas.PutItems.{listed}
use Rattle.btree.proofs.puts.Faults.{passed_on}
use Rattle.btree.proofs.puts.Roots.{first_put, as_put, on_ok_of, put_refused}
use Rattle.btree.proofs.puts.InPlace.{put_there}
use Rattle.btree.proofs.put.map.put.Goals as goal

pub returns-then-root-eq0-clause-map : goal.returns-then-root-eq0-clause-map
returns-then-root-eq0-clause-map g c honest pages es holds held =
    let w = c.args.widths in
    let key = c.args.key.now in
    let value = c.args.value.now in
    let old = g.P.Pages.store c.args.store.now in
    let new = g.P.Pages.store c.on_new_page.new.store in
    IfOk-weaker c.on_new_page.result (IsOnNewPage w Leaf (listed w Leaf c.new_entry-entry.result.count c.new_entry-entry.result.bytes.items) old new)
    (λ q. (others : List ℕ) × HoldsMap w new q others (put_entry es key value) × TakePlace pages others old new)
    (λ q it. first_put w key value c.args.root q pages es old new it.written.works c.if-root-eq0.true holds it.is_page it.there it.place (it.form honest)
    (it.items honest ∙ c.new_entry-entry.ensures.listed))
    c.on_new_page.ensures.ok

pub returns-then-root-eq0-clause-ok : goal.returns-then-root-eq0-clause-ok
returns-then-root-eq0-clause-ok g c =
    let old = g.P.Pages.store c.args.store.now in
    let new = g.P.Pages.store c.on_new_page.new.store in
    on_ok_of (IsOnNewPage c.args.widths Leaf
    (listed c.args.widths Leaf c.new_entry-entry.result.count c.new_entry-entry.result.bytes.items) old new) c.on_new_page.result
    (λ q it. written_within it.written (omega arith)) c.on_new_page.ensures.ok

pub returns-then-root-eq0-clause-err : goal.returns-then-root-eq0-clause-err
returns-then-root-eq0-clause-err g c =
    put_refused c.args.widths c.args.root 0 1 49 (g.P.Pages.store c.args.store.now) (g.P.Pages.store c.args.store.now) (g.P.Pages.store c.on_new_page.new.store)
    c.on_new_page.result (works_refl _) refl (omega arith) (omega arith) c.on_new_page.ensures.err

pub returns-then-root-eq0-clause-first : goal.returns-then-root-eq0-clause-first
returns-then-root-eq0-clause-first g c = λ none. c.on_new_page.ensures.first

pub returns-then-root-eq0-clause-refused : goal.returns-then-root-eq0-clause-refused
returns-then-root-eq0-clause-refused g c = λ none. c.on_new_page.ensures.refused

pub returns-in_err-done-clause-err : goal.returns-in_err-done-clause-err
returns-in_err-done-clause-err g c =
    let old = g.P.Pages.store c.args.store.now in
    let new = g.P.Pages.store c.put_in_place.new.store in
    passed_on _ c.from_residual.result _ c.from_residual.ensures
    (refused_since 0 (works_refl old) refl (omega arith) (omega arith) (as_put c.args.widths c.args.root old new _) c.in_err-done.ensures.err)

pub returns-then-done-clause-map : goal.returns-then-done-clause-map
returns-then-done-clause-map g c honest pages es holds held =
    let old = g.P.Pages.store c.args.store.now in
    let new = g.P.Pages.store c.put_in_place.new.store in
    put_there c.args.widths c.args.key.now c.args.value.now c.args.root pages es old new
    (c.in_ok-done.ensures.ok c.if-done.true).works c.if-root-eq0.false (g.met.P.Pages.sound c.args.store.now).few (omega arith) holds held
    (λ d top growing leads first. c.in_ok-done.ensures.grown honest d top growing leads first c.if-done.true)

pub returns-then-done-clause-ok : goal.returns-then-done-clause-ok
returns-then-done-clause-ok g c = written_within (c.in_ok-done.ensures.ok c.if-done.true) (omega arith)

pub returns-clause-map : goal.returns-clause-map
returns-clause-map g c =
    let w = c.args.widths in
    let new = g.P.Pages.store c.put_anew.new.store in
    subst (λ (s : Store). IsTrue s.disk.honest → (pages : List ℕ) (es : List Item) → HoldsMap w s c.args.root pages es → AreHeld s.marks pages
    → IfOk c.put_anew.result (λ next. (others : List ℕ) × HoldsMap w new next others (put_entry es c.args.key.now c.args.value.now)
    × TakePlace pages others s new)) (c.in_ok-done.ensures.same c.if-done.false) c.put_anew.ensures.map

pub returns-clause-ok : goal.returns-clause-ok
returns-clause-ok g c =
    subst (λ (s : Store). OnOk c.put_anew.result (PagesWritten 49 s (g.P.Pages.store c.put_anew.new.store)))
    (c.in_ok-done.ensures.same c.if-done.false) c.put_anew.ensures.ok

pub returns-clause-err : goal.returns-clause-err
returns-clause-err g c =
    subst (λ (s : Store). IfErr c.put_anew.result (PagesRefused Disk (MapPutCause c.args.widths c.args.root) 49 s (g.P.Pages.store c.put_anew.new.store)))
    (c.in_ok-done.ensures.same c.if-done.false) c.put_anew.ensures.err
