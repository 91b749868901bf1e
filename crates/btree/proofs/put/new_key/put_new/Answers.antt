use Rattle.std.proofs.Common.{ℕ, List, IfOk, IfSome, IfNone, OnSome, IfErr, IsTrue, arith, refl, subst, sym}
use Rattle.page_store.specs.declared.fault.PageFault.TheVariants.{Disk}
use Rattle.page_store.specs.Frames.{PagesRead, PagesRefused, PagesWritten}
use Rattle.page_store.specs.Store.{Store}
use Rattle.page_store.specs.lemmas.Frames.{refused_since, written_within}
use Rattle.page_store.specs.lemmas.Works.{works_refl}
use Rattle.btree.specs.Page.{Item}
use Rattle.btree.specs.Answers.{TellsNew}
use Rattle.btree.specs.Changes.{AreHeld, HoldsMap, MapPutCause, TakePlace}
use Rattle.btree.specs.Entries.{put_entry}
use Rattle.btree.proofs.finds.Lookups.{none_found}
use Rattle.btree.proofs.puts.Faults.{passed_on}
use Rattle.btree.proofs.puts.InPlace.{put_there}
use Rattle.btree.proofs.puts.Roots.{as_put, not_there}
use Rattle.btree.proofs.put.new_key.put_new.Goals as goal

pub returns-in_err-first-clause-err : goal.returns-in_err-first-clause-err
returns-in_err-first-clause-err g c = passed_on _ c.from_residual.result _ c.from_residual.ensures c.in_err-first.ensures.err

pub returns-then-root-eq0-clause-told : goal.returns-then-root-eq0-clause-told
returns-then-root-eq0-clause-told g c = λ honest pages es holds held.
    sym (none_found c.args.widths (g.P.Pages.store c.args.store.now) c.args.root c.args.key.now c.if-root-eq0.true pages es holds)

pub returns-then-root-eq0-clause-map : goal.returns-then-root-eq0-clause-map
returns-then-root-eq0-clause-map g c = c.in_ok-first.ensures.map

pub returns-then-root-eq0-clause-ok : goal.returns-then-root-eq0-clause-ok
returns-then-root-eq0-clause-ok g c = c.in_ok-first.ensures.ok

pub returns-then-root-eq0-clause-first : goal.returns-then-root-eq0-clause-first
returns-then-root-eq0-clause-first g c = c.in_ok-first.ensures.first

pub returns-in_err-done-clause-err : goal.returns-in_err-done-clause-err
returns-in_err-done-clause-err g c =
    let old = g.P.Pages.store c.args.store.now in
    let new = g.P.Pages.store c.put_in_place.new.store in
    passed_on _ c.from_residual-in_err-done.result _ c.from_residual-in_err-done.ensures
    (refused_since 0 (works_refl old) refl (omega arith) (omega arith) (as_put c.args.widths c.args.root old new _) c.in_err-done.ensures.err)

pub returns-then-done-clause-told : goal.returns-then-done-clause-told
returns-then-done-clause-told g c = λ honest pages es holds held.
    not_there c.args.widths c.args.key.now c.args.root pages es (g.P.Pages.store c.args.store.now) c.if-root-eq0.false holds held
    (λ d growing. c.in_ok-done.ensures.new_key honest d growing c.if-done.true refl)

pub returns-then-done-clause-map : goal.returns-then-done-clause-map
returns-then-done-clause-map g c = λ honest pages es holds held.
    let old = g.P.Pages.store c.args.store.now in
    let new = g.P.Pages.store c.put_in_place.new.store in
    put_there c.args.widths c.args.key.now c.args.value.now c.args.root pages es old new
    (c.in_ok-done.ensures.ok c.if-done.true).works c.if-root-eq0.false (g.met.P.Pages.sound c.args.store.now).few (omega arith) holds held
    (λ d top growing leads first. c.in_ok-done.ensures.grown honest d top growing leads first c.if-done.true)

pub returns-then-done-clause-ok : goal.returns-then-done-clause-ok
returns-then-done-clause-ok g c = written_within (c.in_ok-done.ensures.ok c.if-done.true) (omega arith)

pub returns-clause-told : goal.returns-clause-told
returns-clause-told g c =
    subst (λ (s : Store). IsTrue s.disk.honest → (pages : List ℕ) (es : List Item) → HoldsMap c.args.widths s c.args.root pages es
    → AreHeld s.marks pages → IfOk c.put_looked.result (TellsNew es c.args.key.now))
    (c.in_ok-done.ensures.same c.if-done.false) c.put_looked.ensures.told

pub returns-clause-map : goal.returns-clause-map
returns-clause-map g c =
    let w = c.args.widths in
    let new = g.P.Pages.store c.put_looked.new.store in
    subst (λ (s : Store). IsTrue s.disk.honest → (pages : List ℕ) (es : List Item) → HoldsMap w s c.args.root pages es → AreHeld s.marks pages
    → IfOk c.put_looked.result (λ r. IfSome r (λ next. (others : List ℕ) × HoldsMap w new next others (put_entry es c.args.key.now c.args.value.now)
    × TakePlace pages others s new))) (c.in_ok-done.ensures.same c.if-done.false) c.put_looked.ensures.map

pub returns-clause-left : goal.returns-clause-left
returns-clause-left g c =
    subst (λ (s : Store). IfOk c.put_looked.result (λ r. IfNone r (PagesRead s (g.P.Pages.store c.put_looked.new.store))))
    (c.in_ok-done.ensures.same c.if-done.false) c.put_looked.ensures.left

pub returns-clause-ok : goal.returns-clause-ok
returns-clause-ok g c =
    subst (λ (s : Store). IfOk c.put_looked.result (λ r. OnSome r (PagesWritten 49 s (g.P.Pages.store c.put_looked.new.store))))
    (c.in_ok-done.ensures.same c.if-done.false) c.put_looked.ensures.ok

pub returns-clause-err : goal.returns-clause-err
returns-clause-err g c =
    subst (λ (s : Store). IfErr c.put_looked.result (PagesRefused Disk (MapPutCause c.args.widths c.args.root) 49 s (g.P.Pages.store c.put_looked.new.store)))
    (c.in_ok-done.ensures.same c.if-done.false) c.put_looked.ensures.err

pub returns-clause-first : goal.returns-clause-first
returns-clause-first g c = λ none. absurd (c.if-root-eq0.false none)
