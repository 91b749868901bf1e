use Rattle.std.proofs.Common.{◌∙◌, ℕ, List, refl, arith}
use Rattle.std.proofs.lemmas.Result.{IfOk-weaker}
use Rattle.sector_disk.specs.lemmas.Moments.{still_honest}
use Rattle.page_store.specs.lemmas.Frames.{open_still, refused_since, written_since, written_within}
use Rattle.page_store.specs.lemmas.Works.{works_refl}
use Rattle.btree.specs.declared.page.kind.Kind.TheVariants.{Inner}
use Rattle.btree.specs.lemmas.Items.{length-items}
use Rattle.btree.specs.Changes.{HoldsMap, TakePlace}
use Rattle.btree.specs.Entries.{put_entry}
use Rattle.btree.specs.lemmas.Growth.{IsOnNewPage}
use Rattle.btree.specs.lemmas.PutItems.{listed}
use Rattle.btree.proofs.puts.Faults.{passed_on}
use Rattle.btree.proofs.puts.Roots.{on_ok_of, put_fails, put_one, put_refused, put_two}
use Rattle.btree.proofs.put.map.put_anew.Goals as goal

pub returns-in_err-tops-clause-err : goal.returns-in_err-tops-clause-err
returns-in_err-tops-clause-err g c =
    let old = g.P.Pages.store c.args.store.now in
    let new = g.P.Pages.store c.put_below.new.store in
    passed_on _ c.from_residual.result _ c.from_residual.ensures
    (refused_since 0 (works_refl old) refl (omega arith) (omega arith)
    (put_fails c.args.widths c.args.root old new _ c.requires.some) c.in_err-tops.ensures.err)

pub returns-then-tops-eq1-clause-map : goal.returns-then-tops-eq1-clause-map
returns-then-tops-eq1-clause-map g c honest pages es holds held =
    let w = c.args.widths in
    let tops = c.in_ok-tops.tops in
    put_one w c.args.key.now c.args.value.now c.args.root pages es (listed w Inner tops.count tops.bytes.items)
    (g.P.Pages.store c.args.store.now) (g.P.Pages.store c.put_below.new.store)
    c.in_ok-tops.ensures.ok.works c.requires.some (g.met.P.Pages.sound c.args.store.now).few holds held (c.in_ok-tops.ensures.grown honest)
    c.first_child.result (length-items w.key 4 tops.count tops.bytes.items ∙ c.if-tops-eq1.true) c.first_child.ensures

pub returns-then-tops-eq1-clause-ok : goal.returns-then-tops-eq1-clause-ok
returns-then-tops-eq1-clause-ok g c = written_within c.in_ok-tops.ensures.ok (omega arith)

pub returns-else-tops-eq1-clause-map : goal.returns-else-tops-eq1-clause-map
returns-else-tops-eq1-clause-map g c honest pages es holds held =
    let w = c.args.widths in
    let key = c.args.key.now in
    let value = c.args.value.now in
    let tops = listed w Inner c.in_ok-tops.tops.count c.in_ok-tops.tops.bytes.items in
    let old = g.P.Pages.store c.args.store.now in
    let mid = g.P.Pages.store c.put_below.new.store in
    let new = g.P.Pages.store c.on_new_page.new.store in
    let works = c.in_ok-tops.ensures.ok.works in
    let now = still_honest works.goes_on honest in
    IfOk-weaker c.on_new_page.result (IsOnNewPage w Inner tops mid new)
    (λ q. (others : List ℕ) × HoldsMap w new q others (put_entry es key value) × TakePlace pages others old new)
    (λ q it. put_two w key value c.args.root pages es tops old mid works c.requires.some (g.met.P.Pages.sound c.args.store.now).few holds held
    (c.in_ok-tops.ensures.grown honest) q new now it.written.works it.is_page it.there it.place (it.form now) (it.items now))
    c.on_new_page.ensures.ok

pub returns-else-tops-eq1-clause-ok : goal.returns-else-tops-eq1-clause-ok
returns-else-tops-eq1-clause-ok g c =
    let w = c.args.widths in
    let mid = g.P.Pages.store c.put_below.new.store in
    let new = g.P.Pages.store c.on_new_page.new.store in
    let put = c.in_ok-tops.ensures.ok in
    on_ok_of (IsOnNewPage w Inner (listed w Inner c.in_ok-tops.tops.count c.in_ok-tops.tops.bytes.items) mid new) c.on_new_page.result
    (λ q it. written_since 48 put.works (omega (arith, put.takes)) (omega arith) it.written) c.on_new_page.ensures.ok

pub returns-else-tops-eq1-clause-err : goal.returns-else-tops-eq1-clause-err
returns-else-tops-eq1-clause-err g c =
    let put = c.in_ok-tops.ensures.ok in
    put_refused c.args.widths c.args.root 48 1 49 (g.P.Pages.store c.args.store.now) (g.P.Pages.store c.put_below.new.store)
    (g.P.Pages.store c.on_new_page.new.store)
    c.on_new_page.result put.works (open_still put.works put.open) (omega (arith, put.takes)) (omega arith) c.on_new_page.ensures.err
