use Rattle.std.proofs.Common.{◌∙◌, ℕ, ◌*◌, List, length, drop, ap, arith}
use Rattle.std.proofs.lemmas.List.{length-take}
use Rattle.std.proofs.lemmas.Option.{slice_get-get_or}
use Rattle.std.specs.Prelude.{slice_index}
use Rattle.page_store.specs.declared.marks.Mark.{Mark}
use Rattle.page_store.specs.Marks.{mark}
use Rattle.page_store.specs.lemmas.Works.{works_then}
use Rattle.page_chain.proofs.Links.{contains_got}
use Rattle.page_chain.proofs.Exits.{passed_on}
use Rattle.page_chain.proofs.WrittenPages.{none_put, put_more, all_lead, all_hold, put_still, put_cause}
use Rattle.page_chain.proofs.write.write_pages.Goals as goal

pub loop-place-init : goal.loop-place-init
loop-place-init g c = none_put _ _ _

pub page_with-bytes-requires : goal.page_with-bytes-requires
page_with-bytes-requires g c =
    omega (arith, ap (λ (xs : List ℕ). length xs) c.part_of.ensures, length-take 4092 (drop (4092 * c.loop-place.place) c.args.content.now))

pub write_page-requires : goal.write_page-requires
write_page-requires g c =
    let at = slice_index c.args.pages.now c.loop-place.place in
    ap (λ (ms : List Mark). mark ms at) c.loop-place.invariant.marks
    ∙ c.requires.fresh at (contains_got c.args.pages.now c.loop-place.place at
    (slice_get-get_or c.args.pages.now c.loop-place.place 0 c.loop-place-test.true))

pub returns-in_err-write_page-clause-marks : goal.returns-in_err-write_page-clause-marks
returns-in_err-write_page-clause-marks g c = c.write_page.ensures.marks ∙ c.loop-place.invariant.marks

pub returns-in_err-write_page-clause-works : goal.returns-in_err-write_page-clause-works
returns-in_err-write_page-clause-works g c = works_then c.loop-place.invariant.works c.write_page.ensures.works

pub loop-place-preserved : goal.loop-place-preserved
loop-place-preserved g c =
    let wrote = c.in_ok-write_page.ensures in
    let page = c.page_with-bytes.ensures in
    put_more _ _ _ _ _ _ _ _ c.loop-place.invariant c.requires.once c.loop-place-test.true c.requires.no_more page.whole
    (page.next ∙ c.next_after.ensures) c.part_of.ensures page.holds wrote.written wrote.others wrote.marks wrote.open wrote.works

pub returns-clause-marks : goal.returns-clause-marks
returns-clause-marks g c = c.loop-place.invariant.marks

pub returns-clause-works : goal.returns-clause-works
returns-clause-works g c = c.loop-place.invariant.works

pub returns-in_err-write_page-clause-err : goal.returns-in_err-write_page-clause-err
returns-in_err-write_page-clause-err g c =
    let new = g.P.Pages.store c.write_page.new.self in
    passed_on _ c.from_residual.result _ c.from_residual.ensures
    (record {
      still = put_still new _ c.loop-place.invariant c.in_err-write_page.ensures.untouched;
      cause = put_cause new _ c.loop-place.invariant c.in_err-write_page.ensures.cause;
    })

pub returns-clause-ok : goal.returns-clause-ok
returns-clause-ok g c =
    let put = c.loop-place.invariant in
    record {
      leads = all_lead c.loop-place.place put (omega (arith, c.loop-place-test.false, c.loop-place.auto.place-end));
      holds = all_hold c.loop-place.place put (omega (arith, c.loop-place-test.false, c.loop-place.auto.place-end));
      «open» = λ some. put.gone (omega (arith, some, c.loop-place-test.false));
      closed = put.closed;
    }
