use Rattle.std.proofs.Common.{sym, subst}
use Rattle.page_store.specs.Store.{Store}
use Rattle.page_store.specs.Frames.{OnlyMarks}
use Rattle.page_store.specs.lemmas.Frames.{marks_none}
use Rattle.btree.proofs.walks.MarkedPages.{marks_one}
use Rattle.btree.proofs.walk.take.take_page.Goals as goal

pub returns-in-Some-clause-marks : goal.returns-in-Some-clause-marks
returns-in-Some-clause-marks g c =
    marks_one c.args.page _ (g.P.Pages.store c.mark.new.self) _ c.mark.ensures.works c.mark.ensures.others.disk c.mark.ensures.others.closed c.in_ok-mark.ensures.ok
    c.in_ok-read_page.ensures.works c.in_ok-read_page.ensures.unchanged

pub returns-in_default-clause-marks : goal.returns-in_default-clause-marks
returns-in_default-clause-marks g c =
    marks_one c.args.page _ (g.P.Pages.store c.mark.new.self) _ c.mark.ensures.works c.mark.ensures.others.disk c.mark.ensures.others.closed c.in_ok-mark.ensures.ok
    c.in_ok-read_page.ensures.works c.in_ok-read_page.ensures.unchanged

pub returns-in_err-mark-clause-marks : goal.returns-in_err-mark-clause-marks
returns-in_err-mark-clause-marks g c =
    subst (λ (store : Store). OnlyMarks (g.P.Pages.store c.args.store.now) store) (sym c.in_err-mark.ensures.refused)
    (marks_none (g.P.Pages.store c.args.store.now))

pub returns-in_err-read_page-clause-marks : goal.returns-in_err-read_page-clause-marks
returns-in_err-read_page-clause-marks g c =
    marks_one c.args.page _ (g.P.Pages.store c.mark.new.self) _ c.mark.ensures.works c.mark.ensures.others.disk c.mark.ensures.others.closed c.in_ok-mark.ensures.ok
    c.read_page.ensures.works c.read_page.ensures.unchanged
