use Rattle.std.proofs.Common.{subst, sym}
use Rattle.page_store.specs.Store.{Store}
use Rattle.page_store.specs.Frames.{OnlyMarks}
use Rattle.page_store.specs.lemmas.Frames.{marks_none}
use Rattle.page_chain.proofs.ReadPages.{read_marked}
use Rattle.page_chain.proofs.read.read_link.Goals as goal

pub returns-clause-marks : goal.returns-clause-marks
returns-clause-marks g c =
    read_marked c.mark.ensures.others c.mark.ensures.works c.in_ok-mark.ensures.ok c.read_page.ensures.unchanged c.read_page.ensures.works

pub returns-in_err-mark-clause-marks : goal.returns-in_err-mark-clause-marks
returns-in_err-mark-clause-marks g c =
    subst (λ (store : Store). OnlyMarks (g.P.Pages.store c.args.store.now) store) (sym c.in_err-mark.ensures.refused)
    (marks_none (g.P.Pages.store c.args.store.now))

pub returns-in_err-read_page-clause-marks : goal.returns-in_err-read_page-clause-marks
returns-in_err-read_page-clause-marks g c =
    read_marked c.mark.ensures.others c.mark.ensures.works c.in_ok-mark.ensures.ok c.read_page.ensures.unchanged c.read_page.ensures.works

pub returns-in_err-add_page-clause-marks : goal.returns-in_err-add_page-clause-marks
returns-in_err-add_page-clause-marks g c =
    read_marked c.mark.ensures.others c.mark.ensures.works c.in_ok-mark.ensures.ok c.read_page.ensures.unchanged c.read_page.ensures.works

pub returns-in_err-add_payload-clause-marks : goal.returns-in_err-add_payload-clause-marks
returns-in_err-add_payload-clause-marks g c =
    read_marked c.mark.ensures.others c.mark.ensures.works c.in_ok-mark.ensures.ok c.read_page.ensures.unchanged c.read_page.ensures.works
