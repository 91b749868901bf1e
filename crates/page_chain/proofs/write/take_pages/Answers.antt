use Rattle.std.proofs.Common.{◌≡◌, ℕ, sym, subst, arith}
use Rattle.page_store.specs.Store.{Store}
use Rattle.page_chain.specs.lemmas.Links.{HandsOut, AreTaken}
use Rattle.page_chain.proofs.Exits.{passed_on}
use Rattle.page_chain.proofs.TakenPages.{none_taken, out_more, taken_more, take_cause}
use Rattle.page_chain.proofs.write.take_pages.Goals as goal

pub loop-init : goal.loop-init
loop-init g c = none_taken _ _ c.new-pages.ensures.items

pub returns-in_err-page-clause-out : goal.returns-in_err-page-clause-out
returns-in_err-page-clause-out g c = subst (λ (s : Store). HandsOut (g.P.Pages.store c.args.store.now) s)
    (sym c.in_err-page.ensures.refused) c.loop.invariant.out

pub returns-in_err-page-clause-cause : goal.returns-in_err-page-clause-cause
returns-in_err-page-clause-cause g c =
    passed_on _ c.from_residual.result _ c.from_residual.ensures
    (take_cause _ c.loop.invariant (omega (arith, c.loop-test.true, c.requires)) c.in_err-page.ensures.cause)

pub returns-in_err-add_page-clause-out : goal.returns-in_err-add_page-clause-out
returns-in_err-add_page-clause-out g c =
    let page = c.in_ok-page.ensures in
    out_more _ _ _ _ _ _ c.loop.invariant page.ok page.free page.is_page page.within page.open page.others page.works

pub loop-preserved : goal.loop-preserved
loop-preserved g c =
    let page = c.in_ok-page.ensures in
    taken_more _ _ _ _ _ _ c.loop.invariant page.ok page.free page.is_page page.within page.open page.others page.works _ c.in_ok-add_page.ensures.ok

pub returns-clause-taken : goal.returns-clause-taken
returns-clause-taken g c =
    let all : c.loop.counter ≡ c.args.count = omega (arith, c.loop-test.false, c.loop.auto.counter-end) in
    subst (λ (n : ℕ). AreTaken (g.P.Pages.store c.args.store.now) (g.P.Pages.store c.loop.store) n c.loop.pages.items) all c.loop.invariant.taken

pub returns-clause-out : goal.returns-clause-out
returns-clause-out g c = c.loop.invariant.out

pub returns-clause-few : goal.returns-clause-few
returns-clause-few g c =
    let all : c.loop.counter ≡ c.args.count = omega (arith, c.loop-test.false, c.loop.auto.counter-end) in
    omega (arith, all, c.loop.invariant.free)
