use Rattle.page_chain.proofs.WrittenPages.{IsPut}
use Rattle.page_chain.proofs.write.write_pages.Given as goal

abbrev pub invariant-loop-place : goal.invariant-loop-place
invariant-loop-place g l = IsPut (g.P.Pages.store l.fn.store) (g.P.Pages.store l.store) l.pages l.content l.place
