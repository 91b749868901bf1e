use Rattle.page_chain.proofs.TakenPages.{IsTaken}
use Rattle.page_chain.proofs.write.take_pages.Given as goal

abbrev pub invariant-loop : goal.invariant-loop
invariant-loop g l = IsTaken (g.P.Pages.store l.fn.store) (g.P.Pages.store l.store) l.counter l.pages.items
