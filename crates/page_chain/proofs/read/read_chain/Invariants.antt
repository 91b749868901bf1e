use Rattle.page_chain.proofs.ReadPages.{IsRead}
use Rattle.page_chain.proofs.read.read_chain.Given as goal

abbrev pub invariant-loop : goal.invariant-loop
invariant-loop g l = IsRead (g.P.Pages.store l.fn.store) (g.P.Pages.store l.store) l.first l.counter l.next l.pages.items l.content.items
