use Rattle.btree.proofs.finds.ValueDescent.{IsGoing}
use Rattle.btree.proofs.find.read.get_into.Given as goal

abbrev pub invariant-loop : goal.invariant-loop
invariant-loop g l = IsGoing l.fn.widths (g.P.Pages.store l.fn.store) (g.P.Pages.store l.store) l.fn.root l.fn.key l.counter l.page
