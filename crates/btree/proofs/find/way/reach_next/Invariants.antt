use Rattle.btree.specs.Answers.{filled_bytes}
use Rattle.btree.proofs.finds.LeafDescent.{IsReaching}
use Rattle.btree.proofs.find.way.reach_next.Given as goal

abbrev pub invariant-loop : goal.invariant-loop
invariant-loop g l = IsReaching l.fn.widths (g.P.Pages.store l.fn.store) (g.P.Pages.store l.store) l.fn.root l.fn.key l.counter l.page
    (filled_bytes l.more l.into.key)
