use Rattle.btree.proofs.walks.Depth.{IsDescending}
use Rattle.btree.proofs.walk.depth.depth_of.Given as goal

abbrev pub invariant-loop-depth : goal.invariant-loop-depth
invariant-loop-depth g l = IsDescending l.fn.widths (g.P.Pages.store l.fn.store) (g.P.Pages.store l.store) l.fn.root l.depth l.page
