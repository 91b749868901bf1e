use Rattle.std.proofs.Common.{◌-◌, IsTrue}
use Rattle.page_store.specs.Store.{reads}
use Rattle.btree.specs.declared.page.kind.Kind.TheVariants.{Inner}
use Rattle.btree.specs.Page.{items_in}
use Rattle.page_store.specs.Frames.{OnlyMarks}
use Rattle.btree.proofs.walks.Children.{AreOver}
use Rattle.btree.proofs.walk.below.+walk_below.Given as goal

abbrev pub decreases-walk_below : goal.decreases-walk_below
decreases-walk_below g l = l.depth

abbrev pub invariant-loop-place : goal.invariant-loop-place
invariant-loop-place g l =
    record {
      marks : OnlyMarks (g.P.Pages.store l.fn.store) (g.P.Pages.store l.store);
      over : IsTrue (g.P.Pages.store l.fn.store).disk.honest
          → AreOver l.widths (reads (g.P.Pages.store l.fn.store)) (l.depth - 1) l.page (items_in l.widths Inner l.bytes) l.place
          (g.P.Pages.store l.fn.store) (g.P.Pages.store l.store) l.fn.last.items l.last.items
          (g.V.Visitor.told l.fn.visitor) (g.V.Visitor.told l.visitor);
    }
