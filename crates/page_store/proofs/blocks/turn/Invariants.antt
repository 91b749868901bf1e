use Rattle.std.proofs.Common.{ℕ}
use Rattle.page_store.specs.declared.marks.Mark.{Mark}
use Rattle.page_store.specs.Blocks.{AreBlocksTurned}
use Rattle.page_store.specs.Marks.{turned}
use Rattle.page_store.proofs.blocks.turn.Given as goal

abbrev pub invariant-loop-block : goal.invariant-loop-block
invariant-loop-block l =
    AreBlocksTurned (λ (p : ℕ) (m : Mark). turned l.fresh l.released l.waiting m) l.block l.fn.marks.items l.fn.noted.items l.marks.items l.noted.items
