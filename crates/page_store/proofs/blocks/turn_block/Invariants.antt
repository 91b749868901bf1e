use Rattle.std.proofs.Common.{ℕ, ◌*◌}
use Rattle.page_store.specs.declared.marks.Mark.{Mark}
use Rattle.page_store.specs.Blocks.{ArePartTurned}
use Rattle.page_store.specs.Marks.{turned}
use Rattle.page_store.proofs.blocks.turn_block.Given as goal

abbrev pub invariant-loop-page : goal.invariant-loop-page
invariant-loop-page l =
    ArePartTurned (λ (p : ℕ) (m : Mark). turned l.fresh l.released l.waiting m) (256 * l.block) l.page l.goes_on l.fn.marks.items l.marks.items
