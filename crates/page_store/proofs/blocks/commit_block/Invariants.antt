use Rattle.std.proofs.Common.{ℕ, ◌*◌}
use Rattle.page_store.specs.declared.marks.Mark.{Mark}
use Rattle.page_store.specs.Blocks.{ArePartTurned}
use Rattle.page_store.specs.Holds.{holders_at}
use Rattle.page_store.specs.Marks.{committed}
use Rattle.page_store.proofs.blocks.commit_block.Given as goal

abbrev pub invariant-loop-page : goal.invariant-loop-page
invariant-loop-page l =
    ArePartTurned (λ (p : ℕ) (m : Mark). committed (holders_at l.holders p) m) (256 * l.block) l.page l.goes_on l.fn.marks.items l.marks.items
