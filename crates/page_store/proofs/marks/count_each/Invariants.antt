use Rattle.std.proofs.Common.{◌≡◌, ◌≤◌, take}
use Rattle.page_store.specs.Marks.{free_count}
use Rattle.page_store.proofs.marks.count_each.Given as goal

abbrev pub invariant-loop-mark : goal.invariant-loop-mark
invariant-loop-mark l = record { is : l.count ≡ free_count (take l.mark-index l.marks); below : l.count ≤ l.mark-index }
