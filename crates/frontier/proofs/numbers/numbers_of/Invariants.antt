use Rattle.std.proofs.Common.{◌≡◌, ◌+◌, ◌<◌, ◌≤◌, All, length, take}
use Rattle.table.specs.Frames.{IsRead}
use Rattle.table.specs.Memory.{bytes_of_each}
use Rattle.frontier.specs.lemmas.GivenNumbers.{AreNumbersOf}
use Rattle.frontier.proofs.numbers.numbers_of.Given as goal

abbrev pub invariant-loop-position : goal.invariant-loop-position
invariant-loop-position g l = record {
  read : IsRead g.T.Table.stored g.T.Table.is_honest g.T.Table.counted g.T.Table.stays l.fn.table l.table;
  known : (g.T.Table.counted l.fn.table).known ≤ l.next;
  few : l.next ≤ (g.T.Table.counted l.fn.table).known + l.position-index;
  lengths : length l.each.items ≡ l.position-index;
  within : All (λ i. i < l.next) l.each.items;
  numbers : g.T.Table.is_honest l.fn.table → AreNumbersOf (g.T.Table.stored l.fn.table).positions (length (g.T.Table.stored l.fn.table).positions)
      (take l.position-index (bytes_of_each l.positions)) l.each.items l.next;
}
