use Rattle.std.proofs.Common.{◌≤◌, ◌+◌, ◌*◌, take, drop}
use Rattle.std.proofs.lemmas.Cmp.{nat_list_cmp_total}
use Rattle.table.specs.Memory.{bytes_of_each}
use Rattle.table.specs.declared.limits.TheConstants.{PAGES_PER_ENTRY}
use Rattle.retrograde.specs.lemmas.Expansion.{AreNoted}
use Rattle.retrograde.specs.Successors.{packed_cmp}
use Rattle.frontier.specs.Frames.{IsGrown}
use Rattle.frontier.proofs.NumberLemmas.{IsReady}
use Rattle.frontier.proofs.note.note_all.Given as goal

abbrev pub invariant-loop-i : goal.invariant-loop-i
invariant-loop-i g l = record {
  ok : IsGrown g.T.Table.is_honest g.T.Table.counted g.T.Table.goes_on l.fn.table l.table;
  taken : g.T.Table.free l.fn.table ≤ g.T.Table.free l.table + PAGES_PER_ENTRY * (3 * l.i);
  ready : g.T.Table.is_honest l.fn.table
      → AreNoted l.predecessor (take l.i (bytes_of_each l.successors)) (g.T.Table.stored l.fn.table) (g.T.Table.stored l.table)
      × IsReady packed_cmp nat_list_cmp_total (g.T.Table.stored l.fn.table).positions l.predecessor
      (drop l.i (bytes_of_each l.successors)) (drop l.i l.numbers) (g.T.Table.stored l.table);
}
