use Rattle.std.proofs.Common.{◌≡◌, ◌+◌, ◌*◌, ◌≤◌, ℕ}
use Rattle.retrograde.specs.Stored.{IsTable}
use Rattle.retrograde.specs.Sound.{IsLocallySound}
use Rattle.frontier.specs.Frames.{IsGrown}
use Rattle.table.specs.declared.limits.TheConstants.{PAGES_PER_ENTRY}
use Rattle.game_table.specs.Entries.{WriteAtMost}
use Rattle.game_table.specs.Units.{AreUnits}
use Rattle.game_table.specs.Work.{Works}
use Rattle.game_table.proofs.steps.work.Given as goal

abbrev pub invariant-loop-done : goal.invariant-loop-done
invariant-loop-done g l = record {
  ok : IsGrown g.T.Table.is_honest g.T.Table.counted g.T.Table.goes_on l.fn.table l.table;
  source : l.source ≡ l.fn.source;
  sound : g.T.Table.is_honest l.fn.table → IsLocallySound (g.M.GameGraph.graph l.fn.source) (g.M.GameGraph.is_wide l.fn.source) (g.T.Table.stored l.fn.table)
      → IsLocallySound (g.M.GameGraph.graph l.fn.source) (g.M.GameGraph.is_wide l.fn.source) (g.T.Table.stored l.table);
  works : g.T.Table.is_honest l.fn.table → IsLocallySound (g.M.GameGraph.graph l.fn.source) (g.M.GameGraph.is_wide l.fn.source) (g.T.Table.stored l.fn.table)
      → Works (g.M.GameGraph.graph l.fn.source) (g.M.GameGraph.is_wide l.fn.source) (g.T.Table.stored l.fn.table) l.done (g.T.Table.stored l.table);
  by_units : g.T.Table.is_honest l.fn.table → IsLocallySound (g.M.GameGraph.graph l.fn.source) (g.M.GameGraph.is_wide l.fn.source) (g.T.Table.stored l.fn.table)
      → AreUnits (g.M.GameGraph.graph l.fn.source) (g.T.Table.stored l.fn.table) l.done (g.T.Table.stored l.table);
  takes : g.T.Table.is_honest l.fn.table → IsLocallySound (g.M.GameGraph.graph l.fn.source) (g.M.GameGraph.is_wide l.fn.source) (g.T.Table.stored l.fn.table)
      → (entries : ℕ) × WriteAtMost (g.M.GameGraph.graph l.fn.source) (g.M.GameGraph.is_wide l.fn.source)
      (g.T.Table.stored l.fn.table) l.done (g.T.Table.stored l.table) entries
      × (g.T.Table.free l.fn.table ≤ g.T.Table.free l.table + PAGES_PER_ENTRY * entries);
  fits : g.T.Table.is_honest l.fn.table → IsTable (g.T.Table.stored l.fn.table) → IsTable (g.T.Table.stored l.table);
  idle : l.done ≡ 0 → l.table ≡ l.fn.table;
}
