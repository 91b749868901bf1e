use Rattle.std.proofs.Common.{◌≡◌, ℕ, Some, length, slice_get}
use Rattle.rbg_game.specs.Rules.{Regex}
use Rattle.rbg_game.specs.Meaning.{game_of}
use Rattle.legal_moves.specs.Configurations.{expressions_of}
use Rattle.legal_moves.specs.Jumps.{AreNarrowRows}
use Rattle.legal_moves.specs.declared.automaton.table.Table.{Table}
use Rattle.legal_moves.specs.declared.automaton.jumps.Jumps.{Jumps}
use Rattle.legal_moves.proofs.automaton.jumps.all_jumps.Given as goal

abbrev pub invariant-loop-index : goal.invariant-loop-index
invariant-loop-index l = record {
  many : length l.all.items ≡ l.index;
  each : (i : ℕ) (table : Table) (e : Regex) (js : Jumps) → slice_get l.tables i ≡ Some table → slice_get (expressions_of (game_of l.game)) i ≡ Some e
      → slice_get l.all.items i ≡ Some js → AreNarrowRows (game_of l.game) e table js;
}
