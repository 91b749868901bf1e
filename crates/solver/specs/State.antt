-- What a solver is between commands.
use Rattle.std.specs.Prelude.{◌≡◌, Option, None, Some, IsTrue}
use Rattle.rbg_read.specs.Reads.{Reads}
use Rattle.legal_moves.specs.declared.compiled.Compiled.{Compiled}
use Rattle.legal_moves.specs.Compiled.{compiled_game, packing_kind, compiled_goal}
use Rattle.game_file.specs.Kept.{Kept}
use Rattle.game_file.specs.State.{State}
use Rattle.solver.specs.Held.{IsSound}

-- this game in memory is the one that the text of the table reads to, packs positions as the table does, and has its goal
pub record IsMadeOf (source : Compiled) (kept : Kept) : Type 0 where
  pub reads : Reads kept.text (compiled_game source)
  pub packing : packing_kind source ≡ kept.packing
  pub goal : compiled_goal source ≡ kept.goal

-- where a game is loaded, it is made ready in memory
abbrev pub IsSourceOf : Option Compiled → Option Kept → Type 0
IsSourceOf None None = Unit {0}
IsSourceOf (Some source) (Some kept) = IsMadeOf source kept
IsSourceOf _ _ = ⊥

-- the disk does not keep to its word, or what is kept is of other origin
abbrev pub IsOfOtherOrigin : State → Type 0
IsOfOtherOrigin state = IsTrue state.disk.honest → ¬ IsSound state.kept
