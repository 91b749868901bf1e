-- What a `Compiled` stands for.
use Rattle.std.specs.Prelude.{◌≡◌, ℕ, Option}
use Rattle.rbg_game.specs.Games.{Game}
use Rattle.rbg_game.specs.Meaning.{game_of}
use Rattle.rbg_game.specs.Sound.{IsSoundGame}
use Rattle.rbg_game.specs.Positions.{IsPositionOf}
use Rattle.position_pack.specs.declared.kind.PackingKind.{PackingKind}
use Rattle.position_pack.specs.Shape.{shape_of}
use Rattle.legal_moves.specs.Configurations.{expressions_of}
use Rattle.legal_moves.specs.Jumps.{AreJumpRows, AreJumps}
use Rattle.legal_moves.specs.Made.{CompiledGame}
use Rattle.legal_moves.specs.Moves.{start_of}
use Rattle.legal_moves.specs.Tables.{AreTables, AreSame, inner_of}
use Rattle.legal_moves.specs.declared.compiled.Compiled.TheInside.{Inside}

-- the game that was compiled
abbrev pub compiled_game : CompiledGame → Game
compiled_game c = game_of c.game

-- the packing of the positions that it is asked of, and of those that it answers
abbrev pub packing_kind : CompiledGame → PackingKind
packing_kind c = c.kind

-- the goal of its table, if it has one
abbrev pub compiled_goal : CompiledGame → Option ℕ
compiled_goal c = c.goal

-- the game is within its limits, and its start a position
pub record IsSoundCompiled (c : CompiledGame) : Type 0 where
  pub sound : IsSoundGame (compiled_game c)
  pub start_is : IsPositionOf (compiled_game c) (start_of (compiled_game c))

-- the game is within its limits, its own packing is used, and each expression that is searched has its table and its jumps, and so have the rules
pub record IsCompiled (c : Inside) : Type 0 where
  pub sound : IsSoundGame (game_of c.game)
  pub packing_is : c.packing.shape ≡ shape_of (game_of c.game)
  pub tables_are : AreTables (expressions_of (game_of c.game)) c.tables.items
  pub same_are : AreSame (inner_of (game_of c.game).rules) c.same.items
  pub jumps_are : AreJumps (game_of c.game) c.tables.items c.jumps.items
  pub hops_are : AreJumpRows (game_of c.game) (game_of c.game).rules c.hops
