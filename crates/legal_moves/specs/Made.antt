-- What a `Compiled` is, to those who use it.
use Rattle.std.specs.Prelude.{refl, ℕ, Option}
use Rattle.std.specs.Coded.{Coded, code_by, coded×, coded_option, coded_ℕ}
use Rattle.rbg_game.specs.declared.game.Game.{Game}
use Rattle.rbg_game.specs.contracts.game.Game as game_contract
use Rattle.position_pack.specs.declared.kind.PackingKind.{PackingKind}
use Rattle.position_pack.specs.contracts.kind.PackingKind as kind_contract

-- a game, the packing of the positions that are asked of and answered, and the goal of the table, if it has one
pub record CompiledGame : Type 0 where
  pub game : Game
  pub kind : PackingKind
  pub goal : Option ℕ

-- it is stored as its fields in a row
abbrev pub compiled_code : Coded CompiledGame
compiled_code =
    code_by (Game × (PackingKind × Option ℕ))
    (coded× game_contract.the_row.coded (coded× kind_contract.the_row.coded (coded_option coded_ℕ)))
    (λ c. (c.game, (c.kind, c.goal))) (λ p. record { game = p.0; kind = p.1.0; goal = p.1.1 }) (λ _. refl)
