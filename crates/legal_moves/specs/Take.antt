-- The small game of takes, after its first move.
use Rattle.std.specs.Prelude.{[], ◌∷◌}
use Rattle.rbg_game.specs.declared.roles.Player.TheVariants.{First}
use Rattle.rbg_game.specs.declared.roles.Role.TheVariants.{Player}
use Rattle.rbg_game.specs.declared.position.Position.{Position}

-- `white 2 v e 0,0,3`
abbrev pub after_first_move : Position
after_first_move = record {
  state = record {
    mover = Player First;
    pieces = record { items = 0 ∷ [] };
    values = record { items = 0 ∷ 0 ∷ 3 ∷ [] };
    vertex = 0;
  };
  place = 2;
}
