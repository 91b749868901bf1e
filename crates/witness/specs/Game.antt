-- A game that is over in two moves: the keeper hands over to white, and white gives the win to black or to white.
use Rattle.std.specs.Prelude.{ℕ, List, [], ◌∷◌, codes}
use Rattle.rbg_text.specs.Token.{Text}
use Rattle.rbg_game.specs.Rules.{one, alt, cat_all, switch}
use Rattle.rbg_game.specs.Games.{Game}
use Rattle.rbg_game.specs.Take.{sets}
use Rattle.rbg_game.specs.declared.roles.Player.TheVariants.{First}
use Rattle.rbg_game.specs.declared.roles.Role.{Role}
use Rattle.rbg_game.specs.declared.roles.Role.TheVariants.{Keeper, Player}
use Rattle.rbg_game.specs.declared.position.Position.{Position}

-- the text of the game
abbrev pub witness_text : Text
witness_text =
    codes "#players = white(1), black(1)  #pieces = e  #board = v[e]{}  #rules = ->white ([$black=1] + [$white=1]) ->>"

-- the game that the text says: white is the first player, black the second
abbrev pub witness_game : Game
witness_game = record {
  pieces = codes "e" ∷ [];
  variables = record { name = codes "white"; bound = 1 } ∷ record { name = codes "black"; bound = 1 } ∷ [];
  labels = [];
  vertices = record { name = codes "v"; piece = 0; arrows = [] } ∷ [];
  rules = cat_all (one (switch (Player First)) ∷ alt (sets 1 1) (sets 0 1) ∷ one (switch Keeper) ∷ []);
}

-- the position after this action, with these scores
abbrev pub position_with : Role → ℕ → List ℕ → Position
position_with mover place scores = record {
  state = record { mover = mover; pieces = record { items = 0 ∷ [] }; values = record { items = scores }; vertex = 0 };
  place = place;
}

-- white is to choose
abbrev pub white_chooses : Position
white_chooses = position_with (Player First) 1 (0 ∷ 0 ∷ [])

-- white has given the win to black
abbrev pub black_has_won : Position
black_has_won = position_with Keeper 4 (0 ∷ 1 ∷ [])

-- white has taken the win
abbrev pub white_has_won : Position
white_has_won = position_with Keeper 4 (1 ∷ 0 ∷ [])
