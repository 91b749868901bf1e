-- What holds of each game that a text reads to.
use Rattle.std.specs.Prelude.{ℕ, ◌+◌, ◌≤◌, ◌<◌, ⊤, List, length, map, All}
use Rattle.rbg_game.specs.Expressions.{Expression, HasSmallParts, NamesBelow}
use Rattle.rbg_game.specs.Rules.{Regex, one, empty, cat, alt, star, Action, shift, on, off, assignment, comparison, switch, pattern}
use Rattle.rbg_game.specs.Games.{Game, Vertex, Arrow}
use Rattle.rbg_game.specs.declared.limits.TheConstants.{MAX_VERTICES, MAX_LABELS, MAX_PIECES, MAX_VARIABLES, MAX_ACTIONS, MAX_NUMBER}

-- how many actions an expression has, those in patterns counted too
abbrev mutual
  pub whole_count : Regex → ℕ
  whole_count (one a) = 1 + inner_count a
  whole_count empty = 0
  whole_count (cat a b) = whole_count a + whole_count b
  whole_count (alt a b) = whole_count a + whole_count b
  whole_count (star a) = whole_count a

  -- the actions inside of one
  pub inner_count : Action → ℕ
  inner_count (pattern positive e) = whole_count e
  inner_count _ = 0

-- no action is a switch, at any depth
abbrev mutual
  pub LacksSwitch : Regex → Type 0
  LacksSwitch (one a) = IsNoSwitch a
  LacksSwitch empty = ⊤
  LacksSwitch (cat a b) = LacksSwitch a × LacksSwitch b
  LacksSwitch (alt a b) = LacksSwitch a × LacksSwitch b
  LacksSwitch (star a) = LacksSwitch a

  pub IsNoSwitch : Action → Type 0
  IsNoSwitch (switch r) = ⊥
  IsNoSwitch (pattern positive e) = LacksSwitch e
  IsNoSwitch _ = ⊤

-- the bounds of the players and the variables
abbrev pub bounds : Game → List ℕ
bounds game = map (λ v. v.bound) game.variables

-- it names variables of the game, and cannot become too large
abbrev pub IsSoundExpression : Game → Expression → Type 0
IsSoundExpression game e = NamesBelow (length game.variables) e × HasSmallParts (bounds game) e

-- each action names what the game has, its expressions are sound, and no pattern has a switch in it
abbrev mutual
  pub IsSoundRegex : Game → Regex → Type 0
  IsSoundRegex game (one a) = IsSoundAction game a
  IsSoundRegex game empty = ⊤
  IsSoundRegex game (cat a b) = IsSoundRegex game a × IsSoundRegex game b
  IsSoundRegex game (alt a b) = IsSoundRegex game a × IsSoundRegex game b
  IsSoundRegex game (star a) = IsSoundRegex game a

  pub IsSoundAction : Game → Action → Type 0
  IsSoundAction game (shift l) = l < length game.labels
  IsSoundAction game (on xs) = All (λ x. x < length game.pieces) xs
  IsSoundAction game (off x) = x < length game.pieces
  IsSoundAction game (assignment v r) = (v < length game.variables) × IsSoundExpression game r
  IsSoundAction game (comparison a op b) = IsSoundExpression game a × IsSoundExpression game b
  IsSoundAction game (switch r) = ⊤
  IsSoundAction game (pattern positive e) = LacksSwitch e × IsSoundRegex game e

-- the arrow has a label of the game, and leads to a vertex
abbrev pub IsSoundArrow : Game → Arrow → Type 0
IsSoundArrow game a = (a.label < length game.labels) × (a.to < length game.vertices)

-- the vertex has a piece of the game at the start, and each arrow from it is sound
abbrev pub IsSoundVertex : Game → Vertex → Type 0
IsSoundVertex game v = (v.piece < length game.pieces) × All (IsSoundArrow game) v.arrows

pub record IsSoundGame (game : Game) : Type 0 where
  -- two players, and no more variables beside theirs than there may be
  pub has_players : 2 ≤ length game.variables
  pub few_variables : length game.variables ≤ 2 + MAX_VARIABLES
  pub bounds_fit : All (λ v. v.bound ≤ MAX_NUMBER) game.variables
  pub few_pieces : length game.pieces ≤ MAX_PIECES
  pub few_labels : length game.labels ≤ MAX_LABELS
  pub has_vertex : 1 ≤ length game.vertices
  pub few_vertices : length game.vertices ≤ MAX_VERTICES
  pub vertices_are : All (IsSoundVertex game) game.vertices
  pub few_actions : whole_count game.rules ≤ MAX_ACTIONS
  pub rules_are : IsSoundRegex game game.rules
