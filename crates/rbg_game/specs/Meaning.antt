-- What the trees of the program stand for. A node with one part stands for that part, so that a tree may have such nodes
-- or leave them out.
use Rattle.std.specs.Prelude.{map}
use Rattle.rbg_game.specs.Expressions.{Expression, number, variable, negation, sum_all, product_all}
use Rattle.rbg_game.specs.Rules as textbook
use Rattle.rbg_game.specs.Games as textbook_games
use Rattle.rbg_game.specs.declared.rules.Expr.{Expr, Expr-F, fold-Expr}
use Rattle.rbg_game.specs.declared.rules.Action.{Action, Action-F, fold-Action}
use Rattle.rbg_game.specs.declared.rules.Rules.{Rules, Rules-F, fold-Rules}
use Rattle.rbg_game.specs.declared.game.Arrow.{Arrow}
use Rattle.rbg_game.specs.declared.game.Game.{Game}
use Rattle.rbg_game.specs.declared.game.Variable.{Variable}
use Rattle.rbg_game.specs.declared.game.Vertex.{Vertex}

-- one level of an expression, with the meaning of each part in its place
abbrev pub expression_level : Expr-F Expression → Expression
expression_level (Expr-F.Number n) = number n
expression_level (Expr-F.Variable v) = variable v
expression_level (Expr-F.Negation a) = negation a.value
expression_level (Expr-F.Sum terms) = sum_all terms.items
expression_level (Expr-F.Product factors) = product_all factors.items

abbrev pub expression_of : Expr → Expression
expression_of = fold-Expr Expression expression_level

-- one level of an action
abbrev pub action_level : Action-F textbook.Action textbook.Regex → textbook.Action
action_level (Action-F.Shift l) = textbook.shift l
action_level (Action-F.On xs) = textbook.on xs.items
action_level (Action-F.Off x) = textbook.off x
action_level (Action-F.Assignment v r) = textbook.assignment v (expression_of r)
action_level (Action-F.Comparison a op b) = textbook.comparison (expression_of a) op (expression_of b)
action_level (Action-F.Switch r) = textbook.switch r
action_level (Action-F.Pattern positive e) = textbook.pattern positive e.value

-- one level of the rules
abbrev pub rules_level : Rules-F textbook.Action textbook.Regex → textbook.Regex
rules_level (Rules-F.Action a) = textbook.one a
rules_level (Rules-F.Concat parts) = textbook.cat_all parts.items
rules_level (Rules-F.Sum branches) = textbook.alt_all branches.items
rules_level (Rules-F.Star e) = textbook.star e.value

abbrev pub action_of : Action → textbook.Action
action_of = fold-Action textbook.Action textbook.Regex action_level rules_level

abbrev pub regex_of : Rules → textbook.Regex
regex_of = fold-Rules textbook.Action textbook.Regex action_level rules_level

abbrev pub variable_of : Variable → textbook_games.Variable
variable_of v = record { name = v.name.bytes.items; bound = v.bound }

abbrev pub arrow_of : Arrow → textbook_games.Arrow
arrow_of a = record { label = a.label; to = a.to }

abbrev pub vertex_of : Vertex → textbook_games.Vertex
vertex_of v = record { name = v.name.bytes.items; piece = v.piece; arrows = map arrow_of v.arrows.items }

abbrev pub game_of : Game → textbook_games.Game
game_of game = record {
  pieces = map (λ n. n.bytes.items) game.pieces.items;
  variables = map variable_of game.variables.items;
  labels = map (λ n. n.bytes.items) game.labels.items;
  vertices = map vertex_of game.vertices.items;
  rules = regex_of game.rules;
}
