-- How deep the trees of the program are: as deep as a call nests that goes through all of a tree.
use Rattle.std.specs.Prelude.{ℕ, ◌+◌, max, List, [], ◌∷◌}
use Rattle.rbg_game.specs.declared.rules.Expr.{Expr, Expr-F, fold-Expr}
use Rattle.rbg_game.specs.declared.rules.Action.{Action, Action-F, fold-Action}
use Rattle.rbg_game.specs.declared.rules.Rules.{Rules, Rules-F, fold-Rules}

-- the greatest of some depths, and 0 of none
abbrev pub deepest : List ℕ → ℕ
deepest [] = 0
deepest (n ∷ ns) = max n (deepest ns)

-- one level of an expression, with the depth of each part in its place
abbrev pub expression_depth_level : Expr-F ℕ → ℕ
expression_depth_level (Expr-F.Number n) = 1
expression_depth_level (Expr-F.Variable v) = 1
expression_depth_level (Expr-F.Negation a) = 1 + a.value
expression_depth_level (Expr-F.Sum terms) = 1 + deepest terms.items
expression_depth_level (Expr-F.Product factors) = 1 + deepest factors.items

abbrev pub expression_depth : Expr → ℕ
expression_depth = fold-Expr ℕ expression_depth_level

-- one level of an action
abbrev pub action_depth_level : Action-F ℕ ℕ → ℕ
action_depth_level (Action-F.Shift l) = 1
action_depth_level (Action-F.On xs) = 1
action_depth_level (Action-F.Off x) = 1
action_depth_level (Action-F.Assignment v r) = 1 + expression_depth r
action_depth_level (Action-F.Comparison a op b) = 1 + max (expression_depth a) (expression_depth b)
action_depth_level (Action-F.Switch r) = 1
action_depth_level (Action-F.Pattern positive e) = 1 + e.value

-- one level of the rules; an action in them is no level of its own
abbrev pub rules_depth_level : Rules-F ℕ ℕ → ℕ
rules_depth_level (Rules-F.Action a) = a
rules_depth_level (Rules-F.Concat parts) = 1 + deepest parts.items
rules_depth_level (Rules-F.Sum branches) = 1 + deepest branches.items
rules_depth_level (Rules-F.Star e) = 1 + e.value

abbrev pub action_depth : Action → ℕ
action_depth = fold-Action ℕ ℕ action_depth_level rules_depth_level

abbrev pub rules_depth : Rules → ℕ
rules_depth = fold-Rules ℕ ℕ action_depth_level rules_depth_level
