-- How deep rules are where each sum, each product and each concatenation is one list: an aid of the proofs.
use Rattle.std.specs.Prelude.{ℕ, suc, max, ◌≤◌, map}
use Rattle.rbg_game.specs.Expressions.{Expression, number, variable, negation, sum, product}
use Rattle.rbg_game.specs.Rules.{Regex, one, empty, cat, alt, star, Action, shift, on, off, assignment, comparison, switch, pattern}
use Rattle.rbg_game.specs.Meaning.{expression_of, regex_of, action_of}
use Rattle.rbg_game.specs.Depth as tree
use Rattle.rbg_game.specs.Depth.{deepest}
use Rattle.rbg_game.specs.declared.rules.Expr.{Expr, Expr-F, out-Expr}
use Rattle.rbg_game.specs.declared.rules.Action.{Action as CodeAction}
use Rattle.rbg_game.specs.declared.rules.Rules.{Rules, Rules-F, out-Rules}

-- the depth of the whole, of its parts as a sum, and of its parts as a product or a concatenation; what is no sum is its only part
pub record Depths : Type 0 where
  pub whole : ℕ
  pub terms : ℕ
  pub factors : ℕ

-- neither a sum nor a product
abbrev pub plain : ℕ → Depths
plain n = record { whole = n; terms = n; factors = n }

-- a sum of such terms
abbrev pub sum_of : ℕ → Depths
sum_of n = record { whole = suc n; terms = n; factors = suc n }

-- a product or a concatenation of such parts
abbrev pub product_of : ℕ → Depths
product_of n = record { whole = suc n; terms = suc n; factors = n }

abbrev pub expression_depths : Expression → Depths
expression_depths (number n) = plain 1
expression_depths (variable v) = plain 1
expression_depths (negation a) = plain (suc (expression_depths a).whole)
expression_depths (sum a b) = sum_of (max (expression_depths a).terms (expression_depths b).whole)
expression_depths (product a b) = product_of (max (expression_depths a).factors (expression_depths b).whole)

abbrev mutual
  pub rules_depths : Regex → Depths
  rules_depths (one a) = plain (action_depth a)
  rules_depths empty = plain 1
  rules_depths (cat a b) = product_of (max (rules_depths a).factors (rules_depths b).whole)
  rules_depths (alt a b) = sum_of (max (rules_depths a).terms (rules_depths b).whole)
  rules_depths (star a) = plain (suc (rules_depths a).whole)

  pub action_depth : Action → ℕ
  action_depth (shift l) = 1
  action_depth (on xs) = 1
  action_depth (off x) = 1
  action_depth (assignment v r) = suc (expression_depths r).whole
  action_depth (comparison a op b) = suc (max (expression_depths a).whole (expression_depths b).whole)
  action_depth (switch r) = 1
  action_depth (pattern positive e) = suc (rules_depths e).whole

-- ---- the trees of the program

-- of an expression this deep, by its first level
abbrev pub expression_level : ℕ → Expr-F Expr → Depths
expression_level d (Expr-F.Sum ts) = record { whole = d; terms = max 1 (deepest (map tree.expression_depth ts.items)); factors = d }
expression_level d (Expr-F.Product fs) = record { whole = d; terms = d; factors = max 1 (deepest (map tree.expression_depth fs.items)) }
expression_level d _ = plain d

abbrev pub depths_of_expression : Expr → Depths
depths_of_expression e = expression_level (tree.expression_depth e) (out-Expr e)

-- of rules this deep, by their first level
abbrev pub rules_level : ℕ → Rules-F CodeAction Rules → Depths
rules_level d (Rules-F.Sum bs) = record { whole = d; terms = max 1 (deepest (map tree.rules_depth bs.items)); factors = d }
rules_level d (Rules-F.Concat ps) = record { whole = d; terms = d; factors = max 1 (deepest (map tree.rules_depth ps.items)) }
rules_level d _ = plain d

abbrev pub depths_of_rules : Rules → Depths
depths_of_rules r = rules_level (tree.rules_depth r) (out-Rules r)

-- ---- no tree is deeper than what it stands for

pub record AreWithin (a b : Depths) : Type 0 where
  pub whole : a.whole ≤ b.whole
  pub terms : a.terms ≤ b.terms
  pub factors : a.factors ≤ b.factors

-- the sums and products of the expression are lists
abbrev pub IsFlatExpression : Expr → Type 0
IsFlatExpression e = AreWithin (depths_of_expression e) (expression_depths (expression_of e))

-- the sums and concatenations of the rules are lists
abbrev pub AreFlatRules : Rules → Type 0
AreFlatRules r = AreWithin (depths_of_rules r) (rules_depths (regex_of r))

abbrev pub IsFlatAction : CodeAction → Type 0
IsFlatAction a = tree.action_depth a ≤ action_depth (action_of a)
