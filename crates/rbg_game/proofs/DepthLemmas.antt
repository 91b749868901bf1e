-- How deep a sum, a product and a concatenation are.
use Rattle.std.proofs.Common.{◌≡◌, ℕ, ◌+◌, max, List, [], ◌∷◌, ◌++◌, map, sym, ap, ◌∙◌, Vec, Global, arith}
use Rattle.rbg_game.specs.Depth.{deepest, expression_depth_level, expression_depth, action_depth_level, rules_depth_level, rules_depth}
use Rattle.rbg_game.specs.declared.rules.Expr.{Expr, Expr-F, fold-roll-Expr}
use Rattle.rbg_game.specs.declared.rules.Expr.TheVariants as e
use Rattle.rbg_game.specs.declared.rules.Rules.{Rules, Rules-F, fold-roll-Rules}
use Rattle.rbg_game.specs.declared.rules.Rules.TheVariants as r

-- with one more at the end
pub deepest_push : {X : Type 0} (f : X → ℕ) (xs : List X) (x : X) → deepest (map f (xs ++ x ∷ [])) ≡ max (deepest (map f xs)) (f x)
deepest_push f [] x = omega arith
deepest_push f (y ∷ ys) x = omega (arith, deepest_push f ys x)

pub expression_depth-Sum : (terms : Vec Expr Global) → expression_depth (e.Sum terms) ≡ 1 + deepest (map expression_depth terms.items)
expression_depth-Sum terms = ap expression_depth (sym (e.rolls-Sum terms)) ∙ fold-roll-Expr ℕ expression_depth_level (Expr-F.Sum terms)

pub expression_depth-Product : (factors : Vec Expr Global) → expression_depth (e.Product factors) ≡ 1 + deepest (map expression_depth factors.items)
expression_depth-Product factors = ap expression_depth (sym (e.rolls-Product factors)) ∙ fold-roll-Expr ℕ expression_depth_level (Expr-F.Product factors)

pub rules_depth-Concat : (parts : Vec Rules Global) → rules_depth (r.Concat parts) ≡ 1 + deepest (map rules_depth parts.items)
rules_depth-Concat parts = ap rules_depth (sym (r.rolls-Concat parts)) ∙ fold-roll-Rules ℕ ℕ action_depth_level rules_depth_level (Rules-F.Concat parts)

pub rules_depth-Sum : (branches : Vec Rules Global) → rules_depth (r.Sum branches) ≡ 1 + deepest (map rules_depth branches.items)
rules_depth-Sum branches = ap rules_depth (sym (r.rolls-Sum branches)) ∙ fold-roll-Rules ℕ ℕ action_depth_level rules_depth_level (Rules-F.Sum branches)
