-- What each variant of an expression, an action and the rules stands for.
use Rattle.std.proofs.Common.{◌≡◌, ℕ, Bool, map, sym, ap, ◌∙◌, Vec, Box, Global}
use Rattle.rbg_game.specs.Expressions.{Expression, number, variable, negation, sum_all, product_all}
use Rattle.rbg_game.specs.Rules as textbook
use Rattle.rbg_game.specs.Meaning.{expression_level, expression_of, action_level, rules_level, action_of, regex_of}
use Rattle.rbg_game.specs.declared.rules.Expr.{Expr, Expr-F, fold-roll-Expr}
use Rattle.rbg_game.specs.declared.rules.Expr.TheVariants as e
use Rattle.rbg_game.specs.declared.rules.Action.{Action, Action-F, fold-roll-Action}
use Rattle.rbg_game.specs.declared.rules.Action.TheVariants as a
use Rattle.rbg_game.specs.declared.rules.Rules.{Rules, Rules-F, fold-roll-Rules}
use Rattle.rbg_game.specs.declared.rules.Rules.TheVariants as r
use Rattle.rbg_game.specs.declared.rules.Comparison.{Comparison}
use Rattle.rbg_game.specs.declared.roles.Role.{Role}

pub expression_of-Number : (n : ℕ) → expression_of (e.Number n) ≡ number n
expression_of-Number n = ap expression_of (sym (e.rolls-Number n)) ∙ fold-roll-Expr Expression expression_level (Expr-F.Number n)

pub expression_of-Variable : (v : ℕ) → expression_of (e.Variable v) ≡ variable v
expression_of-Variable v = ap expression_of (sym (e.rolls-Variable v)) ∙ fold-roll-Expr Expression expression_level (Expr-F.Variable v)

pub expression_of-Negation : (part : Box Expr Global) → expression_of (e.Negation part) ≡ negation (expression_of part.value)
expression_of-Negation part = ap expression_of (sym (e.rolls-Negation part)) ∙ fold-roll-Expr Expression expression_level (Expr-F.Negation part)

pub expression_of-Sum : (terms : Vec Expr Global) → expression_of (e.Sum terms) ≡ sum_all (map expression_of terms.items)
expression_of-Sum terms = ap expression_of (sym (e.rolls-Sum terms)) ∙ fold-roll-Expr Expression expression_level (Expr-F.Sum terms)

pub expression_of-Product : (factors : Vec Expr Global) → expression_of (e.Product factors) ≡ product_all (map expression_of factors.items)
expression_of-Product factors = ap expression_of (sym (e.rolls-Product factors)) ∙ fold-roll-Expr Expression expression_level (Expr-F.Product factors)

-- ---- actions

pub action_of-Shift : (l : ℕ) → action_of (a.Shift l) ≡ textbook.shift l
action_of-Shift l = ap action_of (sym (a.rolls-Shift l)) ∙ fold-roll-Action textbook.Action textbook.Regex action_level rules_level (Action-F.Shift l)

pub action_of-On : (xs : Vec ℕ Global) → action_of (a.On xs) ≡ textbook.on xs.items
action_of-On xs = ap action_of (sym (a.rolls-On xs)) ∙ fold-roll-Action textbook.Action textbook.Regex action_level rules_level (Action-F.On xs)

pub action_of-Off : (x : ℕ) → action_of (a.Off x) ≡ textbook.off x
action_of-Off x = ap action_of (sym (a.rolls-Off x)) ∙ fold-roll-Action textbook.Action textbook.Regex action_level rules_level (Action-F.Off x)

pub action_of-Assignment : (v : ℕ) (e : Expr) → action_of (a.Assignment v e) ≡ textbook.assignment v (expression_of e)
action_of-Assignment v e = ap action_of (sym (a.rolls-Assignment v e))
    ∙ fold-roll-Action textbook.Action textbook.Regex action_level rules_level (Action-F.Assignment v e)

pub action_of-Comparison : (x : Expr) (op : Comparison) (y : Expr)
    → action_of (a.Comparison x op y) ≡ textbook.comparison (expression_of x) op (expression_of y)
action_of-Comparison x op y = ap action_of (sym (a.rolls-Comparison x op y))
    ∙ fold-roll-Action textbook.Action textbook.Regex action_level rules_level (Action-F.Comparison x op y)

pub action_of-Switch : (role : Role) → action_of (a.Switch role) ≡ textbook.switch role
action_of-Switch role = ap action_of (sym (a.rolls-Switch role))
    ∙ fold-roll-Action textbook.Action textbook.Regex action_level rules_level (Action-F.Switch role)

pub action_of-Pattern : (positive : Bool) (e : Box Rules Global) → action_of (a.Pattern positive e) ≡ textbook.pattern positive (regex_of e.value)
action_of-Pattern positive e = ap action_of (sym (a.rolls-Pattern positive e))
    ∙ fold-roll-Action textbook.Action textbook.Regex action_level rules_level (Action-F.Pattern positive e)

-- ---- rules

pub regex_of-Action : (x : Action) → regex_of (r.Action x) ≡ textbook.one (action_of x)
regex_of-Action x = ap regex_of (sym (r.rolls-Action x)) ∙ fold-roll-Rules textbook.Action textbook.Regex action_level rules_level (Rules-F.Action x)

pub regex_of-Concat : (parts : Vec Rules Global) → regex_of (r.Concat parts) ≡ textbook.cat_all (map regex_of parts.items)
regex_of-Concat parts = ap regex_of (sym (r.rolls-Concat parts))
    ∙ fold-roll-Rules textbook.Action textbook.Regex action_level rules_level (Rules-F.Concat parts)

pub regex_of-Sum : (branches : Vec Rules Global) → regex_of (r.Sum branches) ≡ textbook.alt_all (map regex_of branches.items)
regex_of-Sum branches = ap regex_of (sym (r.rolls-Sum branches))
    ∙ fold-roll-Rules textbook.Action textbook.Regex action_level rules_level (Rules-F.Sum branches)

pub regex_of-Star : (e : Box Rules Global) → regex_of (r.Star e) ≡ textbook.star (regex_of e.value)
regex_of-Star e = ap regex_of (sym (r.rolls-Star e)) ∙ fold-roll-Rules textbook.Action textbook.Regex action_level rules_level (Rules-F.Star e)
