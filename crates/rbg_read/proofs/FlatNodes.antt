-- A node that is made of two parts is flat where the parts are.
use Rattle.std.proofs.Common.{◌≡◌, ℕ, ◌+◌, max, ◌<◌, ◌≤◌, List, [], ◌∷◌, ◌++◌, length, map, fold, Vec, Global, refl, sym, ap, ◌∙◌, arith}
use Rattle.std.proofs.lemmas.List.{map_push}
use Rattle.rbg_game.specs.Expressions.{Expression, number, variable, negation, sum, product, sum_all, product_all}
use Rattle.rbg_game.specs.Rules.{Regex, one, empty, cat, alt, star, cat_all, alt_all, Action, shift, on, off, assignment, comparison, switch, pattern}
use Rattle.rbg_game.specs.Meaning.{expression_of, regex_of}
use Rattle.rbg_game.specs.Depth.{deepest, expression_depth, rules_depth}
use Rattle.rbg_game.specs.declared.rules.Expr.{Expr, Expr-F, out-Expr, out-roll-Expr}
use Rattle.rbg_game.specs.declared.rules.Expr.TheVariants as e
use Rattle.rbg_game.specs.declared.rules.Action.{Action as CodeAction}
use Rattle.rbg_game.specs.declared.rules.Rules.{Rules, Rules-F, out-Rules, out-roll-Rules}
use Rattle.rbg_game.specs.declared.rules.Rules.TheVariants as r
use Rattle.rbg_game.proofs.MeaningLemmas.{expression_of-Sum, expression_of-Product, regex_of-Concat, regex_of-Sum}
use Rattle.rbg_game.proofs.DepthLemmas.{deepest_push, expression_depth-Sum, expression_depth-Product, rules_depth-Concat, rules_depth-Sum}
use Rattle.rbg_read.specs.lemmas.Depths.{Depths, sum_of, product_of, expression_depths, rules_depths, action_depth, expression_level, depths_of_expression, rules_level, depths_of_rules, AreWithin, IsFlatExpression, AreFlatRules}
use Rattle.rbg_read.proofs.StepSizes.{fold_push}

-- ---- depths

module _ (front last : ℕ) (left right : Depths) (within : last ≤ right.whole) (some : 1 ≤ right.whole) where
  joined_sum : front ≤ left.terms → AreWithin
      (record { whole = 1 + max front last; terms = max 1 (max front last); factors = 1 + max front last }) (sum_of (max left.terms right.whole))
  joined_sum h = record { whole = omega arith; terms = omega arith; factors = omega arith }

  joined_product : front ≤ left.factors → AreWithin
      (record { whole = 1 + max front last; terms = 1 + max front last; factors = max 1 (max front last) }) (product_of (max left.factors right.whole))
  joined_product h = record { whole = omega arith; terms = omega arith; factors = omega arith }

expression_some : (x : Expression) → 1 ≤ (expression_depths x).whole
expression_some (number n) = omega arith
expression_some (variable v) = omega arith
expression_some (negation a) = omega arith
expression_some (sum a b) = omega arith
expression_some (product a b) = omega arith

action_some : (x : Action) → 1 ≤ action_depth x
action_some (shift l) = omega arith
action_some (on xs) = omega arith
action_some (off x) = omega arith
action_some (assignment v x) = omega arith
action_some (comparison x op y) = omega arith
action_some (switch role) = omega arith
action_some (pattern positive x) = omega arith

rules_some : (x : Regex) → 1 ≤ (rules_depths x).whole
rules_some (one a) = action_some a
rules_some empty = omega arith
rules_some (cat a b) = omega arith
rules_some (alt a b) = omega arith
rules_some (star a) = omega arith

-- the whole is as deep as the tree
expression_whole : (x : Expr) → (depths_of_expression x).whole ≡ expression_depth x
expression_whole x = go (expression_depth x) (out-Expr x)
  where
    go : (d : ℕ) (level : Expr-F Expr) → (expression_level d level).whole ≡ d
    go d (Expr-F.Number n) = refl
    go d (Expr-F.Variable v) = refl
    go d (Expr-F.Negation part) = refl
    go d (Expr-F.Sum terms) = refl
    go d (Expr-F.Product factors) = refl

pub rules_whole : (x : Rules) → (depths_of_rules x).whole ≡ rules_depth x
rules_whole x = go (rules_depth x) (out-Rules x)
  where
    go : (d : ℕ) (level : Rules-F CodeAction Rules) → (rules_level d level).whole ≡ d
    go d (Rules-F.Action a) = refl
    go d (Rules-F.Concat parts) = refl
    go d (Rules-F.Sum branches) = refl
    go d (Rules-F.Star inner) = refl

-- ---- expressions

sum_more : (front : List Expr) (right : Expr) → 0 < length front
    → sum_all (map expression_of (front ++ right ∷ [])) ≡ sum (sum_all (map expression_of front)) (expression_of right)
sum_more [] right h = absurd (omega arith)
sum_more (x ∷ xs) right h =
    ap (λ ys. fold sum (expression_of x) ys) (map_push expression_of xs right) ∙ fold_push sum (expression_of x) (map expression_of xs) (expression_of right)

product_more : (front : List Expr) (right : Expr) → 0 < length front
    → product_all (map expression_of (front ++ right ∷ [])) ≡ product (product_all (map expression_of front)) (expression_of right)
product_more [] right h = absurd (omega arith)
product_more (x ∷ xs) right h =
    ap (λ ys. fold product (expression_of x) ys) (map_push expression_of xs right)
    ∙ fold_push product (expression_of x) (map expression_of xs) (expression_of right)

module _ (parts : Vec Expr Global) (front : List Expr) (left right : Expr) (is : parts.items ≡ front ++ right ∷ []) (some : 0 < length front) where
  pub sum_means : sum_all (map expression_of front) ≡ expression_of left → expression_of (e.Sum parts) ≡ sum (expression_of left) (expression_of right)
  sum_means same =
      expression_of-Sum parts ∙ ap (λ xs. sum_all (map expression_of xs)) is ∙ sum_more front right some ∙ ap (λ l. sum l (expression_of right)) same

  pub sum_flat : sum_all (map expression_of front) ≡ expression_of left
      → deepest (map expression_depth front) ≤ (depths_of_expression left).terms → IsFlatExpression left → IsFlatExpression right
      → IsFlatExpression (e.Sum parts)
  sum_flat same below flat flat2 =
      let depth : ℕ = max (deepest (map expression_depth front)) (expression_depth right) in
      let inner : deepest (map expression_depth parts.items) ≡ depth = ap (λ xs. deepest (map expression_depth xs)) is
      ∙ deepest_push expression_depth front right in
      let level : out-Expr (e.Sum parts) ≡ Expr-F.Sum parts = ap out-Expr (sym (e.rolls-Sum parts)) ∙ out-roll-Expr (Expr-F.Sum parts) in
      let depths : depths_of_expression (e.Sum parts) ≡ record { whole = 1 + depth; terms = max 1 depth; factors = 1 + depth } =
      ap (λ l. expression_level (expression_depth (e.Sum parts)) l) level ∙ ap (λ d. expression_level d (Expr-F.Sum parts)) (expression_depth-Sum parts)
      ∙ ap (λ d. record { whole = 1 + d; terms = max 1 d; factors = 1 + d }) inner in
      let whole : expression_depth right ≤ (expression_depths (expression_of right)).whole = omega (arith, expression_whole right, flat2.whole) in
      rw (depths, sum_means same)
      (joined_sum (deepest (map expression_depth front)) (expression_depth right) (expression_depths (expression_of left))
      (expression_depths (expression_of right)) whole (expression_some (expression_of right))
      (omega (arith, below, flat.terms)))

  pub product_means : product_all (map expression_of front) ≡ expression_of left
      → expression_of (e.Product parts) ≡ product (expression_of left) (expression_of right)
  product_means same =
      expression_of-Product parts ∙ ap (λ xs. product_all (map expression_of xs)) is ∙ product_more front right some
      ∙ ap (λ l. product l (expression_of right)) same

  pub product_flat : product_all (map expression_of front) ≡ expression_of left
      → deepest (map expression_depth front) ≤ (depths_of_expression left).factors → IsFlatExpression left → IsFlatExpression right
      → IsFlatExpression (e.Product parts)
  product_flat same below flat flat2 =
      let depth : ℕ = max (deepest (map expression_depth front)) (expression_depth right) in
      let inner : deepest (map expression_depth parts.items) ≡ depth = ap (λ xs. deepest (map expression_depth xs)) is
      ∙ deepest_push expression_depth front right in
      let level : out-Expr (e.Product parts) ≡ Expr-F.Product parts = ap out-Expr (sym (e.rolls-Product parts)) ∙ out-roll-Expr (Expr-F.Product parts) in
      let depths : depths_of_expression (e.Product parts) ≡ record { whole = 1 + depth; terms = 1 + depth; factors = max 1 depth } =
      ap (λ l. expression_level (expression_depth (e.Product parts)) l) level
      ∙ ap (λ d. expression_level d (Expr-F.Product parts)) (expression_depth-Product parts)
      ∙ ap (λ d. record { whole = 1 + d; terms = 1 + d; factors = max 1 d }) inner in
      let whole : expression_depth right ≤ (expression_depths (expression_of right)).whole = omega (arith, expression_whole right, flat2.whole) in
      rw (depths, product_means same)
      (joined_product (deepest (map expression_depth front)) (expression_depth right) (expression_depths (expression_of left))
      (expression_depths (expression_of right)) whole (expression_some (expression_of right))
      (omega (arith, below, flat.factors)))

-- ---- rules

concat_more : (front : List Rules) (right : Rules) → 0 < length front
    → cat_all (map regex_of (front ++ right ∷ [])) ≡ cat (cat_all (map regex_of front)) (regex_of right)
concat_more [] right h = absurd (omega arith)
concat_more (x ∷ xs) right h =
    ap (λ ys. fold cat (regex_of x) ys) (map_push regex_of xs right) ∙ fold_push cat (regex_of x) (map regex_of xs) (regex_of right)

either_more : (front : List Rules) (right : Rules) → 0 < length front
    → alt_all (map regex_of (front ++ right ∷ [])) ≡ alt (alt_all (map regex_of front)) (regex_of right)
either_more [] right h = absurd (omega arith)
either_more (x ∷ xs) right h =
    ap (λ ys. fold alt (regex_of x) ys) (map_push regex_of xs right) ∙ fold_push alt (regex_of x) (map regex_of xs) (regex_of right)

module _ (parts : Vec Rules Global) (front : List Rules) (left right : Rules) (is : parts.items ≡ front ++ right ∷ []) (some : 0 < length front) where
  pub concat_means : cat_all (map regex_of front) ≡ regex_of left → regex_of (r.Concat parts) ≡ cat (regex_of left) (regex_of right)
  concat_means same =
      regex_of-Concat parts ∙ ap (λ xs. cat_all (map regex_of xs)) is ∙ concat_more front right some ∙ ap (λ l. cat l (regex_of right)) same

  pub concat_flat : cat_all (map regex_of front) ≡ regex_of left → deepest (map rules_depth front) ≤ (depths_of_rules left).factors
      → AreFlatRules left → AreFlatRules right
      → AreFlatRules (r.Concat parts)
  concat_flat same below flat flat2 =
      let depth : ℕ = max (deepest (map rules_depth front)) (rules_depth right) in
      let inner : deepest (map rules_depth parts.items) ≡ depth = ap (λ xs. deepest (map rules_depth xs)) is ∙ deepest_push rules_depth front right in
      let level : out-Rules (r.Concat parts) ≡ Rules-F.Concat parts = ap out-Rules (sym (r.rolls-Concat parts)) ∙ out-roll-Rules (Rules-F.Concat parts) in
      let depths : depths_of_rules (r.Concat parts) ≡ record { whole = 1 + depth; terms = 1 + depth; factors = max 1 depth } =
      ap (λ l. rules_level (rules_depth (r.Concat parts)) l) level ∙ ap (λ d. rules_level d (Rules-F.Concat parts)) (rules_depth-Concat parts)
      ∙ ap (λ d. record { whole = 1 + d; terms = 1 + d; factors = max 1 d }) inner in
      let whole : rules_depth right ≤ (rules_depths (regex_of right)).whole = omega (arith, rules_whole right, flat2.whole) in
      rw (depths, concat_means same)
      (joined_product (deepest (map rules_depth front)) (rules_depth right) (rules_depths (regex_of left))
      (rules_depths (regex_of right)) whole (rules_some (regex_of right))
      (omega (arith, below, flat.factors)))

  pub either_means : alt_all (map regex_of front) ≡ regex_of left → regex_of (r.Sum parts) ≡ alt (regex_of left) (regex_of right)
  either_means same =
      regex_of-Sum parts ∙ ap (λ xs. alt_all (map regex_of xs)) is ∙ either_more front right some ∙ ap (λ l. alt l (regex_of right)) same

  pub either_flat : alt_all (map regex_of front) ≡ regex_of left → deepest (map rules_depth front) ≤ (depths_of_rules left).terms
      → AreFlatRules left → AreFlatRules right
      → AreFlatRules (r.Sum parts)
  either_flat same below flat flat2 =
      let depth : ℕ = max (deepest (map rules_depth front)) (rules_depth right) in
      let inner : deepest (map rules_depth parts.items) ≡ depth = ap (λ xs. deepest (map rules_depth xs)) is ∙ deepest_push rules_depth front right in
      let level : out-Rules (r.Sum parts) ≡ Rules-F.Sum parts = ap out-Rules (sym (r.rolls-Sum parts)) ∙ out-roll-Rules (Rules-F.Sum parts) in
      let depths : depths_of_rules (r.Sum parts) ≡ record { whole = 1 + depth; terms = max 1 depth; factors = 1 + depth } =
      ap (λ l. rules_level (rules_depth (r.Sum parts)) l) level ∙ ap (λ d. rules_level d (Rules-F.Sum parts)) (rules_depth-Sum parts)
      ∙ ap (λ d. record { whole = 1 + d; terms = max 1 d; factors = 1 + d }) inner in
      let whole : rules_depth right ≤ (rules_depths (regex_of right)).whole = omega (arith, rules_whole right, flat2.whole) in
      rw (depths, either_means same)
      (joined_sum (deepest (map rules_depth front)) (rules_depth right) (rules_depths (regex_of left)) (rules_depths (regex_of right)) whole
      (rules_some (regex_of right))
      (omega (arith, below, flat.terms)))
