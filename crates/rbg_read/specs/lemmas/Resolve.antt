-- What the program has for the stacks by which rules are resolved.
use Rattle.std.specs.Prelude.{ℕ, Bool, true, false, if◌then◌else◌, ◌==◌, List, [], ◌∷◌, ◌++◌, drop, fold}
use Rattle.std.specs.Prelude.{Option, Some, None, option_map, reverse, map}
use Rattle.rbg_text.specs.Parse.{ParseStep}
use Rattle.rbg_game.specs.Expressions.{Expression}
use Rattle.rbg_game.specs.Rules.{Regex, Action}
use Rattle.rbg_game.specs.declared.rules.Comparison.{Comparison}
use Rattle.rbg_game.specs.declared.roles.Player.TheVariants.{First, Second}
use Rattle.rbg_game.specs.declared.roles.Role.{Role}
use Rattle.rbg_game.specs.declared.roles.Role.TheVariants.{Keeper, Player}
use Rattle.rbg_read.specs.Means.{decimal, index_of}
use Rattle.rbg_read.specs.lemmas.Parts.{Known}
use Rattle.rbg_game.specs.Meaning.{expression_of, regex_of}
use Rattle.rbg_read.specs.declared.resolve.Stack.{Stack as CodeStack}

-- what waits for the steps to come
pub record Stack : Type 0 where
  -- the set whose pieces come next
  pub set : Option (List ℕ)
  pub expressions : List Expression
  pub rules : List Regex

-- nothing waits
abbrev pub empty_stack : Stack
empty_stack = record { set = None; expressions = []; rules = [] }

-- the newest expression, and 0 where there is none
abbrev pub first_expression : List Expression → Expression
first_expression [] = Expression.number 0
first_expression (e ∷ more) = e

-- the newest part of the rules, and no action where there is none
abbrev pub first_rules : List Regex → Regex
first_rules [] = Regex.empty
first_rules (r ∷ more) = r

-- with an expression more
abbrev pub push_expression : Expression → Stack → Stack
push_expression e s = record s { expressions = e ∷ s.expressions }

-- without the newest expression
abbrev pub pop_expression : Stack → Stack
pop_expression s = record s { expressions = drop 1 s.expressions }

-- with a part of the rules more
abbrev pub push_rules : Regex → Stack → Stack
push_rules r s = record s { rules = r ∷ s.rules }

-- without the newest part of the rules
abbrev pub pop_rules : Stack → Stack
pop_rules s = record s { rules = drop 1 s.rules }

-- with an action more
abbrev pub push_action : Action → Stack → Stack
push_action a s = push_rules (Regex.one a) s

-- with the set, if there is one, as an action
abbrev pub finished_set : Option (List ℕ) → Stack → Stack
finished_set None s = s
finished_set (Some pieces) s = push_action (Action.on pieces) (record s { set = None })

-- the set, where one was begun, is an action
abbrev pub finished : Stack → Stack
finished s = finished_set s.set s

-- with one expression made of the two newest
abbrev pub binary_expression : (Expression → Expression → Expression) → Stack → Stack
binary_expression f s =
    push_expression (f (first_expression (drop 1 s.expressions)) (first_expression s.expressions)) (pop_expression (pop_expression s))

-- with one part made of the two newest
abbrev pub binary_rules : (Regex → Regex → Regex) → Stack → Stack
binary_rules f s = push_rules (f (first_rules (drop 1 s.rules)) (first_rules s.rules)) (pop_rules (pop_rules s))

-- with the newest expression negated
abbrev pub negated : Stack → Stack
negated s = push_expression (Expression.negation (first_expression s.expressions)) (pop_expression s)

-- a difference is a sum with a negation
abbrev pub difference : Expression → Expression → Expression
difference a b = Expression.sum a (Expression.negation b)

-- with the newest expression assigned to a variable
abbrev pub assigned : ℕ → Stack → Stack
assigned v s = push_action (Action.assignment v (first_expression s.expressions)) (pop_expression s)

-- with the two newest expressions compared
abbrev pub compared : Comparison → Stack → Stack
compared test s =
    push_action (Action.comparison (first_expression (drop 1 s.expressions)) test (first_expression s.expressions))
    (pop_expression (pop_expression s))

-- with the newest part in a pattern
abbrev pub pattern_made : Bool → Stack → Stack
pattern_made positive s = push_action (Action.pattern positive (first_rules s.rules)) (pop_rules s)

-- with a set that has no piece yet
abbrev pub begun_set : Stack → Stack
begun_set s = record s { set = Some [] }

-- one piece more in the set
abbrev pub with_piece : ℕ → Stack → Stack
with_piece place s = record s { set = option_map (λ pieces. pieces ++ place ∷ []) s.set }

-- with a star on the newest part
abbrev pub starred : Stack → Stack
starred s = push_rules (Regex.star (first_rules s.rules)) (pop_rules s)

-- the role of the player with this place
abbrev pub player_role : ℕ → Role
player_role place = if place == 0 then Player First else Player Second

module _ (known : Known) where
  -- after a step that adds no piece to a set
  abbrev pub performed : ParseStep → Stack → Stack
  performed (ParseStep.number n) s = push_expression (Expression.number (decimal n)) s
  performed (ParseStep.variable v) s = push_expression (Expression.variable (index_of known.values v)) s
  performed ParseStep.negate s = negated s
  performed ParseStep.add s = binary_expression Expression.sum s
  performed ParseStep.subtract s = binary_expression difference s
  performed ParseStep.multiply s = binary_expression Expression.product s
  performed (ParseStep.shift label) s = push_action (Action.shift (index_of known.labels label)) s
  performed ParseStep.on s = begun_set s
  performed (ParseStep.among piece) s = s
  performed (ParseStep.off piece) s = push_action (Action.off (index_of known.pieces piece)) s
  performed (ParseStep.assign v) s = assigned (index_of known.values v) s
  performed (ParseStep.compare test) s = compared test s
  performed (ParseStep.switch player) s = push_action (Action.switch (player_role (index_of known.players player))) s
  performed ParseStep.keeper s = push_action (Action.switch Keeper) s
  performed ParseStep.some_word s = pattern_made true s
  performed ParseStep.no_word s = pattern_made false s
  performed ParseStep.join s = binary_rules Regex.cat s
  performed ParseStep.either s = binary_rules Regex.alt s
  performed ParseStep.star s = starred s

  -- after a step
  abbrev pub after_step : Stack → ParseStep → Stack
  after_step s (ParseStep.among piece) = with_piece (index_of known.pieces piece) s
  after_step s step = performed step (finished s)

  -- the rules that steps stand for
  unfoldable pub resolved : List ParseStep → Regex
  resolved steps = first_rules (finished (fold after_step empty_stack steps)).rules

-- what the program has for it
abbrev pub stack_of : CodeStack → Stack
stack_of s = record {
  set = option_map (λ v. v.items) s.set;
  expressions = map (λ e. expression_of e.expr) (reverse s.expressions.items);
  rules = map (λ r. regex_of r.rules) (reverse s.rules.items);
}
