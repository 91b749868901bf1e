-- Expressions as tables.
use Rattle.std.specs.Prelude.{◌≡◌, ℕ, ◌+◌, Bool, true, false, List, [], ◌∷◌, ◌++◌, length, take, Some, slice_get, slice_index_or, ◌==◌, if◌then◌else◌}
use Rattle.std.specs.List.{AllZip, list_any}
use Rattle.rbg_game.specs.Rules.{Regex, one, empty, cat, alt, star, count, Action, pattern}
use Rattle.rbg_game.specs.Meaning.{action_of}
use Rattle.legal_moves.specs.Glushkov.{is_nullable, IsNextAt}
use Rattle.legal_moves.specs.NumberLists.{AreListed, list_at}
use Rattle.legal_moves.specs.declared.automaton.table.Step.{Step}
use Rattle.legal_moves.specs.declared.automaton.table.Step.TheVariants.{Act, Ask}
use Rattle.legal_moves.specs.declared.automaton.table.Ends.{Ends}
use Rattle.legal_moves.specs.declared.automaton.table.Table.{Table}

-- the actions of an expression, in the order of their numbers
abbrev pub actions_of : Regex → List Action
actions_of (one a) = a ∷ []
actions_of empty = []
actions_of (cat a b) = actions_of a ++ actions_of b
actions_of (alt a b) = actions_of a ++ actions_of b
actions_of (star a) = actions_of a

abbrev mutual
  -- the expressions of the patterns in one, each after those inside of it
  pub inner_of : Regex → List Regex
  inner_of (one a) = inner_in a
  inner_of empty = []
  inner_of (cat a b) = inner_of a ++ inner_of b
  inner_of (alt a b) = inner_of a ++ inner_of b
  inner_of (star a) = inner_of a

  -- those in an action
  pub inner_in : Action → List Regex
  inner_in (pattern positive e) = inner_of e ++ e ∷ []
  inner_in _ = []

-- the numbers with which words begin
abbrev pub first_of : Regex → ℕ → List ℕ
first_of (one a) n = n ∷ []
first_of empty n = []
first_of (cat a b) n =
    if is_nullable a then first_of a n ++ first_of b (n + count a) else first_of a n
first_of (alt a b) n = first_of a n ++ first_of b (n + count a)
first_of (star a) n = first_of a n

-- the numbers in which words end
abbrev pub last_of : Regex → ℕ → List ℕ
last_of (one a) n = n ∷ []
last_of empty n = []
last_of (cat a b) n =
    if is_nullable b then last_of a n ++ last_of b (n + count a) else last_of b (n + count a)
last_of (alt a b) n = last_of a n ++ last_of b (n + count a)
last_of (star a) n = last_of a n

abbrev pub is_pattern : Action → Bool
is_pattern (pattern positive e) = true
is_pattern _ = false

-- the step does the action; a pattern's expression is the one at the index
abbrev pub IsStep : List Regex → Step → Action → Type 0
IsStep es (Act x) a = (action_of x ≡ a) × (is_pattern a ≡ false)
IsStep es (Ask positive i) a = (e : Regex) × (slice_get es i ≡ Some e) × (a ≡ pattern positive e)

-- how words of the expression begin and end, where its numbers begin with n
pub record IsEnds (ends : Ends) (e : Regex) (n : ℕ) : Type 0 where
  pub first_is : ends.first.items ≡ first_of e n
  pub last_is : ends.last.items ≡ last_of e n

-- the table of an expression; those of its patterns are among es
pub record IsExpressionTable (es : List Regex) (table : Table) (e : Regex) : Type 0 where
  pub steps_are : AllZip (IsStep es) table.steps.items (actions_of e)
  pub follows_are : (i : ℕ) → AreListed (IsNextAt e i) (list_at table.follows.items i)
  pub ends_are : IsEnds table.ends e 1
  pub nullable_is : table.ends.nullable ≡ is_nullable e
  pub lasts_are : (k : ℕ) → slice_index_or table.lasts.items k false ≡ list_any (λ j. j == k) table.ends.last.items

-- a table for each expression, which asks about earlier ones alone
pub record AreTables (es : List Regex) (tables : List Table) : Type 0 where
  pub as_many : length tables ≡ length es
  pub each : (i : ℕ) (table : Table) (e : Regex) → slice_get tables i ≡ Some table → slice_get es i ≡ Some e
      → IsExpressionTable (take i es) table e

-- each number names an expression that is the same as the one at its place
pub record AreSame (es : List Regex) (same : List ℕ) : Type 0 where
  pub as_many : length same ≡ length es
  pub each : (i j : ℕ) → slice_get same i ≡ Some j → slice_get es j ≡ slice_get es i
