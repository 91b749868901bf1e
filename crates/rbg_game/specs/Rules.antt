-- The rules: a regular expression of actions. Each occurrence of an action has a number, from left to right.
use Rattle.std.specs.Prelude.{ℕ, ◌+◌, ◌==◌, Bool, true, false, List, [], ◌∷◌, fold, Option, Some, None, if◌then◌else◌}
use Rattle.std.specs.Option.{option_or}
use Rattle.rbg_game.specs.Expressions.{Expression}
use Rattle.rbg_game.specs.declared.rules.Comparison.{Comparison}
use Rattle.rbg_game.specs.declared.roles.Role.{Role}

mutual
  pub data Regex : Type 0 where
    one : Action → Regex
    empty : Regex
    cat : Regex → Regex → Regex
    alt : Regex → Regex → Regex
    star : Regex → Regex

  -- labels, pieces and variables by their places
  pub data Action : Type 0 where
    shift : ℕ → Action
    on : List ℕ → Action
    off : ℕ → Action
    assignment : ℕ → Expression → Action
    comparison : Expression → Comparison → Expression → Action
    switch : Role → Action
    -- `{? e}` with true, `{! e}` with false
    pattern : Bool → Regex → Action

-- one after another, from the left: (a b) c; one part alone is itself
abbrev pub cat_all : List Regex → Regex
cat_all [] = empty
cat_all (a ∷ rest) = fold cat a rest

-- one of them, from the left: (a + b) + c; one branch alone is itself; no text has a sum of no branches, which is the empty word here
abbrev pub alt_all : List Regex → Regex
alt_all [] = empty
alt_all (a ∷ rest) = fold alt a rest

-- how many occurrences of actions an expression has; a pattern is one
abbrev pub count : Regex → ℕ
count (one a) = 1
count empty = 0
count (cat a b) = count a + count b
count (alt a b) = count a + count b
count (star a) = count a

-- the action with the number k, where the numbers begin with n
abbrev pub action_at : Regex → ℕ → ℕ → Option Action
action_at (one a) n k = if k == n then Some a else None
action_at empty n k = None
action_at (cat a b) n k = option_or (action_at a n k) (action_at b (n + count a) k)
action_at (alt a b) n k = option_or (action_at a n k) (action_at b (n + count a) k)
action_at (star a) n k = action_at a n k

abbrev pub is_switch : Option Action → Bool
is_switch (Some (switch r)) = true
is_switch _ = false

-- an off, an assignment or a switch: what a shown move names
abbrev pub is_modifier : Option Action → Bool
is_modifier (Some (off x)) = true
is_modifier (Some (assignment v r)) = true
is_modifier (Some (switch r)) = true
is_modifier _ = false
