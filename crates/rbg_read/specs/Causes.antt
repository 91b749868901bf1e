-- Why a syntax tree is no game, and the limits. The causes have the codes that the program prints.
use Rattle.std.specs.Prelude.{ℕ, ◌+◌, ◌*◌, Bool, true, false, not, ◌&&◌, ◌||◌, if◌then◌else◌, ◌==◌, nat_lt, nat_le, List, [], ◌∷◌, ◌++◌}
use Rattle.std.specs.Prelude.{length, map, sum_by, count_by, slice_index, Option, Some, None}
use Rattle.std.specs.List.{flat_map, list_any}
use Rattle.std.specs.Str.{bytes_eq}
use Rattle.rbg_game.specs.declared.limits.TheConstants.{MAX_VERTICES, MAX_LABELS, MAX_PIECES, MAX_VARIABLES, MAX_ACTIONS, MAX_NUMBER}
use Rattle.rbg_text.specs.Token.{Text}
use Rattle.rbg_text.specs.Syntax as syntax
use Rattle.rbg_text.specs.Syntax.{Tokens, Declaration, Section, Base, Expr}
use Rattle.rbg_read.specs.Means.{decimal, Names, names_of, values_of, index_of, players_of, variables_of, vertices_of, rules_of}
use Rattle.rbg_read.specs.declared.fault.GameFault.{GameFault}
use Rattle.rbg_read.specs.declared.fault.GameFault.TheVariants as cause

-- ---- limits

-- the greatest size of an expression, 2^62
abbrev pub max_size : ℕ
max_size = 4611686018427387904

-- ---- the parts of a tree

-- the names and the numbers in an expression
abbrev mutual
  pub names_in : Expr → List Text
  names_in (syntax.sum_of t) = names_in_term t
  names_in (syntax.plus e t) = names_in e ++ names_in_term t
  names_in (syntax.minus e t) = names_in e ++ names_in_term t

  pub names_in_term : syntax.Term → List Text
  names_in_term (syntax.product_of f) = names_in_factor f
  names_in_term (syntax.times t f) = names_in_term t ++ names_in_factor f

  pub names_in_factor : syntax.Factor → List Text
  names_in_factor (syntax.positive a) = names_in_atom a
  names_in_factor (syntax.negative a) = names_in_atom a

  pub names_in_atom : syntax.Atom → List Text
  names_in_atom (syntax.literal n) = []
  names_in_atom (syntax.variable v) = v ∷ []
  names_in_atom (syntax.parenthesized e) = names_in e

abbrev mutual
  pub literals_in : Expr → List Text
  literals_in (syntax.sum_of t) = literals_in_term t
  literals_in (syntax.plus e t) = literals_in e ++ literals_in_term t
  literals_in (syntax.minus e t) = literals_in e ++ literals_in_term t

  pub literals_in_term : syntax.Term → List Text
  literals_in_term (syntax.product_of f) = literals_in_factor f
  literals_in_term (syntax.times t f) = literals_in_term t ++ literals_in_factor f

  pub literals_in_factor : syntax.Factor → List Text
  literals_in_factor (syntax.positive a) = literals_in_atom a
  literals_in_factor (syntax.negative a) = literals_in_atom a

  pub literals_in_atom : syntax.Atom → List Text
  literals_in_atom (syntax.literal n) = n ∷ []
  literals_in_atom (syntax.variable v) = []
  literals_in_atom (syntax.parenthesized e) = literals_in e

-- every action of the rules, a pattern and then the actions in it
abbrev mutual
  pub actions_in : syntax.Sum → List Base
  actions_in (syntax.branch c) = actions_in_concat c
  actions_in (syntax.either s c) = actions_in s ++ actions_in_concat c

  pub actions_in_concat : syntax.Concat → List Base
  actions_in_concat (syntax.single e) = actions_in_element e
  actions_in_concat (syntax.followed c e) = actions_in_concat c ++ actions_in_element e

  pub actions_in_element : syntax.Element → List Base
  actions_in_element (syntax.once b) = actions_in_base b
  actions_in_element (syntax.star b) = actions_in_base b

  pub actions_in_base : syntax.Base → List Base
  actions_in_base (syntax.group s) = actions_in s
  actions_in_base (syntax.some_word s) = syntax.some_word s ∷ actions_in s
  actions_in_base (syntax.no_word s) = syntax.no_word s ∷ actions_in s
  actions_in_base b = b ∷ []

-- the expressions of an action
abbrev pub expressions_of : Base → List Expr
expressions_of (syntax.assign first more) = map (λ a. a.value) (first ∷ more)
expressions_of (syntax.compare left test right) = left ∷ right ∷ []
expressions_of _ = []

-- every action of a text
abbrev pub all_actions : List Section → List Base
all_actions all = flat_map actions_in (flat_map rules_of all)

-- every expression of a text
abbrev pub all_expressions : List Section → List Expr
all_expressions all = flat_map expressions_of (all_actions all)

-- ---- G2: each section is there once, and the variables at most once

-- the section names the players
abbrev pub is_players : Section → Bool
is_players (syntax.players first more) = true
is_players _ = false

-- the section names the pieces
abbrev pub is_pieces : Section → Bool
is_pieces (syntax.pieces first more) = true
is_pieces _ = false

-- the section names the variables
abbrev pub is_variables : Section → Bool
is_variables (syntax.variables declarations) = true
is_variables _ = false

-- the section has the board
abbrev pub is_board : Section → Bool
is_board (syntax.board first more) = true
is_board _ = false

-- the section has the rules
abbrev pub is_rules : Section → Bool
is_rules (syntax.rules s) = true
is_rules _ = false

-- each section once, but for the variables, which may be missing
abbrev pub has_wrong_sections : List Section → Bool
has_wrong_sections all =
    not (count_by is_players all == 1 && count_by is_pieces all == 1 && nat_le (count_by is_variables all) 1
    && count_by is_board all == 1 && count_by is_rules all == 1)

-- ---- G3: there are two players

-- there are more or fewer players than two
abbrev pub has_not_two_players : List Section → Bool
has_not_two_players all = not (length (flat_map players_of all) == 2)

-- ---- G4: each name that is used is declared

-- the name is not among the known ones
abbrev pub is_unknown : List Text → Text → Bool
is_unknown known w = not (list_any (bytes_eq w) known)

-- the expression names what is neither a player nor a variable
abbrev pub uses_unknown_value : Names → Expr → Bool
uses_unknown_value names e = list_any (is_unknown (values_of names)) (names_in e)

-- an action itself; those in a pattern stand for themselves
abbrev pub action_uses_unknown : Names → Base → Bool
action_uses_unknown names (syntax.shift label) = is_unknown names.labels label
action_uses_unknown names (syntax.on pieces) = list_any (is_unknown names.pieces) pieces
action_uses_unknown names (syntax.off piece) = is_unknown names.pieces piece
action_uses_unknown names (syntax.assign first more) =
    list_any (λ a. is_unknown (values_of names) a.target || uses_unknown_value names a.value) (first ∷ more)
action_uses_unknown names (syntax.compare left test right) = uses_unknown_value names left || uses_unknown_value names right
action_uses_unknown names (syntax.switch player) = is_unknown names.players player
action_uses_unknown names _ = false

-- the vertex names a piece or a vertex that is not declared
abbrev pub vertex_uses_unknown : Names → syntax.WrittenVertex → Bool
vertex_uses_unknown names v = is_unknown names.pieces v.piece || list_any (λ a. is_unknown names.vertices a.to) v.arrows

-- a vertex or an action names what is not declared
abbrev pub has_unknown_name : List Section → Bool
has_unknown_name all =
    let names = names_of all in
    list_any (vertex_uses_unknown names) (flat_map vertices_of all) || list_any (action_uses_unknown names) (all_actions all)

-- ---- G5: no name is declared twice

-- a name stands twice in the list
abbrev pub has_repeat : List Text → Bool
has_repeat [] = false
has_repeat (x ∷ xs) = list_any (bytes_eq x) xs || has_repeat xs

-- a name is declared twice for things of one kind, or stands at two arrows of a vertex
abbrev pub has_repeated_name : List Section → Bool
has_repeated_name all =
    let names = names_of all in
    has_repeat (values_of names) || has_repeat names.pieces || has_repeat names.vertices
    || list_any (λ v. has_repeat (map (λ a. a.label) v.arrows)) (flat_map vertices_of all)

-- ---- G6: no bound and no number is over the limit

-- the digits spell a number over the limit
abbrev pub is_too_large : Text → Bool
is_too_large digits = nat_lt MAX_NUMBER (decimal digits)

-- a bound or a number is over the limit
abbrev pub has_large_number : List Section → Bool
has_large_number all =
    list_any (λ d. is_too_large d.bound) (flat_map players_of all) || list_any (λ d. is_too_large d.bound) (flat_map variables_of all)
    || list_any (λ e. list_any is_too_large (literals_in e)) (all_expressions all)

-- ---- G7: the parts of a tree are within the limits

-- a list of assignments counts as one action each
abbrev pub action_count : Base → ℕ
action_count (syntax.assign first more) = length (first ∷ more)
action_count _ = 1

-- there is more of something than a game may have
abbrev pub passes_a_limit : List Section → Bool
passes_a_limit all =
    let names = names_of all in
    nat_lt MAX_VERTICES (length names.vertices) || nat_lt MAX_LABELS (length names.labels) || nat_lt MAX_PIECES (length names.pieces)
    || nat_lt MAX_VARIABLES (length names.variables) || nat_lt MAX_ACTIONS (sum_by action_count (all_actions all))

-- ---- G8: no expression can become too large

-- the bounds of the players and the variables, by their index
abbrev pub bounds_of : List Section → List ℕ
bounds_of all = map (λ d. decimal d.bound) (flat_map players_of all ++ flat_map variables_of all)

module _ (names : List Text) (bounds : List ℕ) where
  -- the size of a number is its value, of a variable its bound
  abbrev mutual
    pub size : Expr → ℕ
    size (syntax.sum_of t) = term_size t
    size (syntax.plus e t) = size e + term_size t
    size (syntax.minus e t) = size e + term_size t

    pub term_size : syntax.Term → ℕ
    term_size (syntax.product_of f) = factor_size f
    term_size (syntax.times t f) = term_size t * factor_size f

    pub factor_size : syntax.Factor → ℕ
    factor_size (syntax.positive a) = atom_size a
    factor_size (syntax.negative a) = atom_size a

    pub atom_size : syntax.Atom → ℕ
    atom_size (syntax.literal n) = decimal n
    atom_size (syntax.variable v) = slice_index bounds (index_of names v)
    atom_size (syntax.parenthesized e) = size e

  -- the expression, a part of it, or a beginning of a sum or a product in it is over the limit
  abbrev mutual
    pub is_large : Expr → Bool
    is_large (syntax.sum_of t) = is_large_term t
    is_large (syntax.plus e t) = is_large e || is_large_term t || nat_lt max_size (size e + term_size t)
    is_large (syntax.minus e t) = is_large e || is_large_term t || nat_lt max_size (size e + term_size t)

    pub is_large_term : syntax.Term → Bool
    is_large_term (syntax.product_of f) = is_large_factor f
    is_large_term (syntax.times t f) = is_large_term t || is_large_factor f || nat_lt max_size (term_size t * factor_size f)

    pub is_large_factor : syntax.Factor → Bool
    is_large_factor (syntax.positive a) = is_large_atom a
    is_large_factor (syntax.negative a) = is_large_atom a

    pub is_large_atom : syntax.Atom → Bool
    is_large_atom (syntax.literal n) = nat_lt max_size (decimal n)
    is_large_atom (syntax.variable v) = nat_lt max_size (slice_index bounds (index_of names v))
    is_large_atom (syntax.parenthesized e) = is_large e

-- an expression can become too large
abbrev pub has_large_expression : List Section → Bool
has_large_expression all = list_any (is_large (values_of (names_of all)) (bounds_of all)) (all_expressions all)

-- ---- G9: no pattern has a switch in it

-- the action gives the turn to a player or to the keeper
abbrev pub is_switch : Base → Bool
is_switch (syntax.switch player) = true
is_switch syntax.keeper = true
is_switch _ = false

-- a pattern with a switch in it, at any depth
abbrev pub has_switch_inside : Base → Bool
has_switch_inside (syntax.some_word s) = list_any is_switch (actions_in s)
has_switch_inside (syntax.no_word s) = list_any is_switch (actions_in s)
has_switch_inside _ = false

-- a pattern has a switch in it
abbrev pub has_switch_in_pattern : List Section → Bool
has_switch_in_pattern all = list_any has_switch_inside (all_actions all)

-- ---- the first of the causes G2 to G9 that applies

-- the first that applies, in the order of the codes
abbrev pub first_cause : List Section → Option GameFault
first_cause all =
    if has_wrong_sections all then Some cause.Section
    else (if has_not_two_players all then Some cause.NotTwoPlayers
    else (if has_unknown_name all then Some cause.UnknownName
    else (if has_repeated_name all then Some cause.RepeatedName
    else (if has_large_number all then Some cause.BoundTooLarge
    else (if passes_a_limit all then Some cause.TooLarge
    else (if has_large_expression all then Some cause.ExpressionTooLarge
    else (if has_switch_in_pattern all then Some cause.SwitchInPattern
    else None)))))))
