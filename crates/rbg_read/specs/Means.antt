-- The game that a syntax tree means.
use Rattle.std.specs.Prelude.{◌≡◌, ℕ, ◌+◌, ◌-◌, ◌*◌, if◌then◌else◌, ◌==◌, true, false, not, List, [], ◌∷◌, ◌++◌, map, filter, fold}
use Rattle.std.specs.Prelude.{position, unwrap_or}
use Rattle.std.specs.List.{flat_map}
use Rattle.std.specs.Str.{bytes_eq}
use Rattle.rbg_text.specs.Token.{Text}
use Rattle.rbg_text.specs.Syntax as syntax
use Rattle.rbg_text.specs.Syntax.{Declaration, Section}
use Rattle.rbg_text.specs.Said.{further_vertex}
use Rattle.rbg_game.specs.Expressions.{Expression}
use Rattle.rbg_game.specs.Rules.{Regex, Action, cat_all}
use Rattle.rbg_game.specs.Games.{Game, Variable, Vertex, Arrow}
use Rattle.rbg_game.specs.declared.roles.Player.TheVariants.{First, Second}
use Rattle.rbg_game.specs.declared.roles.Role.{Role}
use Rattle.rbg_game.specs.declared.roles.Role.TheVariants.{Keeper, Player}

-- ---- what the sections declare

-- the number that decimal digits spell
abbrev pub decimal : Text → ℕ
decimal digits = fold (λ n d. 10 * n + (d - 48)) 0 digits

-- the players that a section declares
abbrev pub players_of : Section → List Declaration
players_of (syntax.players first more) = first ∷ more
players_of _ = []

-- the pieces that a section declares
abbrev pub pieces_of : Section → List Text
pieces_of (syntax.pieces first more) = first ∷ more
pieces_of _ = []

-- the variables that a section declares
abbrev pub variables_of : Section → List Declaration
variables_of (syntax.variables all) = all
variables_of _ = []

-- the vertices that a section declares
abbrev pub vertices_of : Section → List syntax.WrittenVertex
vertices_of (syntax.board first more) = first ∷ map further_vertex more
vertices_of _ = []

-- the rules of a section
abbrev pub rules_of : Section → List syntax.Sum
rules_of (syntax.rules s) = s ∷ []
rules_of _ = []

-- each name once, where it appears first
abbrev pub first_appearances : List Text → List Text
first_appearances [] = []
first_appearances (x ∷ xs) = x ∷ filter (λ y. not (bytes_eq x y)) (first_appearances xs)

-- the names of a game in their orders
pub record Names : Type 0 where
  pub players : List Text
  pub variables : List Text
  pub pieces : List Text
  pub vertices : List Text
  pub labels : List Text

-- the names that the sections declare
abbrev pub names_of : List Section → Names
names_of all = record {
  players = map (λ d. d.name) (flat_map players_of all);
  variables = map (λ d. d.name) (flat_map variables_of all);
  pieces = flat_map pieces_of all;
  vertices = map (λ v. v.name) (flat_map vertices_of all);
  labels = first_appearances (flat_map (λ v. map (λ a. a.label) v.arrows) (flat_map vertices_of all));
}

-- what has a value: the players, and then the variables
abbrev pub values_of : Names → List Text
values_of names = names.players ++ names.variables

-- the place of a name in a list, where it is there
abbrev pub index_of : List Text → Text → ℕ
index_of names w = unwrap_or (position (bytes_eq w) names) 0

-- ---- expressions: a sum and a product group to the left, and a difference is a sum with a negation

abbrev mutual
  pub expression : Names → syntax.Expr → Expression
  expression names (syntax.sum_of t) = product_expression names t
  expression names (syntax.plus e t) = Expression.sum (expression names e) (product_expression names t)
  expression names (syntax.minus e t) = Expression.sum (expression names e) (Expression.negation (product_expression names t))

  pub product_expression : Names → syntax.Term → Expression
  product_expression names (syntax.product_of f) = factor_expression names f
  product_expression names (syntax.times t f) = Expression.product (product_expression names t) (factor_expression names f)

  pub factor_expression : Names → syntax.Factor → Expression
  factor_expression names (syntax.positive a) = atom_expression names a
  factor_expression names (syntax.negative a) = Expression.negation (atom_expression names a)

  pub atom_expression : Names → syntax.Atom → Expression
  atom_expression names (syntax.literal n) = Expression.number (decimal n)
  atom_expression names (syntax.variable v) = Expression.variable (index_of (values_of names) v)
  atom_expression names (syntax.parenthesized e) = expression names e

-- ---- rules: a sum and a concatenation group to the left, and one branch or one element alone is itself

-- the role of the player with this name
abbrev pub role_of : Names → Text → Role
role_of names player = if index_of names.players player == 0 then Player First else Player Second

-- an assignment by itself
abbrev pub assignment : Names → syntax.Assignment → Regex
assignment names a = Regex.one (Action.assignment (index_of (values_of names) a.target) (expression names a.value))

abbrev mutual
  pub sum_rules : Names → syntax.Sum → Regex
  sum_rules names (syntax.branch c) = concat_rules names c
  sum_rules names (syntax.either s c) = Regex.alt (sum_rules names s) (concat_rules names c)

  pub concat_rules : Names → syntax.Concat → Regex
  concat_rules names (syntax.single e) = element_rules names e
  concat_rules names (syntax.followed c e) = Regex.cat (concat_rules names c) (element_rules names e)

  pub element_rules : Names → syntax.Element → Regex
  element_rules names (syntax.once b) = base_rules names b
  element_rules names (syntax.star b) = Regex.star (base_rules names b)

  -- a list of assignments is a concatenation of them
  pub base_rules : Names → syntax.Base → Regex
  base_rules names (syntax.shift label) = Regex.one (Action.shift (index_of names.labels label))
  base_rules names (syntax.on pieces) = Regex.one (Action.on (map (index_of names.pieces) pieces))
  base_rules names (syntax.off piece) = Regex.one (Action.off (index_of names.pieces piece))
  base_rules names (syntax.assign first more) = cat_all (map (assignment names) (first ∷ more))
  base_rules names (syntax.compare left test right) = Regex.one (Action.comparison (expression names left) test (expression names right))
  base_rules names (syntax.switch player) = Regex.one (Action.switch (role_of names player))
  base_rules names syntax.keeper = Regex.one (Action.switch Keeper)
  base_rules names (syntax.some_word s) = Regex.one (Action.pattern true (sum_rules names s))
  base_rules names (syntax.no_word s) = Regex.one (Action.pattern false (sum_rules names s))
  base_rules names (syntax.group s) = sum_rules names s

-- ---- the whole

-- a variable with its bound
abbrev pub declared : Declaration → Variable
declared d = record { name = d.name; bound = decimal d.bound }

-- an arrow with its names by their places
abbrev pub arrow : Names → syntax.WrittenArrow → Arrow
arrow names a = record { label = index_of names.labels a.label; to = index_of names.vertices a.to }

-- a vertex with its names by their places
abbrev pub vertex : Names → syntax.WrittenVertex → Vertex
vertex names v = record { name = v.name; piece = index_of names.pieces v.piece; arrows = map (arrow names) v.arrows }

-- the game with the sections' names, board and rules; the players are its first variables
pub record Means (all : List Section) (g : Game) : Type 0 where
  pub pieces : g.pieces ≡ flat_map pieces_of all
  pub variables : g.variables ≡ map declared (flat_map players_of all ++ flat_map variables_of all)
  pub labels : g.labels ≡ (names_of all).labels
  pub vertices : g.vertices ≡ map (vertex (names_of all)) (flat_map vertices_of all)
  pub rules : g.rules ∷ [] ≡ map (sum_rules (names_of all)) (flat_map rules_of all)
