-- The parts as the program collects them: a section more, a label more, and the sections so far.
use Rattle.std.specs.Prelude.{◌≤◌, length, List, [], ◌∷◌, ◌++◌, map, Option, Some, None, option_and_then, if◌then◌else◌}
use Rattle.std.specs.List.{flat_map, list_any}
use Rattle.rbg_text.specs.Token.{Text}
use Rattle.rbg_text.specs.Syntax.{Declaration, WrittenVertex}
use Rattle.rbg_text.specs.Parse.{ParseStep}
use Rattle.rbg_text.specs.View.{step_view}
use Rattle.rbg_text.specs.Said.{Said, players, pieces, variables, board, rules, declaration_view, vertex_view}
use Rattle.rbg_read.specs.Means.{first_appearances}
use Rattle.rbg_read.specs.declared.parts.Parts.{Parts as CodeParts}
use Rattle.rbg_read.specs.declared.names.Names.{Names as CodeNames}
use Rattle.std.specs.Str.{bytes_eq}
use Rattle.rbg_read.specs.declared.parts.Sections.{Sections as CodeSections}

-- what the sections say, each kind of section once
pub record Parts : Type 0 where
  pub players : List Declaration
  pub pieces : List Text
  pub variables : List Declaration
  pub vertices : List WrittenVertex
  pub steps : List ParseStep

-- what a section of players says
abbrev pub players_said : Said → List (List Declaration)
players_said (players all) = all ∷ []
players_said _ = []

-- what a section of pieces says
abbrev pub pieces_said : Said → List (List Text)
pieces_said (pieces all) = all ∷ []
pieces_said _ = []

-- what a section of variables says
abbrev pub variables_said : Said → List (List Declaration)
variables_said (variables all) = all ∷ []
variables_said _ = []

-- what a section of the board says
abbrev pub board_said : Said → List (List WrittenVertex)
board_said (board all) = all ∷ []
board_said _ = []

-- what a section of rules says
abbrev pub rules_said : Said → List (List ParseStep)
rules_said (rules all) = all ∷ []
rules_said _ = []

-- the only member of a list
abbrev pub only : {X : Type 0} → List X → Option X
only (x ∷ []) = Some x
only _ = None

-- the only member of a list of lists, or none where it is empty
abbrev pub at_most_one : {X : Type 0} → List (List X) → Option (List X)
at_most_one [] = Some []
at_most_one (x ∷ more) = only (x ∷ more)

-- the sections of each kind, in their order
pub record Kinds : Type 0 where
  pub players : List (List Declaration)
  pub pieces : List (List Text)
  pub variables : List (List Declaration)
  pub boards : List (List WrittenVertex)
  pub rules : List (List ParseStep)

-- the sections by their kinds
abbrev pub kinds_of : List Said → Kinds
kinds_of all = record {
  players = flat_map players_said all;
  pieces = flat_map pieces_said all;
  variables = flat_map variables_said all;
  boards = flat_map board_said all;
  rules = flat_map rules_said all;
}

-- the parts, where each section stands once, but for the variables, which may be missing
abbrev pub parts_of : Kinds → Option Parts
parts_of kinds =
    option_and_then (λ players.
    option_and_then (λ pieces.
    option_and_then (λ variables.
    option_and_then (λ vertices.
    option_and_then (λ steps. Some (record
    { players = players; pieces = pieces; variables = variables; vertices = vertices; steps = steps }))
    (only kinds.rules))
    (only kinds.boards))
    (at_most_one kinds.variables))
    (only kinds.pieces))
    (only kinds.players)

-- the parts of a text
abbrev pub collected : List Said → Option Parts
collected all = parts_of (kinds_of all)

-- the names, by what they name; players and variables have values
pub record Known : Type 0 where
  pub players : List Text
  pub values : List Text
  pub pieces : List Text
  pub vertices : List Text
  pub labels : List Text

-- the labels of a board, each once, in the order in which they appear first
abbrev pub labels_in : List WrittenVertex → List Text
labels_in all = first_appearances (flat_map (λ v. map (λ a. a.label) v.arrows) all)

-- the names that the parts declare
abbrev pub known_of : Parts → Known
known_of p = record {
  players = map (λ d. d.name) p.players;
  values = map (λ d. d.name) p.players ++ map (λ d. d.name) p.variables;
  pieces = p.pieces;
  vertices = map (λ v. v.name) p.vertices;
  labels = labels_in p.vertices;
}

-- a byte has room for each place
pub record AreFew (known : Known) : Type 0 where
  pub players_few : length known.players ≤ 256
  pub values_few : length known.values ≤ 256
  pub pieces_few : length known.pieces ≤ 256
  pub vertices_few : length known.vertices ≤ 256
  pub labels_few : length known.labels ≤ 256

-- the parts without where their words lie in memory
abbrev pub parts_view : CodeParts → Parts
parts_view p = record {
  players = map declaration_view p.players.items;
  pieces = map (λ w. w.now) p.pieces.items;
  variables = map declaration_view p.variables.items;
  vertices = map vertex_view p.vertices.items;
  steps = map step_view p.steps.items;
}

-- the names without where they lie in memory
abbrev pub known_view : CodeNames → Known
known_view names = record {
  players = map (λ w. w.now) names.players.items;
  values = map (λ w. w.now) names.values.items;
  pieces = map (λ w. w.now) names.pieces.items;
  vertices = map (λ w. w.now) names.vertices.items;
  labels = map (λ w. w.now) names.labels.items;
}

-- with one section more
abbrev pub with_said : Kinds → Said → Kinds
with_said kinds s = record {
  players = kinds.players ++ players_said s;
  pieces = kinds.pieces ++ pieces_said s;
  variables = kinds.variables ++ variables_said s;
  boards = kinds.boards ++ board_said s;
  rules = kinds.rules ++ rules_said s;
}

-- a label more, where it is new
abbrev pub with_label : List Text → Text → List Text
with_label labels w = if list_any (bytes_eq w) labels then labels else labels ++ w ∷ []

-- the sections without where their words lie in memory
abbrev pub kinds_view : CodeSections → Kinds
kinds_view all = record {
  players = map (λ v. map declaration_view v.items) all.players.items;
  pieces = map (λ v. map (λ w. w.now) v.items) all.pieces.items;
  variables = map (λ v. map declaration_view v.items) all.variables.items;
  boards = map (λ v. map vertex_view v.items) all.boards.items;
  rules = map (λ v. map step_view v.items) all.rules.items;
}
