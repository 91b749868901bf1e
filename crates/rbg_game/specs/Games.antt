-- Games as data.
use Rattle.std.specs.Prelude.{ℕ, ◌==◌, List, Option, slice_get, option_and_then, option_map, unwrap_or, find}
use Rattle.rbg_game.specs.Rules.{Regex}

-- an arrow: its label, and the vertex that it leads to
pub record Arrow : Type 0 where
  pub label : ℕ
  pub to : ℕ

pub record Vertex : Type 0 where
  pub name : List ℕ
  -- the piece on it at the start
  pub piece : ℕ
  pub arrows : List Arrow

pub record Variable : Type 0 where
  pub name : List ℕ
  pub bound : ℕ

pub record Game : Type 0 where
  pub pieces : List (List ℕ)
  -- the two players come first, each as the variable of the score
  pub variables : List Variable
  pub labels : List (List ℕ)
  pub vertices : List Vertex
  pub rules : Regex

-- the vertex to which the label leads, if it leads anywhere
abbrev pub neighbour : Game → ℕ → ℕ → Option ℕ
neighbour game from label =
    option_and_then (λ v. option_map (λ a. a.to) (find (λ a. a.label == label) v.arrows)) (slice_get game.vertices from)

abbrev pub bound_of : Game → ℕ → ℕ
bound_of game variable = unwrap_or (option_map (λ v. v.bound) (slice_get game.variables variable)) 0
