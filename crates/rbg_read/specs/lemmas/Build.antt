-- The game of the parts of a text.
use Rattle.std.specs.Prelude.{◌++◌, map}
use Rattle.rbg_text.specs.Syntax as syntax
use Rattle.rbg_game.specs.Games.{Game, Vertex, Arrow}
use Rattle.rbg_read.specs.Means.{declared, index_of}
use Rattle.rbg_read.specs.lemmas.Parts.{Parts, Known}
use Rattle.rbg_read.specs.lemmas.Resolve.{resolved}

-- an arrow with its names by their places
abbrev pub placed_arrow : Known → syntax.WrittenArrow → Arrow
placed_arrow known a = record { label = index_of known.labels a.label; to = index_of known.vertices a.to }

-- a vertex with its names by their places
abbrev pub placed_vertex : Known → syntax.WrittenVertex → Vertex
placed_vertex known v = record { name = v.name; piece = index_of known.pieces v.piece; arrows = map (placed_arrow known) v.arrows }

-- with names in their places
abbrev pub flat_game : Known → Parts → Game
flat_game known p = record {
  pieces = known.pieces;
  variables = map declared (p.players ++ p.variables);
  labels = known.labels;
  vertices = map (placed_vertex known) p.vertices;
  rules = resolved known p.steps;
}
