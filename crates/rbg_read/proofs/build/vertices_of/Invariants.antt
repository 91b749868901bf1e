use Rattle.std.proofs.Common.{◌≡◌, take, map}
use Rattle.rbg_text.specs.Said.{vertex_view}
use Rattle.rbg_game.specs.Meaning.{vertex_of}
use Rattle.rbg_read.specs.lemmas.Parts.{known_view}
use Rattle.rbg_read.specs.lemmas.Build.{placed_vertex}
use Rattle.rbg_read.proofs.build.vertices_of.Given as goal

abbrev pub invariant-loop-vertex : goal.invariant-loop-vertex
invariant-loop-vertex l =
    map vertex_of l.placed.items ≡ map (λ v. placed_vertex (known_view l.names) (vertex_view v)) (take l.vertex-index l.vertices)
