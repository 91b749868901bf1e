use Rattle.std.proofs.Common.{[], map, ap}
use Rattle.rbg_text.specs.Said.{vertex_view}
use Rattle.rbg_game.specs.Meaning.{vertex_of}
use Rattle.rbg_read.specs.lemmas.Parts.{known_view}
use Rattle.rbg_read.specs.lemmas.Build.{placed_vertex}
use Rattle.rbg_read.proofs.Lists.{end_behind}
use Rattle.rbg_read.proofs.build.vertices_of.Goals as goal

pub loop-vertex-init : goal.loop-vertex-init
loop-vertex-init c = ap (map vertex_of) c.new-placed.ensures.items

pub returns : goal.returns
returns c =
    end_behind (λ v. placed_vertex (known_view c.args.names.now)
    (vertex_view v)) [] c.args.vertices.now c.loop-vertex.vertex-index c.loop-vertex-test.false c.loop-vertex.invariant
