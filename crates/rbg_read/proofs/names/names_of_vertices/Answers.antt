use Rattle.std.proofs.Common.{◌∙◌, ap, map}
use Rattle.std.proofs.lemmas.List.{take_all}
use Rattle.rbg_read.proofs.Lists.{map_turn}
use Rattle.rbg_read.proofs.names.names_of_vertices.Goals as goal

pub loop-vertex-preserved : goal.loop-vertex-preserved
loop-vertex-preserved c =
    let vertex = c.vertex-item.result in
    map_turn (λ w. w.now) (λ v. v.name.now) c.loop-vertex.names.items c.push.new.self.items vertex.name c.args.vertices.now c.loop-vertex.vertex-index vertex
    c.loop-vertex-test.true c.in_ok-push.ensures.items (ap (λ v. v.name.now) c.vertex-item.is) c.loop-vertex.invariant

pub returns : goal.returns
returns c =
    c.loop-vertex.invariant ∙ ap (λ vs. map (λ v. v.name.now) vs) (take_all c.loop-vertex.vertex-index c.args.vertices.now c.loop-vertex-test.false)
