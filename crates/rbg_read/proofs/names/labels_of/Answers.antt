use Rattle.std.proofs.Common.{[], sym, ap, ◌∙◌, fold, take, length, ◌≤◌}
use Rattle.std.proofs.lemmas.List.{take_all}
use Rattle.std.specs.List.{flat_map}
use Rattle.rbg_read.specs.lemmas.Parts.{with_label}
use Rattle.rbg_read.proofs.Labels.{labels_said}
use Rattle.rbg_read.proofs.names.labels_of.Goals as goal

pub returns : goal.returns
returns c =
    let all = take_all c.loop-vertex.vertex-index c.args.vertices.now c.loop-vertex-test.false in
    c.loop-vertex.invariant
    ∙ ap (λ vs. fold with_label [] (flat_map (λ v. Rattle.std.proofs.Common.map (λ a. a.label.now) v.arrows.items) vs)) all
    ∙ labels_said c.args.vertices.now
