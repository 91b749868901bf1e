use Rattle.std.proofs.Common.{◌≡◌, [], take, map, fold}
use Rattle.std.specs.List.{flat_map}
use Rattle.rbg_read.specs.lemmas.Parts.{with_label}
use Rattle.rbg_read.proofs.names.labels_of.Given as goal

abbrev pub invariant-loop-vertex : goal.invariant-loop-vertex
invariant-loop-vertex l =
    map (λ w. w.now) l.labels.items ≡ fold with_label [] (flat_map (λ v. map (λ a. a.label.now) v.arrows.items) (take l.vertex-index l.vertices))
