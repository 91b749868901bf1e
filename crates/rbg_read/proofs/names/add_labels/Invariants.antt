use Rattle.std.proofs.Common.{◌≡◌, take, map, fold}
use Rattle.rbg_read.specs.lemmas.Parts.{with_label}
use Rattle.rbg_read.proofs.names.add_labels.Given as goal

abbrev pub invariant-loop-arrow : goal.invariant-loop-arrow
invariant-loop-arrow l =
    map (λ w. w.now) l.labels.items ≡ fold with_label (map (λ w. w.now) l.initial.labels.items) (map (λ a. a.label.now) (take l.arrow-index l.arrows))
