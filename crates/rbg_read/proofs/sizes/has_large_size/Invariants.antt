use Rattle.std.proofs.Common.{◌≡◌, [], take, map, fold, reverse, Some}
use Rattle.rbg_text.specs.View.{step_view}
use Rattle.rbg_read.specs.lemmas.Parts.{known_view}
use Rattle.rbg_read.specs.lemmas.Sizes.{next_sizes}
use Rattle.rbg_read.proofs.sizes.has_large_size.Given as goal

abbrev pub invariant-loop-step : goal.invariant-loop-step
invariant-loop-step l =
    fold (next_sizes (known_view l.names).values l.bounds) (Some []) (take l.step-index (map step_view l.steps)) ≡ Some (reverse l.sizes.items)
