use Rattle.std.proofs.Common.{◌≡◌, take, map, fold}
use Rattle.rbg_text.specs.View.{step_view}
use Rattle.rbg_read.specs.lemmas.Parts.{known_view}
use Rattle.rbg_read.specs.lemmas.Resolve.{after_step, empty_stack, stack_of}
use Rattle.rbg_read.proofs.resolve.resolve.Given as goal

abbrev pub invariant-loop-step : goal.invariant-loop-step
invariant-loop-step l =
    stack_of l.stack ≡ fold (after_step (known_view l.names)) empty_stack (take l.step-index (map step_view l.steps))
