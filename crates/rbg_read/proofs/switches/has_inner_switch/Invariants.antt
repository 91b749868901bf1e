use Rattle.std.proofs.Common.{◌≡◌, [], take, map, fold, reverse, Some}
use Rattle.rbg_text.specs.View.{step_view}
use Rattle.rbg_read.specs.lemmas.Switches.{next_flags}
use Rattle.rbg_read.proofs.switches.has_inner_switch.Given as goal

abbrev pub invariant-loop-step : goal.invariant-loop-step
invariant-loop-step l = fold next_flags (Some []) (take l.step-index (map step_view l.steps)) ≡ Some (reverse l.flags.items)
