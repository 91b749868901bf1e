-- A step, as goals have it for what is past the end of a list.
use Rattle.std.proofs.Common.{[]}
use Rattle.rbg_text.specs.declared.parser.Step.{Step}
use Rattle.rbg_text.specs.declared.parser.Step.TheVariants.{Number}

abbrev pub no_step : Step
no_step = Number (record { ref_ptr = (0, 0); now = [] })
