-- What the program makes of the flags in one step.
use Rattle.std.specs.Prelude.{Bool, true, false, not, is_some, ◌||◌, if◌then◌else◌, List, [], ◌∷◌, drop, fold}
use Rattle.std.specs.Prelude.{Option, Some, None, option_and_then}
use Rattle.rbg_text.specs.Parse.{ParseStep}
use Rattle.rbg_read.specs.declared.switches.Made.{Made}
use Rattle.rbg_read.specs.declared.switches.Made.TheVariants as made

-- the newest, and false where there is none
abbrev pub first_flag : List Bool → Bool
first_flag [] = false
first_flag (b ∷ more) = b

-- a pattern of rules with a switch in them is none
abbrev pub closed_pattern : List Bool → Option (List Bool)
closed_pattern s = if first_flag s then None else Some (false ∷ drop 1 s)

-- whether each part has a switch in it, after a step
abbrev pub flags_after : ParseStep → List Bool → Option (List Bool)
flags_after (ParseStep.switch w) s = Some (true ∷ s)
flags_after ParseStep.keeper s = Some (true ∷ s)
flags_after (ParseStep.shift w) s = Some (false ∷ s)
flags_after ParseStep.on s = Some (false ∷ s)
flags_after (ParseStep.off w) s = Some (false ∷ s)
flags_after (ParseStep.assign w) s = Some (false ∷ s)
flags_after (ParseStep.compare t) s = Some (false ∷ s)
flags_after ParseStep.join s = Some ((first_flag (drop 1 s) || first_flag s) ∷ drop 2 s)
flags_after ParseStep.either s = Some ((first_flag (drop 1 s) || first_flag s) ∷ drop 2 s)
flags_after ParseStep.some_word s = closed_pattern s
flags_after ParseStep.no_word s = closed_pattern s
flags_after _ s = Some s

-- after one step more, unless a pattern with a switch was found
abbrev pub next_flags : Option (List Bool) → ParseStep → Option (List Bool)
next_flags flags step = option_and_then (flags_after step) flags

-- a pattern has a switch in it
unfoldable pub has_inner_switch : List ParseStep → Bool
has_inner_switch steps = not (is_some (fold next_flags (Some []) steps))

-- what the program makes of the newest parts, with the flags that it left
abbrev pub flags_made : Made → List Bool → Option (List Bool)
flags_made (made.Part b) rest = Some (b ∷ rest)
flags_made made.Same rest = Some rest
flags_made made.BadPattern rest = None
