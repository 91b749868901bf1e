-- What was noted of a file in memory.
use Rattle.std.specs.Prelude.{List, [], ◌∷◌, ◌++◌}
use Rattle.file_disk.specs.declared.past.Past.{Past}
use Rattle.file_disk.specs.declared.past.Noted.{Noted}
use Rattle.file_disk.specs.declared.past.Noted.TheVariants.{Nothing, Another'}
use Rattle.file_disk.specs.Events.{Happened}

-- the first thing first: an event, and the bytes that were there before it
abbrev pub in_order : Noted → List Happened
in_order Nothing = []
in_order (Another' marker before event had) = in_order before ++ (record { event = event.value; had = had.value.items }) ∷ []

-- what was noted, in its order
abbrev pub noted_in : Past → List Happened
noted_in past = in_order past.noted.value
