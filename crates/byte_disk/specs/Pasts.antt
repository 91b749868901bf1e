-- What has happened to a disk, as the list of what a disk in memory keeps.
use Rattle.std.specs.Prelude.{List, [], ◌∷◌, ◌++◌}
use Rattle.sector_disk.specs.declared.log.Event.{Event}
use Rattle.sector_disk.specs.declared.log.Event.TheVariants as event
use Rattle.byte_disk.specs.declared.past.Past.{Past}
use Rattle.byte_disk.specs.declared.past.Past.TheVariants.{New, Wrote', Synced', Extended'}

-- the first thing first
abbrev pub events_of : Past → List Event
events_of New = []
events_of (Wrote' marker before at was) = events_of before ++ event.Wrote at was.value ∷ []
events_of (Synced' marker before) = events_of before ++ event.Synced ∷ []
events_of (Extended' marker before end) = events_of before ++ event.Extended end ∷ []
