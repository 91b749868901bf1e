-- What is seen of a session from without.
use Rattle.std.specs.Prelude.{◌≡◌, List, ◌++◌, ℕ, Option, map}
use Rattle.std.specs.Io.KnownBytes.{Appends}
use Rattle.sector_disk.specs.Disk.{Disk}
use Rattle.game_file.specs.State.{State}
use Rattle.session_lines.specs.Moments.{noted_in}
use Rattle.session_lines.specs.Parts.{AppendsPart}
use Rattle.session_lines.specs.declared.moments.Moments.{Moments}

-- a moment: what the output held, and the disk as it was
pub record Moment : Type 0 where
  pub written : Option (List ℕ)
  pub disk : Disk

-- what the output of a session holds, and the moments that were noted, in their order
pub record Seen : Type 0 where
  pub written : Option (List ℕ)
  pub moments : List Moment

-- the moment at which this is seen, and the disk is so
abbrev pub moment_at : Seen → Disk → Moment
moment_at seen disk = record { written = seen.written; disk = disk }

-- from the one to the other this text was written, and these moments were noted
pub record Wrote (before after : Seen) (text : List ℕ) (moments : List Moment) : Type 0 where
  pub wrote : Appends before.written after.written text
  pub noted : after.moments ≡ before.moments ++ moments

-- what was written where the output failed: a part of the text, from its start on
pub record WrotePart (before after : Seen) (text : List ℕ) (moments : List Moment) : Type 0 where
  pub wrote : AppendsPart before.written after.written text
  pub noted : after.moments ≡ before.moments ++ moments

-- a reply began at this moment: what stood in the output then is what it held before and this text, and the disk was so
pub record BeginsAt (before : Option (List ℕ)) (text : List ℕ) (disk : Disk) (moment : Moment) : Type 0 where
  pub written : Appends before moment.written text
  pub disk_is : moment.disk ≡ disk

module _ {Table Output : Type 0} (state : Table → State) (contents : Output → Option (List ℕ)) where
  -- a moment, by the table and the output that were noted
  abbrev pub moment_of : Table × Output → Moment
  moment_of (table, out) = record { written = contents out; disk = (state table).disk }

  -- what is seen where this is the output, and these are the moments
  abbrev pub seen : Output → Moments Table Output → Seen
  seen out moments = record { written = contents out; moments = map moment_of (noted_in moments) }
