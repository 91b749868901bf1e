-- What a file showed by sectors when so many things had happened to it, and which of them were synced.
use Rattle.std.specs.Prelude.{ℕ, zero, suc, ◌+◌, ◌*◌, ◌/◌, ◌&&◌, min, nat_lt, nat_le, Bool, true, false, if◌then◌else◌, List, [], ◌∷◌, ◌++◌, length, take, drop}
use Rattle.sector_disk.specs.Disk.{Image, Shown}
use Rattle.file_disk.specs.declared.file_event.FileEvent.{FileEvent}
use Rattle.file_disk.specs.declared.file_event.FileEvent.TheVariants.{Wrote, Synced, Resized}
use Rattle.file_disk.specs.Bytes.{sector_of}
use Rattle.file_disk.specs.Events.{Happened, had_first}

-- this many sectors, each with its bytes
unfoldable pub image_of : (ℕ → List ℕ) → ℕ → Image
image_of bytes zero = []
image_of bytes (suc sectors) = image_of bytes sectors ++ bytes sectors ∷ []

-- how a file stands: which of its sectors no event has touched since the last sync, and how many bytes are there after a stop
pub record Standing : Type 0 where
  pub synced : ℕ → Bool
  pub lasting : ℕ

-- as it was found all is synced
abbrev pub found : List ℕ → Standing
found bytes = record { synced = λ k. true; lasting = length bytes }

-- the sector has one of this many bytes from a place on
abbrev pub touches : ℕ → ℕ → ℕ → Bool
touches at count sector = nat_lt 0 count && (nat_lt at (512 * (sector + 1)) && nat_lt (512 * sector) (at + count))

-- how it stands once this has happened, where it had these bytes: a write touches its sectors; a sync, all are synced, and all bytes last;
-- a change of the length touches the sectors behind the one end or the other, and of the bytes those last that lasted, up to the new end
abbrev pub stands_by : Standing → FileEvent → List ℕ → Standing
stands_by standing (Wrote at count) had =
    record { synced = λ k. if touches at count k then false else standing.synced k; lasting = standing.lasting }
stands_by standing Synced had = record { synced = λ k. true; lasting = length had }
stands_by standing (Resized bytes) had = record {
  synced = λ k. if nat_le (512 * (k + 1)) (min (length had) bytes) then standing.synced k else false;
  lasting = min standing.lasting bytes;
}

-- and once all of this has happened
abbrev pub stands_after : Standing → List Happened → Standing
stands_after standing [] = standing
stands_after standing (first ∷ others) = stands_after (stands_by standing first.event first.had) others

-- how it stands now
abbrev pub stands : List Happened → List ℕ → Standing
stands happened now = stands_after (found (had_first happened now)) happened

-- what reads gave when so many things had happened
abbrev pub bytes_then : List Happened → List ℕ → ℕ → List ℕ
bytes_then happened now k = had_first (drop k happened) now

-- what a file shows that has these bytes and stands so, by whole sectors
abbrev pub file_shown : List ℕ → Standing → Shown
file_shown bytes standing = record {
  contents = image_of (sector_of bytes) (length bytes / 512);
  synced = standing.synced;
  lasting = standing.lasting / 512;
}

-- what it showed when so many things had happened
abbrev pub shown_then : List Happened → List ℕ → ℕ → Shown
shown_then happened now k =
    file_shown (bytes_then happened now k) (stands_after (found (had_first happened now)) (take k happened))
