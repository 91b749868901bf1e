-- What is known of open listings from one line to the next.
use Rattle.std.specs.Prelude.{◌≡◌, ℕ, List, [], ◌∷◌, ◌++◌, IsSome, IsTrue}
use Rattle.retrograde.specs.Stored.{Stored, IsTable}
use Rattle.best_line.specs.declared.answers.Row.{Row}
use Rattle.game_file.specs.Kept.{Kept}
use Rattle.game_file.specs.State.{State}
use Rattle.session_lines.specs.Listed.{AllLast}
use Rattle.session_lines.specs.Printed.{IsNextPrinted}
use Rattle.solver.specs.declared.listing.Listing.{Listing}

module _ {F Version : Type 0} (state : F → State) (IsVersion : Version → Stored (List ℕ) → F → Type 0) where
  -- the disk keeps its word still, a game is loaded still, and every version that was open is
  pub record AllGoOn (old new : F) : Type 0 where
    pub honest : IsTrue (state new).disk.honest
    pub loaded : IsSome (state old).kept → IsSome (state new).kept
    pub all : AllLast IsVersion old new

  -- behind these listings stands one of this version, which is this table, at this place
  pub record StandsLast (table : Stored (List ℕ)) (before : List (Listing Version)) (version : Version) (place : ℕ)
      (file : F) (listings : List (Listing Version)) : Type 0 where
    pub listing : Listing Version
    pub is : listings ≡ before ++ listing ∷ []
    pub version_is : listing.version ≡ version
    pub place_is : listing.next ≡ place
    pub of_table : IsVersion version table file

  -- a listing of this table is begun behind these, and is none of those that were open
  pub record IsBegunOf (AreTwo : Version → Version → Type 0) (kept : Kept) (old new : F)
      (before after : List (Listing Version)) : Type 0 where
    pub version : Version
    pub stands : StandsLast kept.table before version 0 new after
    pub is_table : IsTable kept.table
    pub apart : (other : Version) (table : Stored (List ℕ)) → IsVersion other table old → AreTwo other version
    pub go_on : AllGoOn old new

  -- it has printed its next rows
  pub record HasPrinted (table : Stored (List ℕ)) (before : List (Listing Version)) (version : Version)
      (place count : ℕ) (old new : F) (after : List (Listing Version)) (text : List ℕ) : Type 0 where
    pub next : ℕ
    pub rows : List Row
    pub printed : IsNextPrinted table place next count text rows (state old).kept
    pub stands : StandsLast table before version next new after
    pub go_on : AllGoOn old new

  -- it is ended, and each that is none with it lasts
  pub record IsEndedOf (AreTwo : Version → Version → Type 0) (before : List (Listing Version)) (version : Version)
      (old new : F) (after : List (Listing Version)) : Type 0 where
    pub same : after ≡ before
    pub honest : IsTrue (state new).disk.honest
    pub loaded : IsSome (state new).kept
    pub others : (other : Version) (table : Stored (List ℕ)) → AreTwo other version → IsVersion other table old
        → IsVersion other table new
