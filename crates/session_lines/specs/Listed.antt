-- What a session answers to a line about listings.
use Rattle.std.specs.Prelude.{◌≡◌, ◌≢◌, ◌+◌, ◌⊎◌, ℕ, List, [], ◌∷◌, ◌++◌, length, codes, Option, Some, IsSome}
use Rattle.std.specs.List.{flat_map}
use Rattle.rbg_game.specs.Games.{Game}
use Rattle.retrograde.specs.Stored.{Stored, IsTable, view_of}
use Rattle.best_line.specs.declared.answers.Row.{Row}
use Rattle.best_line.specs.Rows.{AreRows}
use Rattle.game_file.specs.Kept.{Kept}
use Rattle.game_file.specs.State.{State}
use Rattle.session_lines.specs.Replies.{row_line}
use Rattle.solver.specs.declared.fault.SolverFault.{SolverFault}
use Rattle.solver.specs.declared.fault.SolverFault.TheVariants.{OutOfMemory}
use Rattle.solver.specs.declared.listing.Listing.{Listing}
use Rattle.solver.specs.Listings.{BeginCause, NextCause}
use Rattle.solver.specs.Queries.{OfKept, IsGameOf}
use Rattle.solver.specs.Units.{units_in}
use Rattle.session_lines.specs.declared.input.ListingLine.{ListingLine}
use Rattle.session_lines.specs.declared.input.ListingLine.TheVariants.{Begin, Next, End}
use Rattle.solver.specs.Faults.{status_of}
use Rattle.session_lines.specs.Told.{fault_line}

-- the rows of this table from this place on, a line each, this many or up to the last, and the next place; the players are those of the
-- game that is loaded
pub record AreNextLines (table : Stored (List ℕ)) (place next count : ℕ) (text : List ℕ) (kept : Kept) : Type 0 where
  pub game : Game
  pub of_game : IsGameOf game kept
  pub rows : List Row
  pub are : AreRows (view_of table) place count rows
  pub some : rows ≢ []
  pub next_is : next ≡ place + length rows
  pub text_is : text ≡ flat_map (row_line game) rows

-- the line that says that no row is left
abbrev pub done_line : List ℕ
done_line = codes "done" ++ 10 ∷ []

-- the next rows, a line each, and the place after them, or `done` where none is left
abbrev pub IsNextText : Stored (List ℕ) → ℕ → ℕ → ℕ → List ℕ → Option Kept → Type 0
IsNextText table place next count text kept =
    (AreRows (view_of table) place count [] × (next ≡ place) × (text ≡ done_line)) ⊎ OfKept (AreNextLines table place next count text) kept

-- no listing is open, and the line is answered as one that is no command
abbrev pub IsNoneOpen : {Version : Type 0} → List (Listing Version) → List (Listing Version) → ℕ → List ℕ → Type 0
IsNoneOpen before after status line = (before ≡ []) × (after ≡ []) × (status ≡ 0) × (line ≡ codes "usage" ++ 10 ∷ [])

-- every version that was open is open still, of the table that it was of
abbrev pub AllLast : {F Version : Type 0} → (Version → Stored (List ℕ) → F → Type 0) → F → F → Type 0
AllLast {F} {Version} IsVersion old new = (other : Version) (table : Stored (List ℕ)) → IsVersion other table old → IsVersion other table new

module _ {F Version : Type 0} (state : F → State) (IsVersion : Version → Stored (List ℕ) → F → Type 0) (AreTwo : Version → Version → Type 0) where
  -- a listing of the table of the last commit, at its first row, stands after those that were open, and is told; it is none of those, and they
  -- last
  pub record IsBegun (old new : F) (before after : List (Listing Version)) (line : List ℕ) : Type 0 where
    pub listing : Listing Version
    pub behind : after ≡ before ++ listing ∷ []
    pub first : listing.next ≡ 0
    pub of_table : (kept : Kept) → (state old).kept ≡ Some kept → IsVersion listing.version kept.table new
    pub is_table : (kept : Kept) → (state old).kept ≡ Some kept → IsTable kept.table
    pub others : AllLast IsVersion old new
    pub apart : (other : Version) (table : Stored (List ℕ)) → IsVersion other table old → AreTwo other listing.version
    pub line_is : line ≡ codes "listing" ++ 10 ∷ []

  -- none is begun: `list_begin` refuses it, or memory is short; those that were open last
  pub record IsNotBegun (UsedUp : Type 0) (old new : F) (before after : List (Listing Version)) (status : ℕ) (line : List ℕ) : Type 0 where
    pub others : AllLast IsVersion old new
    pub why : SolverFault
    pub status_is : status ≡ status_of why
    pub line_is : line ≡ fault_line why
    pub same : after ≡ before
    pub cause : BeginCause (state old) UsedUp why ⊎ (why ≡ OutOfMemory)

  -- the next rows of a table are told, or it is refused with its cause
  abbrev pub IsNextTold : ℕ → F → F → Stored (List ℕ) → ℕ → ℕ → ℕ → List ℕ → Type 0
  IsNextTold count old new table place next status line =
      ((status ≡ 0) × IsNextText table place next count line (state old).kept)
      ⊎ ((why : SolverFault) × (status ≡ status_of why) × (line ≡ fault_line why) × NextCause (state old) (state new) why)

  -- the listing that was begun last tells its next rows, this many or up to the last, and goes on after them; the others stay, and all last
  pub record IsNext (count : ℕ) (old new : F) (before after : List (Listing Version)) (status : ℕ) (line : List ℕ) : Type 0 where
    pub others : List (Listing Version)
    pub listing : Listing Version
    pub moved : Listing Version
    pub was : before ≡ others ++ listing ∷ []
    pub is : after ≡ others ++ moved ∷ []
    pub same : moved.version ≡ listing.version
    pub all : AllLast IsVersion old new
    pub told : IsSome (state old).kept → (table : Stored (List ℕ)) → IsTable table → IsVersion listing.version table old
        → IsNextTold count old new table listing.next moved.next status line

  -- the listing that was begun last is ended, and that is told; the others stay, and each that is none with it lasts
  pub record IsEnded (old new : F) (before after : List (Listing Version)) (line : List ℕ) : Type 0 where
    pub listing : Listing Version
    pub was : before ≡ after ++ listing ∷ []
    pub ended : (table : Stored (List ℕ)) → ¬ IsVersion listing.version table new
    pub others : (other : Version) (table : Stored (List ℕ)) → AreTwo other listing.version → IsVersion other table old → IsVersion other table new
    pub line_is : line ≡ codes "ended" ++ 10 ∷ []

  -- what a line about listings is answered, with these before and after it; it acts on the one that was begun last
  abbrev pub IsListingReplied : ListingLine → Type 0 → F → F → List (Listing Version) → List (Listing Version) → ℕ → List ℕ → Type 0
  IsListingReplied Begin UsedUp old new before after status line =
      ((status ≡ 0) × IsBegun old new before after line) ⊎ IsNotBegun UsedUp old new before after status line
  IsListingReplied (Next units) UsedUp old new before after status line =
      (IsNoneOpen before after status line × AllLast IsVersion old new) ⊎ IsNext (units_in units) old new before after status line
  IsListingReplied End UsedUp old new before after status line =
      (IsNoneOpen before after status line × AllLast IsVersion old new) ⊎ ((status ≡ 0) × IsEnded old new before after line)
