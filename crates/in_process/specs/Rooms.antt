-- What a call on a room of tables does.
use Rattle.std.specs.Prelude.{◌≡◌, ◌⊎◌, ℕ, List, [], ◌∷◌, ◌++◌, length, slice_index_or, slice_set, Option, None, Some, Box}
use Rattle.std.specs.declared.alloc.Global.{Global}
use Rattle.game_file.specs.State.{State}
use Rattle.sector_disk.specs.Disk.{Disk}
use Rattle.session.specs.Commands.{IsUnopened}
use Rattle.solver.specs.Faults.{status_of}
use Rattle.session_lines.specs.Told.{fault_line}
use Rattle.solver.specs.Opened.{IsOpened}
use Rattle.solver.specs.declared.fault.SolverFault.{SolverFault}
use Rattle.tree_table.specs.Held.{StoresTrees}
use Rattle.in_process.specs.Calls.{IsDiskOf, bytes_of}
use Rattle.in_process.specs.Given.{IsGiven}
use Rattle.in_process.specs.Kept.{disk_kept, IsAskable, IsOpenOn}
use Rattle.in_process.specs.declared.held.HeldTable.{HeldTable}
use Rattle.in_process.specs.declared.places.HeldTables.{HeldTables}

-- a table in its box
abbrev pub Boxed : Type 0
Boxed = Box HeldTable Global

-- the table of a number, if it is there
abbrev pub table_at : HeldTables → ℕ → Option Boxed
table_at tables number = slice_index_or tables.places.items number None

-- a table was opened on this disk, and is kept so with no answer that waits, behind the tables that were there; its number is told
pub record IsTableAdded (disk : Disk) (before after : HeldTables) (number : ℕ) : Type 0 where
  pub is : State
  pub opened : IsOpened (StoresTrees 3) disk 0 is
  pub held : Boxed
  pub is_open : IsOpenOn is held.value.kept
  pub askable : IsAskable held.value.kept
  pub none : held.value.answers.items ≡ []
  pub added : after.places.items ≡ before.places.items ++ Some held ∷ []
  pub numbered : number ≡ length before.places.items

-- no table was added, and no number told
pub record AddsNoTable (before after : HeldTables) (number_was number_is : ℕ) : Type 0 where
  pub tables : after.places.items ≡ before.places.items
  pub number : number_is ≡ number_was

-- the table of these bytes is taken into the room, with the status:
--   opened     it was opened and has a number
--   refused    it could not be opened: the line of the refusal is given
--   no_memory  memory ran out
pub data IsTakenOver (bytes : List ℕ) (before after : HeldTables) (number_was number_is : ℕ) (out told : List ℕ) (count : ℕ) : ℕ → Type 0 where
  opened : (disk : Disk) → IsDiskOf bytes disk → IsTableAdded disk before after number_is → count ≡ 0 → told ≡ out
      → IsTakenOver bytes before after number_was number_is out told count 0
  refused : (disk back : Disk) (now : ℕ) (why : SolverFault) → IsDiskOf bytes disk → IsUnopened (StoresTrees 3) disk 0 why back now
      → IsGiven (fault_line why) out told count → AddsNoTable before after number_was number_is
      → IsTakenOver bytes before after number_was number_is out told count (status_of why)
  no_memory : AddsNoTable before after number_was number_is → count ≡ 0 → told ≡ out
      → IsTakenOver bytes before after number_was number_is out told count 5

-- a call on the table of a number, with its status:
--   found      this was done to the table of the number, and to no other
--   not_open   there is no such table: nothing is done
--   no_memory  memory ran out: nothing is done
pub data IsOnTable (Does : HeldTable → HeldTable → ℕ → Type 0) (before after : HeldTables) (number : ℕ) : ℕ → Type 0 where
  found : (was is : Boxed) (status : ℕ) → table_at before number ≡ Some was → Does was.value is.value status
      → after.places.items ≡ slice_set before.places.items number (Some is) → IsOnTable Does before after number status
  not_open : table_at before number ≡ None → after.places.items ≡ before.places.items → IsOnTable Does before after number 7
  no_memory : after ≡ before → IsOnTable Does before after number 5

-- the answers that wait were given, and none waits then; or they do not fit, and wait on
pub record GivesAnswers (out told : List ℕ) (count : ℕ) (was is : HeldTable) (status : ℕ) : Type 0 where
  pub given : IsGiven was.answers.items out told count
  pub same : is.kept ≡ was.kept
  pub either : ((status ≡ 0) × (is.answers.items ≡ [])) ⊎ ((status ≡ 6) × (is ≡ was))

-- the bytes of the table were given, or do not fit; its disk shows what it showed
pub record GivesBytes (out told : List ℕ) (count : ℕ) (was is : HeldTable) (status : ℕ) : Type 0 where
  pub given : IsGiven (bytes_of (disk_kept was.kept)) out told count
  pub disk : disk_kept is.kept ≡ disk_kept was.kept
  pub askable : IsAskable was.kept → IsAskable is.kept
  pub answers : is.answers ≡ was.answers
  pub either : (status ≡ 0) ⊎ (status ≡ 6)
