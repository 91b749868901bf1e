-- The cell that a table at work has looked at or written last.
use Rattle.std.specs.Prelude.{◌≡◌, ℕ, List, Option, Some, None, slice_get}
use Rattle.retrograde.specs.Stored.{Stored, HasRecord}
use Rattle.std.specs.Option.{IfSome}
use Rattle.tree_table.specs.declared.last.Seen.{Seen}
use Rattle.tree_table.specs.WorkTable.{Work, table_now, IsHonestWork}

-- it has the position and the record of its number in this table
pub record IsSeenIn (table : Stored (List ℕ)) (seen : Seen) : Type 0 where
  pub position : slice_get table.positions seen.number ≡ Some seen.cell.position.items
  pub kept : HasRecord table seen.number seen.cell.kept

-- where the table is honest, the cell that was seen last, if there is one, has both
abbrev pub IsLastSeen : Work → Option Seen → Type 0
IsLastSeen work seen = IsHonestWork work → IfSome seen (IsSeenIn (table_now work))

-- it is the one of this number
abbrev pub HasSeen : Option Seen → ℕ → Type 0
HasSeen None number = ⊥
HasSeen (Some seen) number = seen.number ≡ number
