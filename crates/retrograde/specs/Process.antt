-- What processing a position does to one that leads to it.
use Rattle.std.specs.Prelude.{◌≡◌, ℕ, ◌+◌, ◌-◌, ◌==◌, ◌&&◌, ◌||◌, Bool, true, false, if◌then◌else◌, Some, slice_get, slice_set}
use Rattle.rbg_game.specs.declared.roles.Player.{Player}
use Rattle.rbg_game.specs.declared.roles.Player.TheVariants.{First, Second}
use Rattle.rbg_game.specs.declared.roles.Role.{Role}
use Rattle.rbg_game.specs.declared.roles.Role.TheVariants.{Keeper}
use Rattle.retrograde.specs.declared.records.State.{State}
use Rattle.retrograde.specs.declared.records.State.TheVariants.{Known, Expanded, Settled, Processed}
use Rattle.retrograde.specs.declared.records.Record.{Record}
use Rattle.retrograde.specs.Stored.{Stored, HasRecord, processed_count}

-- w has the turn
abbrev pub has_turn : Player → Role → Bool
has_turn w Keeper = false
has_turn First (Role.Player First) = true
has_turn First (Role.Player Second) = false
has_turn Second (Role.Player First) = false
has_turn Second (Role.Player Second) = true

-- expanded, and not settled
abbrev pub is_open : State → Bool
is_open Known = false
is_open Expanded = true
is_open Settled = false
is_open Processed = false

-- whether a position with this record is settled for w now that one more of its successors is processed for w
abbrev pub is_due : Role → Player → Record → Bool
is_due mover w r = is_open r.state && (has_turn w mover || r.left == 1)

-- the record then
abbrev pub lowered : Role → Player → ℕ → Record → Record
lowered mover w d r =
    if is_due mover w r
    then record { state = Settled; winner = Some w; distance = d + 1; left = r.left - 1; successors = r.successors }
    else record r { left = r.left - 1 }

-- a record once its position is processed
abbrev pub processed_record : Record → Record
processed_record r = record r { state = Processed }

-- the next settled number in the order, with its record and its winner
pub record IsNextSettled {P : Type 0} (stored : Stored P) (s : ℕ) (r : Record) (w : Player) : Type 0 where
  pub place : slice_get stored.order (processed_count stored) ≡ Some s
  pub has : HasRecord stored s r
  pub won : r.winner ≡ Some w

-- the table with s, which has this record, processed, before its predecessors are seen to
abbrev pub with_processed_alone : {P : Type 0} → ℕ → Record → Stored P → Stored P
with_processed_alone s r stored = record stored { records = slice_set stored.records s (processed_record r) }
