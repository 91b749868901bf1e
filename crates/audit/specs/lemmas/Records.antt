-- What the records of the successors say of a value.
use Rattle.std.specs.Prelude.{◌≡◌, ◌⊎◌, ℕ, suc, ◌≤◌, if◌then◌else◌, List, [], Contains, Option, Some, None, option_map}
use Rattle.rbg_game.specs.declared.roles.Player.{Player}
use Rattle.rbg_game.specs.declared.roles.Role.{Role}
use Rattle.retrograde.specs.declared.records.Record.{Record}
use Rattle.retrograde.specs.Stored.{is_processed, value_of}

-- the winner and the distance of a position that is processed
abbrev pub told : Record → Option (Player × ℕ)
told r = if is_processed r.state then value_of r else None

-- the least distance of the processed ones that this player wins, if there are some
abbrev pub IsNearest : List Record → Player → Option ℕ → Type 0
IsNearest records w None = (r : Record) (m : ℕ) → Contains records r → told r ≡ Some (w, m) → ⊥
IsNearest records w (Some n) =
    ((r : Record) × Contains records r × (told r ≡ Some (w, n)))
    × ((r : Record) (m : ℕ) → Contains records r → told r ≡ Some (w, m) → n ≤ m)

-- where all are processed, and there are some, the winner and the distance of one of the farthest
abbrev pub IsFarthest : List Record → Option (Player × ℕ) → Type 0
IsFarthest records None = (records ≡ []) ⊎ ((r : Record) × Contains records r × (told r ≡ None))
IsFarthest records (Some value) =
    ((r : Record) × Contains records r × (told r ≡ Some value))
    × ((r : Record) → Contains records r → (v : Player) × (m : ℕ) × (told r ≡ Some (v, m)) × (m ≤ value.1))

-- who has the turn has no move to a processed position of his own
abbrev pub HasNone : Role → List Record → Type 0
HasNone mover records = (w : Player) → mover ≡ Role.Player w → IsNearest records w None

-- what the records say: the winner of the position, and the distance of the one that it rests on
abbrev pub IsDueByRecords : Role → List Record → Option (Player × ℕ) → Type 0
IsDueByRecords mover records None = HasNone mover records × IsFarthest records None
IsDueByRecords mover records (Some value) =
    ((mover ≡ Role.Player value.0) × IsNearest records value.0 (Some value.1))
    ⊎ (HasNone mover records × IsFarthest records (Some value))

-- one move more
abbrev pub one_more : Player × ℕ → Player × ℕ
one_more value = (value.0, suc value.1)

-- the record has this value, one move farther
abbrev pub HasThis : Record → Option (Player × ℕ) → Type 0
HasThis r due = value_of r ≡ option_map one_more due
