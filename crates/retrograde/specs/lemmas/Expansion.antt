-- The steps by which a position is expanded: its successors are added one by one, and then its record is written.
use Rattle.std.specs.Prelude.{◌≡◌, ℕ, ◌⊎◌, Option, Some, None, List, [], ◌∷◌, length, slice_get, ◌==◌, if◌then◌else◌}
use Rattle.rbg_game.specs.declared.roles.Player.{Player}
use Rattle.retrograde.specs.Stored.{Stored}
use Rattle.retrograde.specs.Changes.{with_position, with_record, with_edge, with_settled}
use Rattle.retrograde.specs.Expands.{expanded_record, won_record}

-- y is added if it was not known, and gets its edge from number e
abbrev pub IsNoted : {P : Type 0} → ℕ → P → Stored P → Stored P → Type 0
IsNoted e y old new =
    ((j : ℕ) × (slice_get old.positions j ≡ Some y) × (new ≡ with_edge old j e))
    ⊎ (((j : ℕ) → slice_get old.positions j ≡ Some y → ⊥) × (new ≡ with_edge (with_position old y) (length old.positions) e))

-- and so are all of these in turn
abbrev pub AreNoted : {P : Type 0} → ℕ → List P → Stored P → Stored P → Type 0
AreNoted e [] old new = new ≡ old
AreNoted {P} e (y ∷ ys) old new = (next : Stored P) × IsNoted e y old next × AreNoted e ys next new

-- number e has no successor: it is settled where a player is ahead
abbrev pub with_ended : {P : Type 0} → ℕ → Option Player → Stored P → Stored P
with_ended e None stored = with_record stored e (expanded_record 0)
with_ended e (Some w) stored = with_settled (with_record stored e (won_record w)) e

-- number e is expanded: it has this many successors, and this player is ahead in it
abbrev pub with_expanded : {P : Type 0} → ℕ → ℕ → Option Player → Stored P → Stored P
with_expanded e n ahead stored = if n == 0 then with_ended e ahead stored else with_record stored e (expanded_record n)
