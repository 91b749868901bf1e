-- What a call leaves of a table.
use Rattle.std.specs.Prelude.{◌≡◌, ◌↔◌, ℕ, List}
use Rattle.retrograde.specs.declared.records.Counts.{Counts}
use Rattle.retrograde.specs.Stored.{Stored}

-- what one leaves that only reads: what is stored, whether it is honest, what it counts, and what is under it are as
-- they were
pub record IsRead {T : Type 0} (stored : T → Stored (List ℕ)) (IsHonest : T → Type 0) (counted : T → Counts)
    (Stays : T → T → Type 0) (old new : T) : Type 0 where
  pub same : IsHonest old → stored new ≡ stored old
  pub honest : IsHonest old ↔ IsHonest new
  pub counts : counted new ≡ counted old
  pub stays : Stays old new

-- what one leaves that writes, is answered, and adds no position: a table that is as honest as before, knows as many
-- positions, and has gone on
pub record IsWritten {T : Type 0} (IsHonest : T → Type 0) (counted : T → Counts) (GoesOn : T → T → Type 0) (old new : T)
    : Type 0 where
  pub honest : IsHonest old ↔ IsHonest new
  pub known : (counted new).known ≡ (counted old).known
  pub ahead : GoesOn old new
