-- What the processing of a settled position has made of a table.
use Rattle.std.specs.Prelude.{◌≡◌, ◌+◌, ℕ, List, length}
use Rattle.rbg_game.specs.declared.roles.Player.{Player}
use Rattle.retrograde.specs.declared.records.Record.{Record}
use Rattle.retrograde.specs.Graph.{Graph}
use Rattle.retrograde.specs.Process.{IsNextSettled, with_processed_alone}
use Rattle.retrograde.specs.Settles.{Settles}
use Rattle.retrograde.specs.Sound.{IsLocallySound}
use Rattle.retrograde.specs.Stored.{Stored}

-- so many positions more are settled, and of a locally sound table the next settled position is processed
pub record HasSettled (graph : Graph (List ℕ)) (IsWide : List ℕ → Type 0) (old new : Stored (List ℕ)) (more : ℕ)
    : Type 0 where
  pub newly : length new.order ≡ length old.order + more
  pub settles : IsLocallySound graph IsWide old
      → (s : ℕ) × (r : Record) × (w : Player) × Settles graph old new s r w

-- s is the next, has this record, and w wins it; and it is written of s that it is processed, and no more
pub record IsMarkedProcessed (old new : Stored (List ℕ)) (s : ℕ) (r : Record) (w : Player) : Type 0 where
  pub next : IsNextSettled old s r w
  pub marked : new ≡ with_processed_alone s r old
