-- Where a position cannot be processed, since the table does not agree with itself.
use Rattle.std.specs.Prelude.{◌≡◌, ◌+◌, ◌^◌, ◌≤◌, ◌⊎◌, ℕ, true, length}
use Rattle.rbg_game.specs.declared.roles.Player.{Player}
use Rattle.retrograde.specs.declared.records.Record.{Record}
use Rattle.retrograde.specs.Graph.{Graph}
use Rattle.retrograde.specs.Stored.{Stored, HasRecord}
use Rattle.retrograde.specs.Process.{is_open}
use Rattle.retrograde.specs.lemmas.ProcessSteps.{lowered_below}

-- a predecessor with this record has nothing left to be counted down; or it waits, and is to be settled at one more than
-- d, but that is too far, or the settled order is full
abbrev pub IsStuck : {P : Type 0} → Stored P → ℕ → Record → Type 0
IsStuck stored d r =
    (r.left ≡ 0) ⊎ ((is_open r.state ≡ true) × ((2 ^ 32 ≤ d + 1) ⊎ (length stored.positions ≤ length stored.order)))

-- the predecessor p of s is so, once those before it are seen to
pub record IsStuckAt {P : Type 0} (graph : Graph P) (s : ℕ) (w : Player) (d : ℕ) (stored : Stored P) (p : ℕ) : Type 0 where
  pub edge : stored.has_edge s p ≡ true
  pub kept : Record
  pub has : HasRecord (lowered_below graph s w d p stored) p kept
  pub stuck : IsStuck (lowered_below graph s w d p stored) d kept
