-- When each number of a stored table agrees with the numbers beside it.
use Rattle.std.specs.Prelude.{ℕ, ◌<◌}
use Rattle.retrograde.specs.Graph.{Graph}
use Rattle.retrograde.specs.View.{HasNumber}
use Rattle.retrograde.specs.Stored.{Stored, IsTable, view_of, expanded_count}
use Rattle.retrograde.specs.Audit.{IsReached, HasItsEdges, IsProcessedLate, IsNoNearer}
use Rattle.retrograde.specs.Audit.{IsSettledAtTheEnd, IsSettledByItsMoves, IsUnsettledBefore}

-- what audit asks of the number i of position x: A1 to A7
pub record IsLocallySoundAt {P : Type 0} (graph : Graph P) (stored : Stored P) (i : ℕ) (x : P) : Type 0 where
  pub reached : IsReached graph stored i x
  pub edges : HasItsEdges graph stored i x
  pub late : IsProcessedLate stored i
  pub no_nearer : IsNoNearer stored i
  pub ended : IsSettledAtTheEnd graph stored i x
  pub moving : IsSettledByItsMoves graph stored i x
  pub waiting : IsUnsettledBefore stored i

-- A locally sound table agrees with itself at each number, and what it has expanded is not wide.
pub record IsLocallySound {P : Type 0} (graph : Graph P) (IsWide : P → Type 0) (stored : Stored P) : Type 0 where
  pub table : IsTable stored
  pub each : (i : ℕ) (x : P) → HasNumber (view_of stored) i x → IsLocallySoundAt graph stored i x
  pub narrow : (i : ℕ) (x : P) → HasNumber (view_of stored) i x → i < expanded_count stored → IsWide x → ⊥
