-- What audit answers: that a table is right, or the lowest number that fails, with its lowest reason.
use Rattle.std.specs.Prelude.{◌≡◌, ℕ, ◌<◌}
use Rattle.retrograde.specs.Graph.{Graph}
use Rattle.retrograde.specs.View.{HasNumber}
use Rattle.retrograde.specs.Stored.{Stored, view_of}
use Rattle.retrograde.specs.Audit.{IsReached, HasItsEdges, IsProcessedLate, IsNoNearer}
use Rattle.retrograde.specs.Audit.{IsSettledAtTheEnd, IsSettledByItsMoves, IsUnsettledBefore}
use Rattle.retrograde.specs.Sound.{IsLocallySoundAt}

-- the seven conditions by their codes; one that does not hold is the reason why a number fails
pub data Reason : Type 0 where
  A1 : Reason
  A2 : Reason
  A3 : Reason
  A4 : Reason
  A5 : Reason
  A6 : Reason
  A7 : Reason

-- the number of a reason
abbrev pub number_of : Reason → ℕ
number_of A1 = 1
number_of A2 = 2
number_of A3 = 3
number_of A4 = 4
number_of A5 = 5
number_of A6 = 6
number_of A7 = 7

-- what the condition with this code says of the number i of position x
abbrev pub condition_of : {P : Type 0} → Graph P → Stored P → ℕ → P → Reason → Type 0
condition_of graph stored i x A1 = IsReached graph stored i x
condition_of graph stored i x A2 = HasItsEdges graph stored i x
condition_of graph stored i x A3 = IsProcessedLate stored i
condition_of graph stored i x A4 = IsNoNearer stored i
condition_of graph stored i x A5 = IsSettledAtTheEnd graph stored i x
condition_of graph stored i x A6 = IsSettledByItsMoves graph stored i x
condition_of graph stored i x A7 = IsUnsettledBefore stored i

-- what audit answers; a reason is a number from 1 to 7. That a position is too wide is no verdict
pub data Verdict : Type 0 where
  right : Verdict
  wrong : (number : ℕ) (reason : ℕ) → Verdict

-- number n is the lowest at which one of the seven fails, and the one with number c is the lowest that fails there
pub record IsWrong {P : Type 0} (graph : Graph P) (stored : Stored P) (n c : ℕ) : Type 0 where
  pub position : P
  pub number : HasNumber (view_of stored) n position
  pub reason : Reason
  pub code : c ≡ number_of reason
  pub fails : condition_of graph stored n position reason → ⊥
  pub lower_reasons : (r : Reason) → number_of r < number_of reason → condition_of graph stored n position r
  pub lower_numbers : (i : ℕ) (x : P) → HasNumber (view_of stored) i x → i < n → IsLocallySoundAt graph stored i x

-- the verdict of a stored table: right where the seven hold of every number
abbrev pub IsVerdict : {P : Type 0} → Graph P → Stored P → Verdict → Type 0
IsVerdict {P} graph stored right = (i : ℕ) (x : P) → HasNumber (view_of stored) i x → IsLocallySoundAt graph stored i x
IsVerdict graph stored (wrong n c) = IsWrong graph stored n c
