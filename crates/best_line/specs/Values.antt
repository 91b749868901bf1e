-- What the value of a position says of the table.
use Rattle.std.specs.Prelude.{◌≡◌, ℕ, Some, None}
use Rattle.retrograde.specs.View.{View, IsFinished}
use Rattle.retrograde.specs.declared.records.Counts.{Counts}
use Rattle.best_line.specs.declared.answers.Value.{Value}
use Rattle.best_line.specs.declared.answers.Value.TheVariants.{Won, Drawn, Open}

-- this is the value of number i: its winner and distance, or else whether the table is finished
abbrev pub IsValue : {P : Type 0} → View P → ℕ → Value → Type 0
IsValue view i (Won w n) = view.value i ≡ Some (w, n)
IsValue view i Drawn = (view.value i ≡ None) × IsFinished view
IsValue view i Open = (view.value i ≡ None) × (IsFinished view → ⊥)

-- nothing is left to do by these counts: all that is known is expanded, and all that is settled is processed
abbrev pub IsComplete : Counts → Type 0
IsComplete counts = (counts.expanded ≡ counts.known) × (counts.processed ≡ counts.settled)
