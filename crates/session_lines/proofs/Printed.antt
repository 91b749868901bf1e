-- What is told of a table.
use Rattle.std.proofs.Common.{◌≡◌, ◌⊎◌, inl, inr, ℕ, List, Option, Result, Ok, Err}
use Rattle.std.specs.Prelude.{OnOk}
use Rattle.std.specs.Io.KnownBytes.{Appends}
use Rattle.retrograde.specs.declared.records.Counts.{Counts}
use Rattle.best_line.specs.Values.{IsComplete}

pub not_done : (counts : Counts) → ((counts.expanded ≡ counts.known) × (counts.processed ≡ counts.settled → ⊥)) ⊎ (counts.expanded ≡ counts.known → ⊥)
    → ¬ IsComplete counts
not_done counts (inl it) done = it.1 done.1
not_done counts (inr it) done = it done.0

-- a line that is written at once
pub told_at_once : {X E : Type 0} (Is : List ℕ → Type 0) (old new : Option (List ℕ)) (r : Result X E) (line : List ℕ)
    → OnOk r (Appends old new line) → Is line → OnOk r ((it : List ℕ) × Is it × Appends old new it)
told_at_once Is old new (Ok x) line then is = (line, is, then)
told_at_once Is old new (Err e) line then is = tt
