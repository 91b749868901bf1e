-- What a call that writes to a table leaves of it.
use Rattle.std.specs.Prelude.{◌↔◌, ◌≤◌, ◌^◌}
use Rattle.retrograde.specs.declared.records.Counts.{Counts}
use Rattle.table.specs.declared.fault.TableFault.{TableFault}
use Rattle.frontier.specs.declared.fault.StepFault.{StepFault}
use Rattle.frontier.specs.Causes.{IsRefusal, Leaves}

-- what one that is answered leaves, and that may add positions within the limit: a table that is as honest as before,
-- knows as many positions or more, and has gone on
pub record IsGrown {T : Type 0} (IsHonest : T → Type 0) (counted : T → Counts) (GoesOn : T → T → Type 0) (old new : T)
    : Type 0 where
  pub honest : IsHonest old ↔ IsHonest new
  pub more : (counted old).known ≤ (counted new).known
  pub room : (counted old).known ≤ 2 ^ 24 → (counted new).known ≤ 2 ^ 24
  pub ahead : GoesOn old new

-- what one leaves that gives no answer, and after which the caller gives the table up: its fault is no refusal, and of
-- what is left the table itself speaks
pub record IsGivenUp {T : Type 0} (GoesOn : T → T → Type 0) (Fails : T → T → TableFault → Type 0) (old new : T)
    (fault : StepFault) : Type 0 where
  pub goes_on : ¬ IsRefusal fault
  pub left : Leaves (GoesOn old new) (Fails old new) fault
