-- The reply of a run of one command.
use Rattle.std.proofs.Common.{◌≡◌, ℕ, List, [], ◌∷◌, ◌++◌, Some, sym, subst, ap, ◌∙◌}
use Rattle.std.specs.Prelude.{slice_get}
use Rattle.std.proofs.lemmas.Option.{same_Some}
use Rattle.solver.specs.declared.replies.Command.{Command}
use Rattle.solver.specs.declared.replies.Reply.{Reply}
use Rattle.solver.specs.Runs.{command_of, IsTurnWithCause, IsRun, Turns}
use Rattle.game_file.specs.Kept.{Layout}
use Rattle.game_file.specs.State.{State}

added_one : (Stores : ℕ → Layout) (command : Command) (added : List Reply) (reply : Reply) (was is : State)
    → Turns Stores (command_of command ∷ []) added was is
    → slice_get added 0 ≡ Some reply → IsTurnWithCause Stores (command_of command) reply was is
added_one Stores command [] reply was is h e = elim h [ ]
added_one Stores command (only ∷ []) reply was is h e =
    subst (λ s. IsTurnWithCause Stores (command_of command) reply was s) (sym h.2)
    (subst (λ r. IsTurnWithCause Stores (command_of command) r was h.0) (same_Some only reply e) h.1)
added_one Stores command (first ∷ (second ∷ more)) reply was is h e = elim h.2 [ ]

-- the first reply is that of the command's turn
pub one_reply : (Stores : ℕ → Layout) (command : Command) (before after : List Reply) (reply : Reply) (was is : State) → before ≡ []
    → IsRun Stores (command ∷ []) before after was is
    → slice_get after 0 ≡ Some reply → IsTurnWithCause Stores (command_of command) reply was is
one_reply Stores command before after reply was is none run e =
    let items : after ≡ run.added = run.replies_are ∙ ap (λ rs. rs ++ run.added) none in
    added_one Stores command run.added reply was is run.turns (ap (λ rs. slice_get rs 0) (sym items) ∙ e)
