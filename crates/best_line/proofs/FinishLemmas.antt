-- A finished table by its counts.
use Rattle.std.proofs.Common.{◌≡◌, sym, subst, ℕ, None, ◌≤◌, ◌<◌, ⊎_elim, cond, length, arith}
use Rattle.std.proofs.lemmas.Bool.{cases_lt}
use Rattle.std.proofs.lemmas.Option.{slice_get_within}
use Rattle.std.proofs.lemmas.List.Sums.{sum_by-le-sum_by}
use Rattle.retrograde.specs.declared.records.State.{State}
use Rattle.retrograde.specs.declared.records.State.TheVariants.{Known, Expanded, Settled, Processed}
use Rattle.retrograde.specs.declared.records.Record.{Record}
use Rattle.retrograde.specs.declared.records.Counts.{Counts}
use Rattle.retrograde.specs.Changes.{counts_of}
use Rattle.retrograde.specs.View.{IsFinished}
use Rattle.retrograde.specs.Stored.{Stored, IsTable, view_of, is_processed, is_settled, processed_count, settled_count}
use Rattle.retrograde.proofs.Finished.{element}
use Rattle.best_line.specs.declared.answers.Value.{Value}
use Rattle.best_line.specs.declared.answers.Value.TheVariants.{Won, Drawn, Open}
use Rattle.best_line.specs.Values.{IsValue, IsComplete}
use Rattle.best_line.specs.lemmas.Values.{IsUnsettled}

-- a processed position is settled
processed_counts_less : (s : State) → cond (is_processed s) 1 0 ≤ cond (is_settled s) 1 0
processed_counts_less Known = omega arith
processed_counts_less Expanded = omega arith
processed_counts_less Settled = omega arith
processed_counts_less Processed = omega arith

-- in a finished table all of the settled order is processed
pub all_of_order : {P : Type 0} (stored : Stored P) → IsTable stored → IsFinished (view_of stored) → processed_count stored ≡ length stored.order
all_of_order stored table finished =
    let most : processed_count stored ≤ settled_count stored =
    sum_by-le-sum_by (λ (r : Record). cond (is_processed r.state) 1 0) (λ (r : Record). cond (is_settled r.state) 1 0) stored.records
    (λ r. processed_counts_less r.state) in
    let counted : length stored.order ≡ settled_count stored = table.counted in
    ⊎_elim
    (λ less.
    let (i, at) = element stored.order (processed_count stored) less in
    let here : processed_count stored < processed_count stored = (table.processed (processed_count stored) i at).0
    (finished.all_processed i (table.settled (processed_count stored) i at)) in
    absurd (omega arith))
    (λ enough. omega arith)
    (cases_lt (processed_count stored) (length stored.order))

-- by its counts a table is finished exactly if nothing is left to do
pub complete_finished : {P : Type 0} (stored : Stored P) → IsTable stored → IsComplete (counts_of stored) → IsFinished (view_of stored)
complete_finished stored table (expanded, processed) = record {
  all_expanded = expanded;
  all_processed = λ j settled.
      let (k, at) = table.listed j settled in
      let within : k < length stored.order = slice_get_within stored.order k j at in
      (table.processed k j at).1 (omega (arith, within, processed));
}

pub finished_complete : {P : Type 0} (stored : Stored P) → IsTable stored → IsFinished (view_of stored) → IsComplete (counts_of stored)
finished_complete stored table finished = (finished.all_expanded, all_of_order stored table finished)

-- the value of a position that is not settled, by the counts of the table
pub unsettled_value : {P : Type 0} (stored : Stored P) (counts : Counts) → counts ≡ counts_of stored → IsTable stored → (i : ℕ)
    → (view_of stored).value i ≡ None
    → (v : Value) → IsUnsettled counts v → IsValue (view_of stored) i v
unsettled_value stored counts is table i none (Won w n) it = absurd it
unsettled_value stored counts is table i none Drawn it = (none, complete_finished stored table (subst (λ (c : Counts). IsComplete c) is it))
unsettled_value stored counts is table i none Open isnt =
    (none, λ finished. isnt (subst (λ (c : Counts). IsComplete c) (sym is) (finished_complete stored table finished)))
