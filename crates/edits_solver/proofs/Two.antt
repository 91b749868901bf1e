-- Two commands, one after the other.
use Rattle.std.proofs.Common.{◌≡◌, ℕ, Bool, true, false, List, [], ◌∷◌, ◌++◌, IsTrue, arith, refl, sym, ◌∙◌, subst}
use Rattle.retrograde.specs.declared.records.Counts.{Counts}
use Rattle.game_file.specs.Kept.{Layout}
use Rattle.game_file.specs.State.{State, GoesAhead}
use Rattle.solver.specs.declared.replies.Command.TheVariants as asked
use Rattle.solver.specs.declared.replies.Reply.{Reply}
use Rattle.solver.specs.declared.fault.SolverFault.TheVariants.{Closed}
use Rattle.solver.specs.declared.replies.Reply.TheVariants.{Worked, Refused}
use Rattle.solver.specs.declared.replies.Units.{Units}
use Rattle.solver.specs.Machine.{work}
use Rattle.solver.specs.Runs.{Turns, IsRun}
use Rattle.solver.specs.Steps.{IsDone}
use Rattle.solver.specs.Units.{units_in}
use Rattle.edits_solver.specs.Between.{LeavesTheFirst}

-- what is after the same beginning
behind : {X : Type 0} (begun xs ys : List X) → begun ++ xs ≡ begun ++ ys → xs ≡ ys
behind [] xs ys is = is
behind (x ∷ begun) xs ys is = behind begun xs ys cc

-- what is not closed is open
not_shut : (closed : Bool) → (closed ≡ true → ⊥) → closed ≡ false
not_shut false never = refl
not_shut true never = absurd (never refl)

-- what is done is not refused
not_refused : {d : ℕ} {c : Counts} → Worked d c ≡ Refused Closed → ⊥
not_refused is = cc

-- of a run of two commands to work that are both done
pub run_of_two : {Stores : ℕ → Layout} {a b : Units} {before after : List Reply} {was is : State} (d e : ℕ) (c f : Counts)
    → IsRun Stores (asked.Work a ∷ asked.Work b ∷ []) before after was is → IsTrue was.disk.honest → was.closed ≡ false
    → after ≡ before ++ Worked d c ∷ Worked e f ∷ [] → LeavesTheFirst Stores (units_in a) was is
run_of_two {Stores} {a} {b} {before} {after} {was} {is} d e c f run honest open_ replies = two turns
  where
    turns : Turns Stores (work (units_in a) ∷ work (units_in b) ∷ []) (Worked d c ∷ Worked e f ∷ []) was is
    turns = subst (λ (added : List Reply). Turns Stores (work (units_in a) ∷ work (units_in b) ∷ []) added was is)
        (behind before run.added (Worked d c ∷ Worked e f ∷ []) (sym run.replies_are ∙ replies)) run.turns

    two : Turns Stores (work (units_in a) ∷ work (units_in b) ∷ []) (Worked d c ∷ Worked e f ∷ []) was is → LeavesTheFirst Stores (units_in a) was is
    two (mid, first, (end, second, same)) = record {
      mid = mid;
      since = first.turn.ahead;
      until = subst (λ (s : State). GoesAhead mid s) (sym same) second.turn.ahead;
      done = d;
      counts = c;
      does = first.turn.does honest;
      at = first.turn.at honest open_ (not_shut mid.closed (λ shut. not_refused (second.turn.shut shut).0));
    }

-- nothing has happened
stays : (is : State) → GoesAhead is is
stays is = record {
  goes_on = record { later = omega arith; past = λ k le. refl; honest = refl; failed_writes = omega arith };
  same_size = refl;
  failures = omega arith;
  capacity = refl;
  closes = record { stays = λ e. e; none = λ e. refl; cause = λ is_open shut. absurd (apart is.closed is_open shut) };
}
  where
    apart : (closed : Bool) → closed ≡ false → closed ≡ true → ⊥
    apart closed is_open shut = absurd (cc)

-- of one command to work that is done
pub done_alone : {Stores : ℕ → Layout} {units d : ℕ} {c : Counts} {was is : State}
    → IsDone Stores (work units) (Worked d c) was is → GoesAhead was is → IsTrue was.disk.honest → LeavesTheFirst Stores units was is
done_alone {Stores} {units} {d} {c} {was} {is} done ahead honest = record {
  mid = is;
  since = ahead;
  until = stays is;
  done = d;
  counts = c;
  does = done.step.does honest;
  at = done.stops.now honest;
}
