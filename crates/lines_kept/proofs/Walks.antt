-- Steps of a solver, one behind the other, and what a stop leaves in the course of them.
use Rattle.std.proofs.Common.{◌≡◌, ◌≤◌, ◌<◌, inl, inr, ◌⊎◌, ℕ, List, [], ◌∷◌, ◌++◌, Option, Some, None, Bool, true, false, length, map, refl, ap, sym, ◌∙◌}
use Rattle.std.proofs.Common.{subst, append_assoc, append-nil, arith}
use Rattle.std.proofs.lemmas.Bool.{cases_lt, le-leb, lt-leb}
use Rattle.std.proofs.lemmas.List.{map-append}
use Rattle.std.specs.Prelude.{nat_le, if◌then◌else◌}
use Rattle.sector_disk.specs.Disk.{Disk, GoesOn, Shown, StopsIn, at_moment}
use Rattle.sector_disk.specs.lemmas.Moments.{goes_on_refl, goes_on_trans}
use Rattle.game_file.specs.Calls.{IsAsked}
use Rattle.game_file.specs.Kept.{Layout}
use Rattle.game_file.specs.State.{State}
use Rattle.solver.specs.Histories.{Sitting, IsUsed, no_call, a_question, a_command, a_growth, Ends, by_closing, in_a_question, in_a_command, IsSitting}
use Rattle.solver.specs.Machine.{Command}
use Rattle.solver.specs.Runs.{IsTurn}
use Rattle.solver.specs.declared.fault.SolverFault.TheVariants as fault
use Rattle.solver.specs.declared.replies.Reply.{Reply}
use Rattle.solver.specs.declared.replies.Reply.TheVariants as reply
use Rattle.session_lines.specs.Answered.{status_of_reply}
use Rattle.session.specs.Seen.{Moment}
use Rattle.lines_kept.specs.Told.{Answer, told, told_by}

-- the commands with their replies
abbrev pub pairs : List Answer → List (Command × Reply)
pairs = map (λ answer. (answer.command, answer.reply))

-- each of them tells what was done
abbrev pub AreTold : List Answer → Type 0
AreTold [] = Unit {0}
AreTold (answer ∷ others) = (told answer.command answer.reply ≡ (answer.command, answer.reply) ∷ []) × AreTold others

-- a reply is told or not, and E1 is not
pub told_or_not : (command : Command) (said : Reply) → (told command said ≡ []) ⊎ (told command said ≡ (command, said) ∷ [])
told_or_not command reply.Loaded = inr refl
told_or_not command (reply.Worked units counts) = inr refl
told_or_not command (reply.Refused fault.Disk) = inl refl
told_or_not command (reply.Refused fault.NotATable) = inr refl
told_or_not command (reply.Refused fault.AlreadyATable) = inr refl
told_or_not command (reply.Refused fault.Damaged) = inr refl
told_or_not command (reply.Refused fault.OldLayout) = inr refl
told_or_not command (reply.Refused fault.TooSmall) = inr refl
told_or_not command (reply.Refused fault.TableFull) = inr refl
told_or_not command (reply.Refused fault.OutOfMemory) = inr refl
told_or_not command (reply.Refused fault.Closed) = inr refl
told_or_not command (reply.Refused (fault.Game why)) = inr refl
told_or_not command (reply.Refused fault.NoGame) = inr refl
told_or_not command (reply.Refused fault.GameAlready) = inr refl
told_or_not command (reply.Refused (fault.KeeperChooses number)) = inr refl
told_or_not command (reply.Refused fault.TooWide) = inr refl
told_or_not command (reply.Refused fault.TooManyPositions) = inr refl
told_or_not command (reply.Refused fault.Inconsistent) = inr refl
told_or_not command (reply.Refused fault.NoSuchPosition) = inr refl
told_or_not command (reply.Refused fault.NotSettled) = inr refl
told_or_not command (reply.Refused fault.ListingsUsedUp) = inr refl
told_or_not command (reply.Refused fault.BadPosition) = inr refl

-- where the status is 0 or 1 it is told
pub low_is_told : (command : Command) (said : Reply) → status_of_reply said ≤ 1 → told command said ≡ (command, said) ∷ []
low_is_told command reply.Loaded low = refl
low_is_told command (reply.Worked units counts) low = refl
low_is_told command (reply.Refused fault.Disk) low = absurd (omega (arith, low))
low_is_told command (reply.Refused fault.NotATable) low = refl
low_is_told command (reply.Refused fault.AlreadyATable) low = refl
low_is_told command (reply.Refused fault.Damaged) low = refl
low_is_told command (reply.Refused fault.OldLayout) low = refl
low_is_told command (reply.Refused fault.TooSmall) low = refl
low_is_told command (reply.Refused fault.TableFull) low = refl
low_is_told command (reply.Refused fault.OutOfMemory) low = refl
low_is_told command (reply.Refused fault.Closed) low = refl
low_is_told command (reply.Refused (fault.Game why)) low = refl
low_is_told command (reply.Refused fault.NoGame) low = refl
low_is_told command (reply.Refused fault.GameAlready) low = refl
low_is_told command (reply.Refused (fault.KeeperChooses number)) low = refl
low_is_told command (reply.Refused fault.TooWide) low = refl
low_is_told command (reply.Refused fault.TooManyPositions) low = refl
low_is_told command (reply.Refused fault.Inconsistent) low = refl
low_is_told command (reply.Refused fault.NoSuchPosition) low = refl
low_is_told command (reply.Refused fault.NotSettled) low = refl
low_is_told command (reply.Refused fault.ListingsUsedUp) low = refl
low_is_told command (reply.Refused fault.BadPosition) low = refl

no_pair : {X : Type 0} (x : X) → [] ≡ x ∷ [] → ⊥
no_pair x e = absurd (omega (arith, ap length e))

told_append : (clock : ℕ) (first next : List Answer) → told_by clock (first ++ next) ≡ told_by clock first ++ told_by clock next
told_append clock [] next = refl
told_append clock (answer ∷ others) next =
    ap (λ t. now ++ t) (told_append clock others next) ∙ sym (append_assoc now (told_by clock others) (told_by clock next))
  where
    now : List (Command × Reply)
    now = if nat_le answer.moment.disk.clock clock then told answer.command answer.reply else []

-- a reply that began by next, and one that did not
begun_by : (clock : ℕ) (answer : Answer) → answer.moment.disk.clock ≤ clock → told_by clock (answer ∷ []) ≡ told answer.command answer.reply
begun_by clock answer le = rw (le-leb answer.moment.disk.clock clock le) (append-nil (told answer.command answer.reply))

not_begun_by : (clock : ℕ) (answer : Answer) → clock < answer.moment.disk.clock → told_by clock (answer ∷ []) ≡ []
not_begun_by clock answer lt = rw (lt-leb answer.moment.disk.clock clock lt) refl

never_told : (clock : ℕ) (answer : Answer) → told answer.command answer.reply ≡ [] → told_by clock (answer ∷ []) ≡ []
never_told clock answer none = elim (cases_lt clock answer.moment.disk.clock) [
  | inl lt ↦ not_begun_by clock answer lt
  | inr le ↦ begun_by clock answer le ∙ none
]

module _ (Stores : ℕ → Layout) where
  -- a call on a solver, with the command that it answered, if it was one; its reply began when the disk was as the call has left it
  pub data Step (old : State) : List Answer → State → Type 0 where
    commanded : {new : State} (command : Command) (said : Reply) (moment : Moment) → IsTurn Stores command said old new → moment.disk ≡ new.disk
        → Step old (record { command = command; reply = said; moment = moment } ∷ []) new
    questioned : {new : State} → IsAsked Stores old new → Step old [] new
    nothing : {new : State} → new ≡ old → Step old [] new

  pub step_goes : {old new : State} {last : List Answer} → Step old last new → GoesOn old.disk new.disk
  step_goes (commanded command said moment turn same) = turn.ahead.goes_on
  step_goes (questioned asked) = asked.ahead.goes_on
  step_goes {old} {new} (nothing same) = subst (λ (s : State). GoesOn old.disk s.disk) (sym same) (goes_on_refl old.disk)

  -- where its reply is told, the solver stays open
  step_open : {old new : State} {last : List Answer} → Step old last new → AreTold last → old.closed ≡ false → new.closed ≡ false
  step_open {old} {new} (commanded command said moment turn same) its open_ = by_state new.closed refl
    where
      by_state : (b : Bool) → new.closed ≡ b → new.closed ≡ false
      by_state false is = is
      by_state true is = absurd (no_pair (command, said) (sym (ap (told command) (turn.failed open_ is).reply_is) ∙ its.0))
  step_open (questioned asked) its open_ = asked.closed ∙ open_
  step_open (nothing same) its open_ = ap (λ (s : State). s.closed) same ∙ open_

  step_told : {old new : State} {last : List Answer} → Step old last new → AreTold last → (clock : ℕ) → new.disk.clock ≤ clock
      → told_by clock last ≡ pairs last
  step_told (commanded command said moment turn same) its clock le =
      begun_by clock (record { command = command; reply = said; moment = moment }) (omega (arith, le, ap (λ (d : Disk). d.clock) same)) ∙ its.0
  step_told (questioned asked) its clock le = refl
  step_told (nothing same) its clock le = refl

  step_untold : {old new : State} {last : List Answer} → Step old last new → (clock : ℕ) → clock < new.disk.clock → told_by clock last ≡ []
  step_untold (commanded command said moment turn same) clock lt =
      not_begun_by clock (record { command = command; reply = said; moment = moment }) (omega (arith, lt, ap (λ (d : Disk). d.clock) same))
  step_untold (questioned asked) clock lt = refl
  step_untold (nothing same) clock lt = refl

  used_then : {first next : List (Command × Reply)} {was mid is : State} → IsUsed Stores first was mid → IsUsed Stores next mid is
      → IsUsed Stores (first ++ next) was is
  used_then no_call rest = rest
  used_then (a_question asked more) rest = a_question asked (used_then more rest)
  used_then (a_command turn more) rest = a_command turn (used_then more rest)
  used_then (a_growth growth more) rest = a_growth growth (used_then more rest)

  step_used : {old new : State} {last : List Answer} → Step old last new → IsUsed Stores (pairs last) old new
  step_used (commanded command said moment turn same) = a_command turn no_call
  step_used (questioned asked) = a_question asked no_call
  step_used {old} {new} (nothing same) = subst (λ (s : State). IsUsed Stores [] old s) (sym same) no_call

  -- steps of which each reply is told, so that the solver stays open
  pub data Walk (was : State) : List Answer → State → Type 0 where
    here : Walk was [] was
    more : {answers last : List Answer} {old new : State} → Walk was answers old → Step old last new → AreTold last
        → Walk was (answers ++ last) new

  pub walk_goes : {was is : State} {answers : List Answer} → Walk was answers is → GoesOn was.disk is.disk
  walk_goes {was} here = goes_on_refl was.disk
  walk_goes (more walk step its) = goes_on_trans (walk_goes walk) (step_goes step)

  pub walk_open : {was is : State} {answers : List Answer} → Walk was answers is → was.closed ≡ false → is.closed ≡ false
  walk_open here open_ = open_
  walk_open (more walk step its) open_ = step_open step its (walk_open walk open_)

  walk_used : {was is : State} {answers : List Answer} → Walk was answers is → IsUsed Stores (pairs answers) was is
  walk_used here = no_call
  walk_used {was} {is} (more {answers} {last} walk step its) =
      subst (λ all. IsUsed Stores all was is) (sym (map-append (λ answer. (answer.command, answer.reply)) answers last))
      (used_then (walk_used walk) (step_used step))

  walk_told : {was is : State} {answers : List Answer} → Walk was answers is → (clock : ℕ) → is.disk.clock ≤ clock → told_by clock answers ≡ pairs answers
  walk_told here clock le = refl
  walk_told (more {answers} {last} {old} {new} walk step its) clock le =
      told_append clock answers last
      ∙ ap (λ t. t ++ told_by clock last) (walk_told walk clock (omega (arith, le, (step_goes step).later)))
      ∙ ap (λ t. pairs answers ++ t) (step_told step its clock le)
      ∙ sym (map-append (λ answer. (answer.command, answer.reply)) answers last)

  -- a stop leaves this of the disk, and ends a sitting in which this was answered
  abbrev pub Stopped : State → Shown → List (Command × Reply) → Type 0
  Stopped was shown answered = (sitting : Sitting) × IsSitting Stores was sitting shown × (sitting.answered ≡ answered)

  stopped_as : (was : State) (one other : Shown) (first next : List (Command × Reply)) → other ≡ one → next ≡ first → Stopped was one first
      → Stopped was other next
  stopped_as was one other first next shown same (sitting, is, answered) =
      (sitting, subst (IsSitting Stores was sitting) (sym shown) is, answered ∙ sym same)

  -- at the last moment
  stops_here : {was is : State} {answers : List Answer} → Walk was answers is → was.closed ≡ false → (clock : ℕ) → clock ≡ is.disk.clock
      → Stopped was (is.disk.was clock) (told_by clock answers)
  stops_here {was} {is} {answers} walk open_ clock e = (
    record { begins = was.kept; answered = pairs answers; reached = is.kept; in_doubt = None },
    record {
      begins = refl;
      last = is;
      reached = refl;
      used = walk_used walk;
      is_open = walk_open walk open_;
      ends = by_closing (at_moment clock (omega (arith, e)) (omega (arith, e)));
    },
    sym (walk_told walk clock (omega (arith, e))),
  )

  step_ends : {old new : State} {last : List Answer} → Step old last new → (clock : ℕ) → old.disk.clock ≤ clock → clock ≤ new.disk.clock
      → (doubt : Option Command) × Ends Stores old doubt (new.disk.was clock)
  step_ends (commanded command said moment turn same) clock from to = (Some command, in_a_command turn (at_moment clock from to))
  step_ends (questioned asked) clock from to = (None, in_a_question asked (at_moment clock from to))
  step_ends {old} {new} (nothing same) clock from to =
      (None, by_closing (subst (λ (s : State). StopsIn old.disk s.disk clock (new.disk.was clock)) same (at_moment clock from to)))

  -- within the last step, of which nothing is told yet
  in_step : {was old new : State} {answers last : List Answer} → Walk was answers old → was.closed ≡ false → Step old last new → (clock : ℕ)
      → old.disk.clock ≤ clock → clock ≤ new.disk.clock → told_by clock last ≡ [] → Stopped was (new.disk.was clock) (told_by clock (answers ++ last))
  in_step {was} {old} {new} {answers} {last} walk open_ step clock from to none =
      let (doubt, ends) = step_ends step clock from to in (
        record { begins = was.kept; answered = pairs answers; reached = old.kept; in_doubt = doubt },
        record {
          begins = refl;
          last = old;
          reached = refl;
          used = walk_used walk;
          is_open = walk_open walk open_;
          ends = ends;
        },
        sym (told_append clock answers last ∙ ap (λ t. told_by clock answers ++ t) none ∙ append-nil (told_by clock answers) ∙ walk_told walk clock from),
      )

  -- before the last step has ended, where stops before it are known
  before_end : {was old new : State} {answers last : List Answer} → Walk was answers old → was.closed ≡ false
      → ((clock : ℕ) → was.disk.clock ≤ clock → clock ≤ old.disk.clock → Stopped was (old.disk.was clock) (told_by clock answers))
      → Step old last new → (clock : ℕ) → was.disk.clock ≤ clock → clock < new.disk.clock
      → Stopped was (new.disk.was clock) (told_by clock (answers ++ last))
  before_end {was} {old} {new} {answers} {last} walk open_ earlier step clock from lt = elim (cases_lt clock old.disk.clock) [
    | inl before ↦ stopped_as was (old.disk.was clock) (new.disk.was clock) (told_by clock answers) (told_by clock (answers ++ last))
        ((step_goes step).past clock (omega (arith, before)))
        (told_append clock answers last ∙ ap (λ t. told_by clock answers ++ t) (step_untold step clock lt) ∙ append-nil (told_by clock answers))
        (earlier clock from (omega (arith, before)))
    | inr le ↦ in_step walk open_ step clock le (omega (arith, lt)) (step_untold step clock lt)
  ]

  pub walk_stopped : {was is : State} {answers : List Answer} → Walk was answers is → was.closed ≡ false → (clock : ℕ) → was.disk.clock ≤ clock
      → clock ≤ is.disk.clock → Stopped was (is.disk.was clock) (told_by clock answers)
  walk_stopped here open_ clock from to = stops_here here open_ clock (omega (arith, from, to))
  walk_stopped {was} {is} (more {answers} {last} {old} {new} walk step its) open_ clock from to = elim (cases_lt clock new.disk.clock) [
    | inl lt ↦ before_end walk open_ (walk_stopped walk open_) step clock from lt
    | inr le ↦ stops_here (more walk step its) open_ clock (omega (arith, le, to))
  ]

  -- and next a last step, of which the reply is told or not
  pub ended_stopped : {was old new : State} {answers last : List Answer} → Walk was answers old → was.closed ≡ false → Step old last new → (clock : ℕ)
      → was.disk.clock ≤ clock → clock ≤ new.disk.clock → Stopped was (new.disk.was clock) (told_by clock (answers ++ last))
  ended_stopped {was} {old} {new} {answers} {last} walk open_ step clock from to = elim (cases_lt clock new.disk.clock) [
    | inl lt ↦ before_end walk open_ (walk_stopped walk open_) step clock from lt
    | inr le ↦ at_end step (omega (arith, le, to))
  ]
    where
      at_end : {last : List Answer} → Step old last new → clock ≡ new.disk.clock → Stopped was (new.disk.was clock) (told_by clock (answers ++ last))
      at_end (questioned asked) e = stops_here (more walk (questioned asked) tt) open_ clock e
      at_end (nothing same) e = stops_here (more walk (nothing same) tt) open_ clock e
      at_end (commanded command said moment turn same) e = elim (told_or_not command said) [
        | inl none ↦ in_step walk open_ (commanded command said moment turn same) clock (omega (arith, e, turn.ahead.goes_on.later)) (omega (arith, e))
            (never_told clock (record { command = command; reply = said; moment = moment }) none)
        | inr its ↦ stops_here (more walk (commanded command said moment turn same) (its, tt)) open_ clock e
      ]
