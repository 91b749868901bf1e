-- Why a question is refused has a cause in brief too.
use Rattle.std.specs.Prelude.{◌≡◌, ℕ, ◌≤◌, List, length, Option, None, Some, IsSome, IsTrue, false}
use Rattle.std.proofs.Common.{refl, sym, subst, inl, inr, arith}
use Rattle.std.proofs.lemmas.Bool.{cases_lt}
use Rattle.legal_moves.specs.Searches.{IsWide}
use Rattle.retrograde.specs.Stored.{view_of}
use Rattle.game_file.specs.Kept.{Kept}
use Rattle.game_file.specs.State.{State}
use Rattle.solver.specs.Audits.{AuditCause, HasWidePosition}
use Rattle.solver.specs.Moves.{MovesCause, HasWideNumber}
use Rattle.solver.specs.Queries.{OfKept, IsThere, NumberCause, LineCause, ShowCause, FindCause}
use Rattle.solver.specs.declared.fault.SolverFault.{SolverFault}
use Rattle.solver.specs.declared.fault.SolverFault.TheVariants.{Disk, Damaged, OutOfMemory, Closed, NoGame, TooWide}
use Rattle.solver.specs.declared.fault.SolverFault.TheVariants.{Inconsistent, NoSuchPosition, NotSettled, BadPosition}
use Rattle.headline.specs.Tables.{BriefTable, ComesTo, HasNoNumber, IsUnsettledAt}
use Rattle.headline.specs.Tables.{RefusesNumber, RefusesLine, RefusesMoves, RefusesPosition, RefusesAudit}
use Rattle.headline.specs.lemmas.Causes.{known_reached, told_comes, none_told, open_not_shut}
use Rattle.headline.specs.lemmas.Told.{IsToldBy, brief_of, same_length}

-- no known position has the number
unknown_told : (kept : Option Kept) (table : Option BriefTable) → IsToldBy kept table → (number : ℕ)
    → OfKept (λ k. ¬ IsThere number k) kept → HasNoNumber number table
unknown_told None table told number none = absurd none
unknown_told (Some kept) table (sound, is) number none = subst (λ (t : Option BriefTable). HasNoNumber number t) (sym is) beyond
  where
    beyond : length (brief_of kept sound).view.known ≤ number
    beyond = elim (cases_lt number (length kept.table.positions)) [
      | inl less ↦ absurd (none less)
      | inr past ↦ omega (arith, past, same_length kept sound)
    ]

-- the position with the number is not settled
unsettled_told : (kept : Option Kept) (table : Option BriefTable) → IsToldBy kept table → (number : ℕ)
    → OfKept (λ k. IsThere number k × ((view_of k.table).value number ≡ None)) kept → IsUnsettledAt number table
unfolding brief_of
unsettled_told None table told number has = absurd has
unsettled_told (Some kept) table (sound, is) number has = subst (λ (t : Option BriefTable). IsUnsettledAt number t) (sym is) has.1

-- it is too wide, and so play comes to such a position
wide_told : (kept : Option Kept) (table : Option BriefTable) → IsToldBy kept table → (number : ℕ) → OfKept (HasWideNumber number) kept
    → ComesTo table IsWide
wide_told None table told number wide = absurd wide
wide_told (Some kept) table ((game, is_read, local), is) number wide =
    let (x, there, (at, here, is_wide)) = wide game is_read in
    told_comes kept table ((game, is_read, local), is) IsWide at (known_reached kept game is_read kept.table local number x there at here) is_wide

-- some position is
somewhere_wide_told : (kept : Option Kept) (table : Option BriefTable) → IsToldBy kept table → OfKept HasWidePosition kept → ComesTo table IsWide
somewhere_wide_told None table told wide = absurd wide
somewhere_wide_told (Some kept) table ((game, is_read, local), is) wide =
    let (i, x, there, expanded, (at, here, is_wide)) = wide game is_read in
    told_comes kept table ((game, is_read, local), is) IsWide at (known_reached kept game is_read kept.table local i x there at here) is_wide

-- a game is loaded
loaded_told : (Such : Kept → Type 0) (kept : Option Kept) (table : Option BriefTable) → IsToldBy kept table → OfKept Such kept → IsSome table
loaded_told Such None table told has = absurd has
loaded_told Such (Some kept) table (sound, is) has = subst (λ (t : Option BriefTable). IsSome t) (sym is) refl

module _ (old new : State) (table : Option BriefTable) (told : IsToldBy old.kept table) (honest : IsTrue old.disk.honest) (is_open : old.closed ≡ false) where
  -- why nothing is told of a number
  pub why_number : (number : ℕ) (fault : SolverFault) → NumberCause number old new fault → RefusesNumber number table fault
  why_number number Disk cause = tt
  why_number number Damaged cause = absurd (cause honest)
  why_number number OutOfMemory cause = tt
  why_number number Closed cause = absurd (open_not_shut old.closed is_open cause)
  why_number number NoGame cause = none_told old.kept table told cause.1
  why_number number NoSuchPosition cause = unknown_told old.kept table told number (cause.1 honest)
  why_number number fault cause = absurd cause

  -- nor its text
  pub why_show : (number : ℕ) (fault : SolverFault) → ShowCause number old new fault → RefusesNumber number table fault
  why_show number Inconsistent cause = absurd (cause honest told.0)
  why_show number fault cause = why_number number fault cause

  -- nor its best line
  pub why_line : (number : ℕ) (fault : SolverFault) → LineCause number old new fault → RefusesLine number table fault
  why_line number NotSettled cause = unsettled_told old.kept table told number (cause honest)
  why_line number Inconsistent cause = absurd (cause.0 honest told.0)
  why_line number TooWide cause = absurd (cause.0 honest told.0)
  why_line number fault cause = why_number number fault cause

  -- nor its moves
  pub why_moves : (number : ℕ) (fault : SolverFault) → MovesCause number old new fault → RefusesMoves number table fault
  why_moves number TooWide cause = wide_told old.kept table told number (cause honest)
  why_moves number Inconsistent cause = absurd (cause.0 honest told.0)
  why_moves number fault cause = why_number number fault cause

  -- nor the position with a text
  pub why_find : (text : List ℕ) (fault : SolverFault) → FindCause text old new fault → RefusesPosition table fault
  why_find text Disk cause = tt
  why_find text Damaged cause = absurd (cause honest)
  why_find text OutOfMemory cause = tt
  why_find text Closed cause = absurd (open_not_shut old.closed is_open cause)
  why_find text NoGame cause = none_told old.kept table told cause.1
  why_find text NoSuchPosition cause = loaded_told _ old.kept table told cause.0
  why_find text BadPosition cause = loaded_told _ old.kept table told cause
  why_find text fault cause = absurd cause

  -- nor whether the table is right
  pub why_audit : (fault : SolverFault) → AuditCause old new fault → RefusesAudit table fault
  why_audit Disk cause = tt
  why_audit Damaged cause = absurd (cause honest)
  why_audit OutOfMemory cause = tt
  why_audit Closed cause = absurd (open_not_shut old.closed is_open cause)
  why_audit NoGame cause = none_told old.kept table told cause.1
  why_audit TooWide cause = somewhere_wide_told old.kept table told (cause honest)
  why_audit fault cause = absurd cause
