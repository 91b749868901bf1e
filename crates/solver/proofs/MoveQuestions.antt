-- The moves of a known position are answered from what is kept.
use Rattle.std.proofs.Common.{◌≡◌, ℕ, List, slice_get, Some, refl, subst, sym}
use Rattle.std.specs.Prelude.{IsTrue}
use Rattle.std.proofs.lemmas.Option.{slice_get_within}
use Rattle.rbg_game.specs.Games.{Game}
use Rattle.position_pack.specs.declared.kind.PackingKind.{PackingKind}
use Rattle.legal_moves.specs.Sources.{IsPositionBytes, IsWideAt}
use Rattle.legal_moves.specs.Compiled.{compiled_game, packing_kind, compiled_goal}
use Rattle.legal_moves.specs.declared.compiled.Compiled.{Compiled}
use Rattle.retrograde.specs.Stored.{Stored, IsTable, view_of}
use Rattle.retrograde.specs.View.{HasNumber}
use Rattle.table.specs.Faults.{NeedsNoPage}
use Rattle.table.specs.declared.fault.TableFault.{TableFault}
use Rattle.table.specs.declared.fault.TableFault.TheVariants as table
use Rattle.best_line.specs.Values.{IsValue}
use Rattle.best_line.specs.declared.answers.Value.{Value}
use Rattle.best_line.specs.KnownCauses.{FaultOfTable}
use Rattle.best_line.specs.Moves.{AreKnownMoves}
use Rattle.best_line.specs.declared.known_fault.KnownMovesFault.{KnownMovesFault}
use Rattle.best_line.specs.declared.known_fault.KnownMovesFault.TheVariants as moves
use Rattle.best_line.specs.declared.known.KnownMoves.{KnownMoves}
use Rattle.game_file.specs.Causes.{FileTableCause}
use Rattle.game_file.specs.Kept.{Kept}
use Rattle.game_file.specs.State.{State}
use Rattle.game_table.specs.Texts.{IsText}
use Rattle.game_table.specs.lemmas.Laws.{starts_are_positions, sound_tables_fit}
use Rattle.solver.specs.Faults.{moves_fault, table_fault}
use Rattle.solver.specs.Held.{IsSound}
use Rattle.solver.specs.Moves.{HasMoves, HasWideNumber, HasNoPosition, HasValueByText, MovesCause}
use Rattle.solver.specs.Queries.{OfKept, NumberCause}
use Rattle.solver.specs.State.{IsMadeOf}
use Rattle.solver.specs.declared.fault.SolverFault.{SolverFault}
use Rattle.solver.specs.declared.fault.SolverFault.TheVariants as solver
use Rattle.solver.proofs.Work.{of_any, sound_here}

-- the table in hand is the one that is kept, and the game in memory is made of its text
module _ (k : Kept) (stored : Stored (List ℕ)) (same : stored ≡ k.table) (compiled : Compiled) (made : IsMadeOf compiled k) (number : ℕ) where
  -- its moves are those by the game that the text reads to
  pub moves_found : (known : KnownMoves) → IsTable k.table
      → (IsTable stored → AreKnownMoves (packing_kind compiled) (compiled_game compiled) (view_of stored) number known) → HasMoves number known k
  moves_found known fits found = record {
    game = compiled_game compiled;
    reads = made.reads;
    moves =
        of_any compiled k made (λ p w g. AreKnownMoves p g (view_of k.table) number known) (compiled_game compiled) made.reads
        (subst (λ (t : Stored (List ℕ)). AreKnownMoves (packing_kind compiled) (compiled_game compiled) (view_of t) number known) same
        (found (subst (λ (t : Stored (List ℕ)). IsTable t) (sym same) fits)));
  }

  abbrev IsWideIn : PackingKind → Game → Stored (List ℕ) → Type 0
  IsWideIn kind game t = (x : List ℕ) × HasNumber (view_of t) number x × IsWideAt kind game x

  abbrev IsNoneIn : PackingKind → Game → Stored (List ℕ) → Type 0
  IsNoneIn kind game t = (x : List ℕ) × HasNumber (view_of t) number x × (¬ IsPositionBytes kind game x)

  pub wide_number : IsWideIn (packing_kind compiled) (compiled_game compiled) stored → HasWideNumber number k
  wide_number wide = λ game read.
      of_any compiled k made (λ p w g. IsWideIn p g k.table) game read
      (subst (λ (t : Stored (List ℕ)). IsWideIn (packing_kind compiled) (compiled_game compiled) t) same wide)

  pub no_position : IsNoneIn (packing_kind compiled) (compiled_game compiled) stored → HasNoPosition number k
  no_position none = λ game read.
      of_any compiled k made (λ p w g. IsNoneIn p g k.table) game read
      (subst (λ (t : Stored (List ℕ)). IsNoneIn (packing_kind compiled) (compiled_game compiled) t) same none)

  -- a sound table has positions alone
  pub not_sound : IsNoneIn (packing_kind compiled) (compiled_game compiled) stored → IsSound (Some k) → ⊥
  not_sound (x, at, none) sound =
      let game = compiled_game compiled in
      let (positions, fits) = sound_tables_fit (packing_kind compiled) (compiled_goal compiled) game k.table
      (starts_are_positions k.text game made.reads) (sound_here compiled k made sound) in
      none (positions number x (subst (λ (t : Stored (List ℕ)). slice_get t.positions number ≡ Some x) same at))

-- the value of the position that has this text
pub value_told : (k : Kept) (stored : Stored (List ℕ)) → stored ≡ k.table → (compiled : Compiled) → IsMadeOf compiled k → (bytes text : List ℕ) (number : ℕ)
    (value : Value) → IsText (packing_kind compiled) (compiled_game compiled) bytes text
    → HasNumber (view_of stored) number bytes × IsValue (view_of stored) number value → HasValueByText text value k
value_told k stored same compiled made bytes text number value it (known, worth) =
    let here : slice_get k.table.positions number ≡ Some bytes = subst (λ (t : Stored (List ℕ)). slice_get t.positions number ≡ Some bytes) same known in
    record {
      number = number;
      has_text = record {
        game = compiled_game compiled;
        reads = made.reads;
        bytes = bytes;
        number_is = here;
        text_is = of_any compiled k made (λ p w g. IsText p g bytes text) (compiled_game compiled) made.reads it;
      };
      has_value = record {
        there = slice_get_within k.table.positions number bytes here;
        value_is = subst (λ (t : Stored (List ℕ)). IsValue (view_of t) number value) same worth;
      };
    }

module _ (old new : State) (number : ℕ) where
  pub moves_numbered : (fault : SolverFault) → NumberCause number old new fault → MovesCause number old new fault
  moves_numbered solver.TooWide cause = absurd cause
  moves_numbered solver.Inconsistent cause = absurd cause
  moves_numbered fault cause = cause

  table_cause : (fault : TableFault) → NeedsNoPage fault → FileTableCause old new fault → MovesCause number old new (table_fault fault)
  table_cause table.Disk no_page cause = cause
  table_cause table.Damaged no_page cause = cause
  table_cause table.TableFull no_page cause = absurd (no_page refl)
  table_cause table.OutOfMemory no_page cause = tt
  table_cause table.Closed no_page cause = cause

  -- why the moves are not given
  pub moves_cause : {Fails : TableFault → Type 0} (fault : KnownMovesFault)
      → (fault ≡ moves.TooWide → IsTrue old.disk.honest → OfKept (HasWideNumber number) old.kept)
      → (fault ≡ moves.Inconsistent → (IsTrue old.disk.honest → ¬ IsSound old.kept) × (IsTrue old.disk.honest → OfKept (HasNoPosition number) old.kept))
      → FaultOfTable NeedsNoPage fault → FaultOfTable Fails fault → ((f : TableFault) → Fails f → FileTableCause old new f)
      → MovesCause number old new (moves_fault fault)
  moves_cause moves.Inconsistent wide none no_page fails cause = none refl
  moves_cause moves.TooWide wide none no_page fails cause = wide refl
  moves_cause moves.OutOfMemory wide none no_page fails cause = tt
  moves_cause (moves.Table fault) wide none no_page fails cause = table_cause fault no_page (cause fault fails)
