-- The game of a table is read, and its positions are looked at.
use Rattle.std.proofs.Common.{◌≡◌, ◌↔◌, ℕ, Bool, true, false, List, Option, None, Some, refl, sym, ◌∙◌, subst}
use Rattle.std.proofs.lemmas.Option.{same_Some}
use Rattle.rbg_game.specs.Games.{Game}
use Rattle.rbg_read.specs.Reads.{Reads}
use Rattle.position_pack.specs.declared.kind.PackingKind.{PackingKind}
use Rattle.legal_moves.specs.Compiled.{compiled_game, packing_kind}
use Rattle.legal_moves.specs.declared.compiled.Compiled.{Compiled}
use Rattle.retrograde.specs.Stored.{Stored}
use Rattle.game_table.specs.Tables.{ArePositions}
use Rattle.game_file.specs.Kept.{Kept, text_kept, packing_kept}
use Rattle.game_file.specs.Causes.{FileTableCause}
use Rattle.game_file.specs.State.{State}
use Rattle.table.specs.Faults.{NeedsNoPage}
use Rattle.table.specs.declared.fault.TableFault.{TableFault}
use Rattle.table.specs.declared.fault.TableFault.TheVariants as table
use Rattle.solver.specs.Faults.{table_fault}
use Rattle.solver.specs.Held.{IsOfAGame}
use Rattle.solver.specs.lemmas.Ready.{NoGameCause}
use Rattle.solver.proofs.Refusals.{apart}

-- a file with a text keeps something
pub kept_with : (kept : Option Kept) (text : List ℕ) → text_kept kept ≡ Some text → (k : Kept) × (kept ≡ Some k)
kept_with None text has = absurd (cc)
kept_with (Some k) text has = (k, refl)

module _ (text : List ℕ) (packing : PackingKind) (compiled : Compiled) (is_read : Reads text (compiled_game compiled))
    (kind : packing_kind compiled ≡ packing) (stored : Stored (List ℕ)) (are : Bool)
    (tells : (are ≡ true) ↔ ArePositions (packing_kind compiled) (compiled_game compiled) stored) where
  -- the packing of the table is that of the game in memory
  same_kind : (k : Kept) → packing_kept (Some k) ≡ Some packing → packing_kind compiled ≡ k.packing
  same_kind k packed = kind ∙ sym (same_Some k.packing packing packed)

  -- its positions are those of the game that the text reads to
  pub of_a_game : (kept : Option Kept) → text_kept kept ≡ Some text → packing_kept kept ≡ Some packing
      → ((k : Kept) → kept ≡ Some k → stored ≡ k.table) → are ≡ true → IsOfAGame kept
  of_a_game None has packed same yes_ = absurd (cc)
  of_a_game (Some k) has packed same yes_ = (
    compiled_game compiled,
    record {
      reads = subst (λ (t : List ℕ). Reads t (compiled_game compiled)) (sym (same_Some k.text text has)) is_read;
      positions = subst (λ (s : Stored (List ℕ)). ArePositions k.packing (compiled_game compiled) s) (same k refl)
          (subst (λ (p : PackingKind). ArePositions p (compiled_game compiled) stored) (same_kind k packed) (tells.0 yes_));
    },
  )

  -- or they are not
  pub of_no_game : (kept : Option Kept) → text_kept kept ≡ Some text → packing_kept kept ≡ Some packing → ((k : Kept) → kept ≡ Some k → stored ≡ k.table)
      → ((game : Game) → Reads text game → compiled_game compiled ≡ game) → are ≡ false → IsOfAGame kept → ⊥
  of_no_game None has packed same one no_ it = absurd (cc)
  of_no_game (Some k) has packed same one no_ (game, of) =
      let is_game : compiled_game compiled ≡ game = one game (subst (λ (t : List ℕ). Reads t game) (same_Some k.text text has) of.reads) in
      apart are no_
      (tells.1 (subst (λ (p : PackingKind). ArePositions p (compiled_game compiled) stored) (sym (same_kind k packed))
      (subst (λ (s : Stored (List ℕ)). ArePositions k.packing (compiled_game compiled) s) (sym (same k refl))
      (subst (λ (g : Game). ArePositions k.packing g k.table) (sym is_game) of.positions))))

-- why the positions of a file could not be looked at
pub no_game_cause : (old new : State) (fault : TableFault) → NeedsNoPage fault → FileTableCause old new fault → NoGameCause old new.failures (table_fault fault)
no_game_cause old new table.Disk no_page cause = cause
no_game_cause old new table.Damaged no_page cause = λ honest. absurd (cause honest)
no_game_cause old new table.TableFull no_page cause = absurd (no_page refl)
no_game_cause old new table.OutOfMemory no_page cause = tt
no_game_cause old new table.Closed no_page cause = cause
