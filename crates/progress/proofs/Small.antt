-- The small game is within the limits, and enough work finds that white wins its start in two.
use Rattle.std.proofs.Common.{◌≡◌, ℕ, ◌≤◌, ◌^◌, List, Option, None, Some, refl, sym, subst, arith}
use Rattle.rbg_game.specs.declared.roles.Player.{Player}
use Rattle.rbg_game.specs.declared.roles.Player.TheVariants.{First}
use Rattle.rbg_read.specs.Reads.{Reads}
use Rattle.position_pack.specs.declared.kind.PackingKind.{PackingKind}
use Rattle.legal_moves.specs.Sources.{IsWideAt, graph_of}
use Rattle.retrograde.specs.Graph.{IsReachable}
use Rattle.retrograde.specs.Stored.{view_of}
use Rattle.retrograde.specs.Values.{WonIn, Drawn}
use Rattle.retrograde.specs.View.{HasNumber, HasValue, IsFinished}
use Rattle.game_file.specs.Kept.{Kept}
use Rattle.solver.specs.Headline.{SaysWhatIs}
use Rattle.solver.specs.Held.{graph_in, wide_in}
use Rattle.witness.specs.Game.{witness_text, witness_game}
use Rattle.witness.proofs.Positions.{graph, all, comes, is_among, no_choice, no_width}
use Rattle.witness.proofs.TextReads.{witness_read}
use Rattle.witness.proofs.Win.{only_in_two, not_drawn}
use Rattle.progress.specs.Enough.{HasAtMost}
use Rattle.progress.specs.Limits.{IsWithinLimits}

-- play comes to four positions, however they are packed
four : (kind : PackingKind) (n : ℕ) → 4 ≤ n → HasAtMost (graph kind) n
four kind n enough = record {
  positions = all kind;
  as_many = enough;
  each = λ x reached. is_among kind x (comes kind x reached);
}

within : (kind : PackingKind) → IsWithinLimits (graph kind) (IsWideAt kind witness_game)
within kind = record {
  narrow = λ x reached wide. no_width kind x (comes kind x reached) wide;
  forced = λ x reached choice. no_choice kind x (comes kind x reached) choice;
  few = four kind (2 ^ 24) (omega arith);
}

pub the_small_game_is_within_limits : (kept : Kept) → kept.goal ≡ None → IsWithinLimits (graph_in witness_game kept) (wide_in witness_game kept)
the_small_game_is_within_limits kept goal =
    subst (λ (g : Option ℕ). IsWithinLimits (graph_of kept.packing g witness_game) (IsWideAt kept.packing witness_game)) (sym goal) (within kept.packing)

pub the_small_game_has_four : (kept : Kept) → kept.goal ≡ None → HasAtMost (graph_in witness_game kept) 4
the_small_game_has_four kept goal =
    subst (λ (g : Option ℕ). HasAtMost (graph_of kept.packing g witness_game) 4) (sym goal) (four kept.packing 4 (omega arith))

pub the_text_is_read : (kept : Kept) → kept.text ≡ witness_text → Reads kept.text witness_game
the_text_is_read kept text = subst (λ (t : List ℕ). Reads t witness_game) (sym text) witness_read

-- what a finished table of it says of the start
pub white_wins : (kept : Kept) → kept.goal ≡ None → IsFinished (view_of kept.table) → SaysWhatIs kept witness_game
    → HasValue (view_of kept.table) (graph_in witness_game kept).start First 2
white_wins kept goal finished says =
    let (i, number) = (says.all finished (graph_in witness_game kept).start).1 IsReachable.at_start in
    go i number ((view_of kept.table).value i) refl
  where
    won : (w : Player) (n : ℕ) → WonIn (graph_in witness_game kept) w n (graph_in witness_game kept).start → (w ≡ First) × (n ≡ 2)
    won w n is =
        only_in_two kept.packing w n
        (subst (λ (g : Option ℕ). WonIn (graph_of kept.packing g witness_game) w n (graph_of kept.packing g witness_game).start) goal is)

    go : (i : ℕ) → HasNumber (view_of kept.table) i (graph_in witness_game kept).start → (value : Option (Player × ℕ))
        → (view_of kept.table).value i ≡ value → HasValue (view_of kept.table) (graph_in witness_game kept).start First 2
    go i number None none =
        absurd (not_drawn kept.packing
        (subst (λ (g : Option ℕ). Drawn (graph_of kept.packing g witness_game) (graph_of kept.packing g witness_game).start) goal
        ((says.drawn finished i (graph_in witness_game kept).start number).0 none)))
    go i number (Some (w, n)) some =
        let (first, two) = won w n (says.won (graph_in witness_game kept).start w n (i, number, some)) in (
          i,
          number,
          subst (λ (v : Player). (view_of kept.table).value i ≡ Some (v, 2)) first
              (subst (λ (m : ℕ). (view_of kept.table).value i ≡ Some (w, m)) two some),
        )
