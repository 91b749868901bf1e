use Rattle.std.proofs.Common.{◌≡◌, ℕ, Some, length, slice_get}
use Rattle.std.specs.Prelude.{IfSome}
use Rattle.retrograde.specs.Stored.{IsTable, view_of}
use Rattle.legal_moves.specs.Compiled.{compiled_game, packing_kind}
use Rattle.best_line.specs.lemmas.Found.{IsToldMove}
use Rattle.best_line.specs.declared.known.KnownMove.{KnownMove}
use Rattle.table.specs.Frames.{IsRead}
use Rattle.best_line.proofs.moves.told_moves.Given as goal

abbrev pub invariant-loop-k : goal.invariant-loop-k
invariant-loop-k g l = record {
  read : IsRead g.T.Table.stored g.T.Table.is_honest g.T.Table.counted g.T.Table.stays l.fn.table l.table;
  lengths : length l.known.items ≡ l.k;
  told : g.T.Table.is_honest l.fn.table → IsTable (g.T.Table.stored l.fn.table)
      → (k : ℕ) (move : KnownMove) → slice_get l.known.items k ≡ Some move
      → IfSome (slice_get l.moves k) (λ m. IsToldMove (packing_kind l.compiled) (compiled_game l.compiled) (view_of (g.T.Table.stored l.fn.table)) m move);
}
