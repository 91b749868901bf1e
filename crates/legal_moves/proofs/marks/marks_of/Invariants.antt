use Rattle.std.proofs.Common.{◌≡◌, ◌==◌, ℕ, false, slice_index_or, take}
use Rattle.std.specs.List.{list_any}
use Rattle.legal_moves.proofs.marks.marks_of.Given as goal

abbrev pub invariant-loop-place : goal.invariant-loop-place
invariant-loop-place l = (k : ℕ) → slice_index_or l.row.items k false ≡ list_any (λ j. j == k) (take l.place-index l.places)
