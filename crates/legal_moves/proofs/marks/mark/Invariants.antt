use Rattle.std.proofs.Common.{◌≡◌, ℕ, ◌-◌, suc, false, slice_index_or, length}
use Rattle.legal_moves.proofs.marks.mark.Given as goal

abbrev pub invariant-loop-row : goal.invariant-loop-row
invariant-loop-row l = (j : ℕ) → slice_index_or l.row.items j false ≡ slice_index_or l.initial.row.items j false

abbrev pub decreases-loop-row : goal.decreases-loop-row
decreases-loop-row l = suc l.at - length l.row.items
