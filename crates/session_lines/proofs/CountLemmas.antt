-- Every table has its line of counts.
use Rattle.std.proofs.Common.{inl, inr, refl, ℕ, List, [], ◌∷◌, ◌++◌, codes}
use Rattle.std.specs.Fmt.{decimal}
use Rattle.std.proofs.lemmas.Bool.Decides.{eqb_tells}
use Rattle.retrograde.specs.declared.records.Counts.{Counts}
use Rattle.session_lines.specs.Counted.{IsCountsLine, IsWorkLine, counts_text, finished, unfinished}

-- the counts of a table have an end
pub counts_end : (counts : Counts) → (end : List ℕ) × IsCountsLine counts (counts_text counts ++ end)
counts_end counts = elim (eqb_tells counts.expanded counts.known) [
  | inl all ↦ elim (eqb_tells counts.processed counts.settled) [
    | inl done ↦ (codes " finished" ++ 10 ∷ [], finished (all.1, done.1))
    | inr left ↦ (codes " open" ++ 10 ∷ [], unfinished (λ complete. left.1 complete.1))
  ]
  | inr left ↦ (codes " open" ++ 10 ∷ [], unfinished (λ complete. left.1 complete.0))
]

-- the line of work with these counts behind it
pub work_line : (units : ℕ) {counts : Counts} {line : List ℕ} → IsCountsLine counts line
    → IsWorkLine units counts (codes "units " ++ (decimal units ++ 32 ∷ line))
work_line units {counts} {line} are = record { counts_line = line; counts_are = are; line_is = refl }
