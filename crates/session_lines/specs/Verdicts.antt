-- The line that tells what an audit found.
use Rattle.std.specs.Prelude.{◌≡◌, ℕ, List, [], ◌∷◌, ◌++◌, codes}
use Rattle.std.specs.Fmt.{decimal}
use Rattle.retrograde.specs.declared.records.Counts.{Counts}
use Rattle.best_line.specs.Values.{IsComplete}
use Rattle.audit.specs.declared.verdict.Reason.{Reason}
use Rattle.audit.specs.declared.verdict.Reason.TheVariants.{A1, A2, A3, A4, A5, A6, A7}
use Rattle.audit.specs.declared.verdict.Verdict.{Verdict}
use Rattle.audit.specs.declared.verdict.Verdict.TheVariants.{Right, Wrong}

-- the code of a condition
abbrev pub code_of_reason : Reason → List ℕ
code_of_reason A1 = codes "A1"
code_of_reason A2 = codes "A2"
code_of_reason A3 = codes "A3"
code_of_reason A4 = codes "A4"
code_of_reason A5 = codes "A5"
code_of_reason A6 = codes "A6"
code_of_reason A7 = codes "A7"

-- the table is right, and nothing is left to do, or something is
pub data IsRightLine (counts : Counts) : List ℕ → Type 0 where
  finished : IsComplete counts → IsRightLine counts (codes "audit right finished" ++ 10 ∷ [])
  unfinished : ¬ IsComplete counts → IsRightLine counts (codes "audit right open" ++ 10 ∷ [])

-- the line of a table that is wrong at this number, by this condition
abbrev pub wrong_line : ℕ → Reason → List ℕ
wrong_line number reason = codes "audit wrong " ++ (decimal number ++ 32 ∷ (code_of_reason reason ++ 10 ∷ []))

-- the line of a verdict: right, or the lowest number that fails, with the code of the lowest condition that fails there
abbrev pub IsVerdictLine : Counts → Verdict → List ℕ → Type 0
IsVerdictLine counts Right line = IsRightLine counts line
IsVerdictLine counts (Wrong number reason) line = line ≡ wrong_line number reason
