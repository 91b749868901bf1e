-- The lines that tell how far a table is, and what work was done.
use Rattle.std.specs.Prelude.{◌≡◌, ℕ, List, [], ◌∷◌, ◌++◌, codes, Option, Some, None}
use Rattle.std.specs.Fmt.{decimal}
use Rattle.retrograde.specs.declared.records.Counts.{Counts}
use Rattle.best_line.specs.Values.{IsComplete}

-- how many positions are known, expanded, settled and processed
abbrev pub counts_text : Counts → List ℕ
counts_text counts =
    codes "known " ++ (decimal counts.known ++ (codes " expanded " ++ (decimal counts.expanded
    ++ (codes " settled " ++ (decimal counts.settled ++ (codes " processed " ++ decimal counts.processed))))))

-- the counts in a line, with `finished` at its end if nothing is left to do, and else `open`
pub data IsCountsLine (counts : Counts) : List ℕ → Type 0 where
  finished : IsComplete counts → IsCountsLine counts (counts_text counts ++ (codes " finished" ++ 10 ∷ []))
  unfinished : ¬ IsComplete counts → IsCountsLine counts (counts_text counts ++ (codes " open" ++ 10 ∷ []))

-- what `status` answers: the counts, or that no game is loaded
abbrev pub IsStatusLine : Option Counts → List ℕ → Type 0
IsStatusLine None line = line ≡ codes "no game" ++ 10 ∷ []
IsStatusLine (Some counts) line = IsCountsLine counts line

-- this many units were done, and how far the table is
pub record IsWorkLine (units : ℕ) (counts : Counts) (line : List ℕ) : Type 0 where
  pub counts_line : List ℕ
  pub counts_are : IsCountsLine counts counts_line
  pub line_is : line ≡ codes "units " ++ (decimal units ++ 32 ∷ counts_line)
