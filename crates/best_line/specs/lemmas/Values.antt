-- The value of a position that is not settled, by the counts alone.
use Rattle.retrograde.specs.declared.records.Counts.{Counts}
use Rattle.best_line.specs.declared.answers.Value.{Value}
use Rattle.best_line.specs.declared.answers.Value.TheVariants.{Won, Drawn, Open}
use Rattle.best_line.specs.Values.{IsComplete}

-- with these counts one that is not settled is drawn if nothing is left to do, and else open
abbrev pub IsUnsettled : Counts → Value → Type 0
IsUnsettled counts (Won w n) = ⊥
IsUnsettled counts Drawn = IsComplete counts
IsUnsettled counts Open = ¬ IsComplete counts
