use Rattle.std.proofs.Common.{ℕ, ◌<◌, get_or}
use Rattle.certificate.specs.Lists.{line_of, lines_in}
use Rattle.certificate.specs.Shown.{Follows, IsSearched}
use Rattle.certificate.specs.declared.ranked.Ranked.{Ranked}
use Rattle.certificate.proofs.whole.first_not_following.Given as goal

abbrev pub invariant-loop-index : goal.invariant-loop-index
invariant-loop-index g l =
    ((k : ℕ) (d : Ranked) → k < l.index → Follows (g.M.GameGraph.graph l.source) l.manner l.player (lines_in l.list) (line_of (get_or l.list k d)))
    × ((k : ℕ) (d : Ranked) → k < l.index → IsSearched l.manner (line_of (get_or l.list k d)) → ¬ g.M.GameGraph.is_wide l.source (get_or l.list k d).at.items)
