use Rattle.std.proofs.Common.{◌≡◌, take}
use Rattle.std.specs.Prelude.{sum_by}
use Rattle.rbg_game.specs.Rules.{count}
use Rattle.rbg_game.specs.Meaning.{regex_of}
use Rattle.rbg_game.proofs.count.+action_count.Given as goal

abbrev pub decreases-action_count : goal.decreases-action_count
decreases-action_count l = goal.size-action_count l

abbrev pub invariant-loop-part : goal.invariant-loop-part
invariant-loop-part l = l.total ≡ sum_by (λ e. count (regex_of e)) (take l.part-index l.part-items)

abbrev pub invariant-loop-branch : goal.invariant-loop-branch
invariant-loop-branch l = l.total ≡ sum_by (λ e. count (regex_of e)) (take l.branch-index l.branch-items)
