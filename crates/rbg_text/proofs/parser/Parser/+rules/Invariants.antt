use Rattle.std.proofs.Common.{◌≡◌, ◌+◌, ◌-◌, ◌*◌}
use Rattle.rbg_text.specs.lemmas.Parse.{expr, concat, elements, branches, rules_to}
use Rattle.rbg_text.proofs.parser.Parser.+rules.Given as goal

abbrev pub decreases-rules : goal.decreases-rules
decreases-rules l = 6 * l.depth

abbrev pub decreases-pattern : goal.decreases-pattern
decreases-pattern l = 6 * l.depth + 1

abbrev pub decreases-brace : goal.decreases-brace
decreases-brace l = 6 * l.depth + 2

abbrev pub decreases-base : goal.decreases-base
decreases-base l = 6 * l.depth + 3

abbrev pub decreases-element : goal.decreases-element
decreases-element l = 6 * l.depth + 4

abbrev pub decreases-concat : goal.decreases-concat
decreases-concat l = 6 * l.depth + 5

abbrev pub invariant-concat-loop-turn : goal.invariant-concat-loop-turn
invariant-concat-loop-turn l = concat (rules_to l.depth) (expr l.depth) l.fn.self ≡ elements (rules_to l.depth) (expr l.depth) (l._turn-end - l._turn) l.self

abbrev pub invariant-rules-loop-turn : goal.invariant-rules-loop-turn
invariant-rules-loop-turn l = rules_to l.depth l.fn.self ≡ branches (rules_to (l.depth - 1)) (expr (l.depth - 1)) (l._turn-end - l._turn) l.self
