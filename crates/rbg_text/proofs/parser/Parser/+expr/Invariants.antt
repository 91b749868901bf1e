use Rattle.std.proofs.Common.{◌≡◌, ◌+◌, ◌-◌, ◌*◌}
use Rattle.rbg_text.specs.lemmas.Parse.{term, factors, terms, expr}
use Rattle.rbg_text.proofs.parser.Parser.+expr.Given as goal

abbrev pub decreases-expr : goal.decreases-expr
decreases-expr l = 4 * l.depth

abbrev pub decreases-atom : goal.decreases-atom
decreases-atom l = 4 * l.depth + 1

abbrev pub decreases-factor : goal.decreases-factor
decreases-factor l = 4 * l.depth + 2

abbrev pub decreases-term : goal.decreases-term
decreases-term l = 4 * l.depth + 3

abbrev pub invariant-term-loop-turn : goal.invariant-term-loop-turn
invariant-term-loop-turn l = term (expr l.depth) l.fn.self ≡ factors (expr l.depth) (l._turn-end - l._turn) l.self

abbrev pub invariant-expr-loop-turn : goal.invariant-expr-loop-turn
invariant-expr-loop-turn l = expr l.depth l.fn.self ≡ terms (expr (l.depth - 1)) (l._turn-end - l._turn) l.self
