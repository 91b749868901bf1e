use Rattle.std.proofs.Common.{◌≡◌, ◌-◌}
use Rattle.rbg_text.specs.lemmas.Parse.{turns, assignments, expr}
use Rattle.rbg_text.proofs.parser.Parser.assignments.Given as goal

abbrev pub invariant-loop-turn : goal.invariant-loop-turn
invariant-loop-turn l = assignments (expr l.depth) (turns l.fn.self) l.fn.self ≡ assignments (expr l.depth) (l._turn-end - l._turn) l.self
