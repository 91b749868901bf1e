use Rattle.std.proofs.Common.{◌≡◌, ◌-◌}
use Rattle.rbg_text.specs.lemmas.Parse.{turns, pieces}
use Rattle.rbg_text.proofs.parser.Parser.pieces.Given as goal

abbrev pub invariant-loop-turn : goal.invariant-loop-turn
invariant-loop-turn l = pieces (turns l.fn.self) l.fn.self ≡ pieces (l._turn-end - l._turn) l.self
