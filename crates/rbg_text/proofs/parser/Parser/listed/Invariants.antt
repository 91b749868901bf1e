use Rattle.std.proofs.Common.{◌≡◌, ◌-◌, map}
use Rattle.rbg_text.specs.lemmas.ParseSections.{items, listed}
use Rattle.rbg_text.proofs.parser.Parser.listed.Given as goal

abbrev pub invariant-loop-turn : goal.invariant-loop-turn
invariant-loop-turn g l = listed g.T.Item.grammar l.fn.self ≡ items g.T.Item.grammar (l._turn-end - l._turn) (map g.T.Item.said l.all.items) l.self
