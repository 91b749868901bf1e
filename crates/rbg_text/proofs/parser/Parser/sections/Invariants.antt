use Rattle.std.proofs.Common.{◌≡◌, ◌-◌, [], map}
use Rattle.rbg_text.specs.lemmas.Parse.{turns}
use Rattle.rbg_text.specs.lemmas.ParseSections.{sections}
use Rattle.rbg_text.specs.Said.{section_view}
use Rattle.rbg_text.proofs.parser.Parser.sections.Given as goal

abbrev pub invariant-loop-turn : goal.invariant-loop-turn
invariant-loop-turn l = sections (turns l.fn.self) [] l.fn.self ≡ sections (l._turn-end - l._turn) (map section_view l.all.items) l.self
