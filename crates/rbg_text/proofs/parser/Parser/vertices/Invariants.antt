use Rattle.std.proofs.Common.{◌≡◌, ◌-◌, map}
use Rattle.rbg_text.specs.lemmas.ParseSections.{vertices, all_vertices}
use Rattle.rbg_text.specs.Said.{vertex_view}
use Rattle.rbg_text.proofs.parser.Parser.vertices.Given as goal

abbrev pub invariant-loop-turn : goal.invariant-loop-turn
invariant-loop-turn l = all_vertices l.fn.self ≡ vertices (l._turn-end - l._turn) (map vertex_view l.all.items) l.self
