use Rattle.std.proofs.Common.{map}
use Rattle.rbg_text.specs.Said.{section_view}
use Rattle.rbg_text.proofs.ReadSections.{found, none}
use Rattle.rbg_text.proofs.read.read_sections.Goals as goal

pub returns-clause-found : goal.returns-clause-found
returns-clause-found c = found (λ all.
    map section_view all.items) _ c.new-parser.result c.sections.new.self c.new-parser.ensures c.sections.result c.sections.ensures

pub returns-clause-none : goal.returns-clause-none
returns-clause-none c = none (λ all.
    map section_view all.items) _ c.new-parser.result c.sections.new.self c.new-parser.ensures c.sections.result c.sections.ensures
