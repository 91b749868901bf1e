-- What the sections of a text say, with the rules as steps in postfix order.
use Rattle.std.specs.Prelude.{List, [], ◌∷◌, map}
use Rattle.rbg_text.specs.Token.{Text}
use Rattle.rbg_text.specs.Syntax as syntax
use Rattle.rbg_text.specs.Syntax.{Declaration, WrittenVertex, WrittenArrow}
use Rattle.rbg_text.specs.Parse.{ParseStep}
use Rattle.rbg_text.specs.Postfix.{sum_onto}
use Rattle.rbg_text.specs.View.{step_view}
use Rattle.rbg_text.specs.declared.sections.Declaration.{Declaration as CodeDeclaration}
use Rattle.rbg_text.specs.declared.sections.Arrow.{Arrow as CodeArrow}
use Rattle.rbg_text.specs.declared.sections.Vertex.{Vertex as CodeVertex}
use Rattle.rbg_text.specs.declared.sections.Section.{Section as CodeSection}
use Rattle.rbg_text.specs.declared.sections.Section.TheVariants as code

pub data Said : Type 0 where
  players : List Declaration → Said
  pieces : List Text → Said
  variables : List Declaration → Said
  board : List WrittenVertex → Said
  rules : List ParseStep → Said

-- a vertex after the first, without its comma
abbrev pub further_vertex : syntax.Further → WrittenVertex
further_vertex (syntax.after_comma v) = v
further_vertex (syntax.at_once v) = v

-- what a section of the grammar says
abbrev pub said_of : syntax.Section → Said
said_of (syntax.players first more) = players (first ∷ more)
said_of (syntax.pieces first more) = pieces (first ∷ more)
said_of (syntax.variables all) = variables all
said_of (syntax.board first more) = board (first ∷ map further_vertex more)
said_of (syntax.rules s) = rules (sum_onto s [])

abbrev pub declaration_view : CodeDeclaration → Declaration
declaration_view d = record { name = d.name.now; bound = d.bound.now }

abbrev pub arrow_view : CodeArrow → WrittenArrow
arrow_view a = record { label = a.label.now; to = a.to.now }

abbrev pub vertex_view : CodeVertex → WrittenVertex
vertex_view v = record { name = v.name.now; piece = v.piece.now; arrows = map arrow_view v.arrows.items }

-- what a section of the program says
abbrev pub section_view : CodeSection → Said
section_view (code.Players all) = players (map declaration_view all.items)
section_view (code.Pieces all) = pieces (map (λ w. w.now) all.items)
section_view (code.Variables all) = variables (map declaration_view all.items)
section_view (code.Board all) = board (map vertex_view all.items)
section_view (code.Rules all) = rules (map step_view all.items)
