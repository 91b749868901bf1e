use Rattle.std.proofs.Common.{ℕ, List, map, Vec, Global, Bor, ap, sym, ◌∙◌}
use Rattle.rbg_text.specs.Said.{players, pieces, variables, board, rules, declaration_view, vertex_view, section_view}
use Rattle.rbg_text.specs.View.{step_view}
use Rattle.rbg_text.specs.lemmas.Parse.{and_then}
use Rattle.rbg_text.specs.declared.sections.Declaration.{Declaration}
use Rattle.rbg_text.specs.declared.sections.Vertex.{Vertex}
use Rattle.rbg_text.specs.declared.parser.Step.{Step}
use Rattle.rbg_text.specs.lemmas.ParseSections.{give}
use Rattle.rbg_text.proofs.Exits.{err_on}
use Rattle.rbg_text.proofs.Titles.{players_by, pieces_by, variables_by, board_by, rules_by, none_by}
use Rattle.rbg_text.proofs.parser.Parser.titled.Goals as goal

pub returns-in_ok-listed : goal.returns-in_ok-listed
returns-in_ok-listed c =
    players_by c.args.title.now c.args.self.now (sym c.is_word.ensures ∙ c.if-is_word.true)
    ∙ ap (λ o. and_then o (λ all. give (players all))) c.in_ok-listed.ensures

pub returns-in_err-listed : goal.returns-in_err-listed
returns-in_err-listed c =
    rw (players_by c.args.title.now c.args.self.now (sym c.is_word.ensures ∙ c.if-is_word.true))
    (err_on (λ (all : Vec Declaration Global). map declaration_view all.items) section_view _ (λ all. give (players all))
    c.in_err-listed.field-0.0 c.from_residual.result _ _ c.from_residual.ensures c.in_err-listed.ensures)

pub returns-in_ok-listed-2 : goal.returns-in_ok-listed-2
returns-in_ok-listed-2 c =
    pieces_by c.args.title.now c.args.self.now (sym c.is_word.ensures ∙ c.if-is_word.false) (sym c.is_word-else-is_word.ensures ∙ c.if-is_word-2.true)
    ∙ ap (λ o. and_then o (λ all. give (pieces all))) c.in_ok-listed-2.ensures

pub returns-in_err-listed-2 : goal.returns-in_err-listed-2
returns-in_err-listed-2 c =
    rw (pieces_by c.args.title.now c.args.self.now (sym c.is_word.ensures ∙ c.if-is_word.false) (sym c.is_word-else-is_word.ensures ∙ c.if-is_word-2.true))
    (err_on (λ (all : Vec (Bor (List ℕ)) Global). map (λ w. w.now) all.items) section_view _ (λ all. give (pieces all))
    c.in_err-listed-2.field-0.0 c.from_residual-in_err-listed-2.result _ _ c.from_residual-in_err-listed-2.ensures c.in_err-listed-2.ensures)

pub returns-in_ok-variables : goal.returns-in_ok-variables
returns-in_ok-variables c =
    variables_by c.args.title.now c.args.self.now (sym c.is_word.ensures ∙ c.if-is_word.false) (sym c.is_word-else-is_word.ensures ∙ c.if-is_word-2.false)
    (sym c.is_word-else-is_word-2.ensures ∙ c.if-is_word-3.true)
    ∙ ap (λ o. and_then o (λ all. give (variables all))) c.in_ok-variables.ensures

pub returns-in_err-variables : goal.returns-in_err-variables
returns-in_err-variables c =
    rw (variables_by c.args.title.now c.args.self.now (sym c.is_word.ensures ∙ c.if-is_word.false) (sym c.is_word-else-is_word.ensures ∙ c.if-is_word-2.false)
    (sym c.is_word-else-is_word-2.ensures ∙ c.if-is_word-3.true))
    (err_on (λ (all : Vec Declaration Global). map declaration_view all.items) section_view _ (λ all. give (variables all))
    c.in_err-variables.field-0.0 c.from_residual-in_err-variables.result _ _ c.from_residual-in_err-variables.ensures c.in_err-variables.ensures)

pub returns-in_ok-vertices : goal.returns-in_ok-vertices
returns-in_ok-vertices c =
    board_by c.args.title.now c.args.self.now (sym c.is_word.ensures ∙ c.if-is_word.false) (sym c.is_word-else-is_word.ensures ∙ c.if-is_word-2.false)
    (sym c.is_word-else-is_word-2.ensures ∙ c.if-is_word-3.false) (sym c.is_word-else-is_word-3.ensures ∙ c.if-is_word-4.true)
    ∙ ap (λ o. and_then o (λ all. give (board all))) c.in_ok-vertices.ensures

pub returns-in_err-vertices : goal.returns-in_err-vertices
returns-in_err-vertices c =
    rw (board_by c.args.title.now c.args.self.now (sym c.is_word.ensures ∙ c.if-is_word.false) (sym c.is_word-else-is_word.ensures ∙ c.if-is_word-2.false)
    (sym c.is_word-else-is_word-2.ensures ∙ c.if-is_word-3.false) (sym c.is_word-else-is_word-3.ensures ∙ c.if-is_word-4.true))
    (err_on (λ (all : Vec Vertex Global). map vertex_view all.items) section_view _ (λ all. give (board all))
    c.in_err-vertices.field-0.0 c.from_residual-in_err-vertices.result _ _ c.from_residual-in_err-vertices.ensures c.in_err-vertices.ensures)

pub returns-in_ok-steps : goal.returns-in_ok-steps
returns-in_ok-steps c =
    rules_by c.args.title.now c.args.self.now (sym c.is_word.ensures ∙ c.if-is_word.false) (sym c.is_word-else-is_word.ensures ∙ c.if-is_word-2.false)
    (sym c.is_word-else-is_word-2.ensures ∙ c.if-is_word-3.false) (sym c.is_word-else-is_word-3.ensures ∙ c.if-is_word-4.false)
    (sym c.is_word-else-is_word-4.ensures ∙ c.if-is_word-5.true)
    ∙ ap (λ o. and_then o (λ all. give (rules all))) c.in_ok-steps.ensures

pub returns-in_err-steps : goal.returns-in_err-steps
returns-in_err-steps c =
    rw (rules_by c.args.title.now c.args.self.now (sym c.is_word.ensures ∙ c.if-is_word.false) (sym c.is_word-else-is_word.ensures ∙ c.if-is_word-2.false)
    (sym c.is_word-else-is_word-2.ensures ∙ c.if-is_word-3.false) (sym c.is_word-else-is_word-3.ensures ∙ c.if-is_word-4.false)
    (sym c.is_word-else-is_word-4.ensures ∙ c.if-is_word-5.true))
    (err_on (λ (all : Vec Step Global). map step_view all.items) section_view _ (λ all. give (rules all))
    c.in_err-steps.field-0.0 c.from_residual-in_err-steps.result _ _ c.from_residual-in_err-steps.ensures c.in_err-steps.ensures)

pub returns-else-is_word-5 : goal.returns-else-is_word-5
returns-else-is_word-5 c =
    none_by c.args.title.now c.args.self.now (sym c.is_word.ensures ∙ c.if-is_word.false) (sym c.is_word-else-is_word.ensures ∙ c.if-is_word-2.false)
    (sym c.is_word-else-is_word-2.ensures ∙ c.if-is_word-3.false) (sym c.is_word-else-is_word-3.ensures ∙ c.if-is_word-4.false)
    (sym c.is_word-else-is_word-4.ensures ∙ c.if-is_word-5.false)
