use Rattle.std.proofs.Common.{◌≡◌, ◌∙◌, ◌++◌, ◌∷◌, [], ap, sym}
use Rattle.std.specs.Cmp.Lexicographic.{other_text}
use Rattle.std.proofs.lemmas.List.{append_cancel_left}
use Rattle.position_pack.proofs.WordLemmas.{refused}
use Rattle.certificate.specs.Format.{lines}
use Rattle.certificate.proofs.LineLemmas.{no_lines}
use Rattle.certificate.proofs.lists.line_in.Goals as goal

pub returns-in_err-line : goal.returns-in_err-line
returns-in_err-line c =
    refused _ _ c.from_residual.result c.from_residual.ensures
    (λ rest is. let none : lines c.args.bytes.now ≡ [] = ap lines c.in_err-line.ensures ∙ no_lines in cc)

pub returns-else-eq : goal.returns-else-eq
returns-else-eq c = λ rest is.
    let words = c.args.words.now in
    let found = c.in_ok-found.found.now in
    let both : c.in_ok-line.line.now ∷ lines c.in_ok-line.rest.now ≡ (words ++ c.args.name.now) ∷ rest = sym c.in_ok-line.ensures.1 ∙ is in
    let first : c.in_ok-line.line.now ≡ words ++ c.args.name.now = cc in
    other_text found c.args.name.now (sym c.if-eq.false ∙ c.eq.ensures)
    (append_cancel_left words found c.args.name.now (sym c.in_ok-found.ensures ∙ first))
