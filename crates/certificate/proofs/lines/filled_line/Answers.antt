use Rattle.std.proofs.Common.{sym, subst, ap, ◌∙◌, List, ℕ}
use Rattle.position_pack.proofs.WordLemmas.{refused}
use Rattle.certificate.specs.Format.{lines}
use Rattle.certificate.specs.lemmas.Parts.{EndsList}
use Rattle.certificate.proofs.LineLemmas.{no_lines}
use Rattle.certificate.proofs.lines.filled_line.Goals as goal

pub returns-in_err-line : goal.returns-in_err-line
returns-in_err-line c =
    refused _ _ c.from_residual.result c.from_residual.ensures
    (subst (λ (all : List (List ℕ)). EndsList all) (sym (ap lines c.in_err-line.ensures ∙ no_lines)) tt)
