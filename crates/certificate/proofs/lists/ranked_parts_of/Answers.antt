use Rattle.std.proofs.Common.{sym, ◌∙◌}
use Rattle.std.specs.Fmt.{decimal}
use Rattle.position_pack.proofs.WordLemmas.{not_cut, refused}
use Rattle.certificate.proofs.LineLemmas.{cut_last, each_lacks, no_blank_in_digits}
use Rattle.certificate.proofs.lists.ranked_parts_of.Goals as goal

pub returns-in_err-letters : goal.returns-in_err-letters
returns-in_err-letters c =
    refused _ _ c.from_residual.result c.from_residual.ensures
    (λ front rank few is. not_cut 32 c.args.line.now front (decimal rank) c.in_err-letters.ensures is)

pub returns-in_err-rank : goal.returns-in_err-rank
returns-in_err-rank c =
    refused _ _ c.from_residual-in_err-rank.result c.from_residual-in_err-rank.ensures
    (λ front rank few is.
    c.in_err-rank.ensures rank few
    (cut_last 32 c.in_ok-letters.letters.now front c.in_ok-letters.digits.now (decimal rank)
    (each_lacks 32 c.in_ok-letters.digits.now c.in_ok-letters.ensures.back_lacks)
    (no_blank_in_digits rank few) (sym c.in_ok-letters.ensures.text_is ∙ is)).1)
