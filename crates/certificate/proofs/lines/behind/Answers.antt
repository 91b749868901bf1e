use Rattle.std.proofs.Common.{◌≡◌, ◌≢◌, ◌∙◌, ◌++◌, ◌∷◌, ap, sym, ℕ, List, All}
use Rattle.std.proofs.lemmas.List.{append_cancel_left}
use Rattle.position_pack.specs.lemmas.Spelled.{IsSplitAt}
use Rattle.position_pack.proofs.WordLemmas.{not_cut}
use Rattle.certificate.specs.Format.{IsOneLine}
use Rattle.certificate.proofs.ListLoops.{match_option}
use Rattle.certificate.proofs.lines.behind.Goals as goal

pub returns : goal.returns
returns c =
    let words = c.args.words.now in
    let rest = c.in_ok-rest.rest.now in
    match_option c.cut.result (All (λ b. b ≢ 10) rest) ((line more : List ℕ) → IsOneLine line → c.args.bytes.now ≢ words ++ (line ++ 10 ∷ more))
    (λ parts. IsSplitAt 10 rest parts.0.now parts.1.now)
    (λ parts. IsOneLine parts.0.now × (c.args.bytes.now ≡ words ++ (parts.0.now ++ 10 ∷ parts.1.now)))
    (λ lacks line more one is.
    not_cut 10 rest line more lacks (append_cancel_left words rest (line ++ 10 ∷ more) (sym c.in_ok-rest.ensures ∙ is)))
    (λ parts split. (split.front_lacks, c.in_ok-rest.ensures ∙ ap (λ (xs : List ℕ). words ++ xs) split.text_is))
    c.cut.ensures
