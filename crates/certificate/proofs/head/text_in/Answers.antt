use Rattle.std.proofs.Common.{◌≡◌, ◌∙◌, ◌++◌, ◌∷◌, ap, sym, length, drop, arith}
use Rattle.std.specs.Fmt.{decimal}
use Rattle.std.proofs.lemmas.List.{drop_at, length-append}
use Rattle.position_pack.proofs.WordLemmas.{refused}
use Rattle.certificate.proofs.HeadLemmas.{text_parts}
use Rattle.certificate.proofs.LineLemmas.{decimal_tells, digits_in_line}
use Rattle.certificate.proofs.head.text_in.Goals as goal

pub returns-in_err-digits : goal.returns-in_err-digits
returns-in_err-digits c =
    refused _ _ c.from_residual.result c.from_residual.ensures
    (λ text rest few is. c.in_err-digits.ensures (decimal (length text)) (text ++ (10 ∷ rest)) (digits_in_line (length text) few) is)

pub returns-in_err-length : goal.returns-in_err-length
returns-in_err-length c =
    refused _ _ c.from_residual-in_err-length.result c.from_residual-in_err-length.ensures
    (λ text rest few is.
    c.in_err-length.ensures (length text) few
    (text_parts c.args.bytes.now c.in_ok-digits.digits.now c.in_ok-digits.rest.now c.in_ok-digits.ensures.0 c.in_ok-digits.ensures.1 text rest few is).0)

pub returns-in_err-text : goal.returns-in_err-text
returns-in_err-text c =
    refused _ _ c.from_residual-in_err-text.result c.from_residual-in_err-text.ensures
    (λ text rest few is.
    let parts = text_parts c.args.bytes.now c.in_ok-digits.digits.now c.in_ok-digits.rest.now c.in_ok-digits.ensures.0 c.in_ok-digits.ensures.1 text rest few is in
    let same : c.in_ok-length.length ≡ length text =
    decimal_tells c.in_ok-length.length (length text) c.in_ok-length.ensures.0 few (sym c.in_ok-length.ensures.1 ∙ parts.0) in
    let long = length-append text (10 ∷ rest) in
    let whole = ap length parts.1 in
    let short = c.in_err-text.ensures.cases in
    absurd (omega arith))

pub returns-in_err-rest : goal.returns-in_err-rest
returns-in_err-rest c =
    refused _ _ c.from_residual-in_err-rest.result c.from_residual-in_err-rest.ensures
    (λ text rest few is.
    let parts = text_parts c.args.bytes.now c.in_ok-digits.digits.now c.in_ok-digits.rest.now c.in_ok-digits.ensures.0 c.in_ok-digits.ensures.1 text rest few is in
    let same : c.in_ok-length.length ≡ length text =
    decimal_tells c.in_ok-length.length (length text) c.in_ok-length.ensures.0 few (sym c.in_ok-length.ensures.1 ∙ parts.0) in
    c.in_err-rest.ensures rest
    (c.in_ok-text.ensures.cases.2 ∙ ap (drop c.in_ok-length.length) parts.1 ∙ drop_at text (10 ∷ rest) c.in_ok-length.length (sym same)))
