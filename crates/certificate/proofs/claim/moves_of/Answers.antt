use Rattle.std.proofs.Common.{◌≡◌, ◌≢◌, ◌∙◌, ◌++◌, ap, sym, ℕ, ◌<◌, ◌^◌, List, codes, append_assoc}
use Rattle.std.specs.Fmt.{decimal}
use Rattle.std.proofs.lemmas.List.{append_cancel_left}
use Rattle.position_pack.proofs.WordLemmas.{refused}
use Rattle.certificate.proofs.ListLoops.{match_option}
use Rattle.certificate.proofs.claim.moves_of.Goals as goal

pub returns-in_err-digits : goal.returns-in_err-digits
returns-in_err-digits c =
    refused _ _ c.from_residual-in_err-digits.result c.from_residual-in_err-digits.ensures
    (λ moves lt is.
    c.in_err-digits.ensures (decimal moves)
    (append_cancel_left c.args.name.now c.in_ok-behind.behind.now (codes " in " ++ decimal moves)
    (sym c.in_ok-behind.ensures ∙ is ∙ append_assoc c.args.name.now (codes " in ") (decimal moves))))

pub returns : goal.returns
returns c =
    let name = c.args.name.now in
    let digits = c.in_ok-digits.digits.now in
    let value_is : c.args.value.now ≡ name ++ (codes " in " ++ digits) =
    c.in_ok-behind.ensures ∙ ap (λ (xs : List ℕ). name ++ xs) c.in_ok-digits.ensures in
    match_option c.number.result ((n : ℕ) → n < 2 ^ 32 → digits ≢ decimal n)
    ((n : ℕ) → n < 2 ^ 32 → c.args.value.now ≢ name ++ codes " in " ++ decimal n)
    (λ n. (n < 2 ^ 32) × (digits ≡ decimal n)) (λ n. (n < 2 ^ 32) × (c.args.value.now ≡ name ++ codes " in " ++ decimal n))
    (λ none n lt is.
    none n lt (append_cancel_left (codes " in ") digits (decimal n)
    (append_cancel_left name (codes " in " ++ digits) (codes " in " ++ decimal n)
    (sym value_is ∙ is ∙ append_assoc name (codes " in ") (decimal n)))))
    (λ n is. (is.0, value_is ∙ ap (λ (xs : List ℕ). name ++ (codes " in " ++ xs)) is.1 ∙ sym (append_assoc name (codes " in ") (decimal n))))
    c.number.ensures
