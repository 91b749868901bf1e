use Rattle.std.proofs.Common.{◌∙◌, ap, refl, ℕ, List}
use Rattle.std.specs.Cmp.Lexicographic.{lists_agrees, slice_cmp}
use Rattle.std.specs.Ordering.{is_lt, is_some_and, nat_cmp}
use Rattle.certificate.proofs.ranked.is_before.Goals as goal

pub returns : goal.returns
returns c =
    c.lt.ensures ∙ ap (is_some_and is_lt) (lists_agrees (λ (x y : ℕ). refl) c.as_slice.result.now c.args.at.now)
    ∙ ap (λ (xs : List ℕ). is_lt (slice_cmp nat_cmp xs c.args.at.now)) c.as_slice.ensures.value
