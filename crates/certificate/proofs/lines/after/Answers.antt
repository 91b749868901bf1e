use Rattle.std.proofs.Common.{rules, ◌≡◌, ◌∙◌, ◌++◌, ap, sym, refl, List, ℕ, length, take, drop}
use Rattle.std.specs.Cmp.Lexicographic.{other_text}
use Rattle.std.proofs.lemmas.List.{take-append-drop, take_at}
use Rattle.certificate.proofs.lines.after.Goals as goal

pub returns-then-eq : goal.returns-then-eq
returns-then-eq c =
    let n = length c.args.words.now in
    let same : c.in_ok-front.front.now ≡ c.args.words.now = search rules in
    let parts = c.in_ok-front.ensures.cases in
    sym (take-append-drop n c.args.bytes.now) ∙ ap (λ (xs : List ℕ). xs ++ drop n c.args.bytes.now) (sym parts.1 ∙ same)
    ∙ ap (λ (xs : List ℕ). c.args.words.now ++ xs) (sym parts.2)

pub returns-else-eq : goal.returns-else-eq
returns-else-eq c = λ rest is.
    let n = length c.args.words.now in
    let same = c.in_ok-front.ensures.cases.1 ∙ ap (take n) is ∙ take_at c.args.words.now rest n refl in
    other_text c.in_ok-front.front.now c.args.words.now (sym c.if-eq.false ∙ c.eq.ensures) same
