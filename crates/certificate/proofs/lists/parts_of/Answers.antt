use Rattle.std.proofs.Common.{◌≡◌, ◌≢◌, ◌++◌, ◌∷◌, ◌<◌, ◌^◌, sym, subst, ℕ, List}
use Rattle.std.specs.Prelude.{MatchOption}
use Rattle.std.specs.Fmt.{decimal}
use Rattle.certificate.specs.lemmas.Parts.{AreParts}
use Rattle.certificate.specs.declared.manner.Manner.{Manner}
use Rattle.certificate.specs.declared.manner.Manner.TheVariants.{AtMost, AtLeast}
use Rattle.certificate.proofs.ListLoops.{match_option}
use Rattle.certificate.proofs.lists.parts_of.Goals as goal

pub returns-in-AtMost : goal.returns-in-AtMost
returns-in-AtMost c =
    let line = c.args.line.now in
    subst (λ (m : Manner). MatchOption c.ranked_parts_of.result ((front : List ℕ) (rank : ℕ) → ¬ AreParts m line front rank)
    (λ parts. AreParts m line parts.0.now parts.1))
    (sym c.in-AtMost.is)
    (match_option c.ranked_parts_of.result ((front : List ℕ) (rank : ℕ) → rank < 2 ^ 32 → line ≢ front ++ 32 ∷ decimal rank)
    ((front : List ℕ) (rank : ℕ) → ¬ AreParts AtMost line front rank)
    (λ parts. (parts.1 < 2 ^ 32) × (line ≡ parts.0.now ++ 32 ∷ decimal parts.1)) (λ parts. AreParts AtMost line parts.0.now parts.1)
    (λ none front rank are. none front rank are.0 are.1) (λ parts are. are) c.ranked_parts_of.ensures)

pub returns-in-AtLeast : goal.returns-in-AtLeast
returns-in-AtLeast c =
    let line = c.args.line.now in
    subst (λ (m : Manner). MatchOption c.ranked_parts_of-in-AtLeast.result ((front : List ℕ) (rank : ℕ) → ¬ AreParts m line front rank)
    (λ parts. AreParts m line parts.0.now parts.1))
    (sym c.in-AtLeast.is)
    (match_option c.ranked_parts_of-in-AtLeast.result ((front : List ℕ) (rank : ℕ) → rank < 2 ^ 32 → line ≢ front ++ 32 ∷ decimal rank)
    ((front : List ℕ) (rank : ℕ) → ¬ AreParts AtLeast line front rank)
    (λ parts. (parts.1 < 2 ^ 32) × (line ≡ parts.0.now ++ 32 ∷ decimal parts.1)) (λ parts. AreParts AtLeast line parts.0.now parts.1)
    (λ none front rank are. none front rank are.0 are.1) (λ parts are. are) c.ranked_parts_of-in-AtLeast.ensures)
