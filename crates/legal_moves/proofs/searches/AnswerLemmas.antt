-- What a pattern answered last is true of each pattern that asks the same.
use Rattle.std.proofs.Common.{◌≡◌, ℕ, ◌<◌, List, [], ◌∷◌, length, get_or, Option, Some, slice_get, option_map, unwrap_or, sym, ap, ◌∙◌, subst, arith}
use Rattle.std.proofs.lemmas.Option.{slice_get-get_or}
use Rattle.rbg_game.specs.Rules.{empty}
use Rattle.rbg_game.specs.Games.{Game}
use Rattle.legal_moves.specs.Configurations.{Configuration}
use Rattle.legal_moves.specs.Tables.{inner_of, AreSame}
use Rattle.legal_moves.specs.lemmas.Configurations.{expression_at}
use Rattle.legal_moves.specs.lemmas.Progress.{began, state_at}
use Rattle.legal_moves.specs.lemmas.Answers.{IsAnswerAt}
use Rattle.legal_moves.specs.declared.search.answers.LastPattern.{LastPattern}
use Rattle.legal_moves.proofs.GetLemmas.{slice_get-append, slice_get-within}

-- the expression that a number names is the one at its place
pub same_expression : (game : Game) (same : List ℕ) (i j : ℕ) → AreSame (inner_of game.rules) same → slice_get same i ≡ Some j
    → expression_at game j ≡ expression_at game i
same_expression game same i j h at =
    let es = inner_of game.rules in
    let within : i < length es = omega (arith, slice_get-within same i j at, h.as_many) in
    let at_i = slice_get-get_or es i empty within in
    let at_j = h.each i j at ∙ at_i in
    ap (λ o. unwrap_or o empty) (slice_get-append es (game.rules ∷ []) j (get_or es i empty) at_j
    ∙ sym (slice_get-append es (game.rules ∷ []) i (get_or es i empty) at_i))

-- the configuration at the index stays, and so does the answer
pub answer_along : (game : Game) (cs ds : List Configuration) (at : ℕ) (known : Option LastPattern) → slice_get cs at ≡ slice_get ds at
    → IsAnswerAt game (state_at cs at) known → IsAnswerAt game (state_at ds at) known
answer_along game cs ds at known same =
    subst (λ S. IsAnswerAt game S known) (ap (λ o. unwrap_or (option_map (λ c. c.at.state) o) (began [])) same)
