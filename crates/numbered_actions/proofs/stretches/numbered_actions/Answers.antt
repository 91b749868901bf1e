use Rattle.std.proofs.Common.{◌≡◌, [], ◌++◌, map, drop, subst, arith}
use Rattle.std.proofs.lemmas.List.{drop_all}
use Rattle.numbered_actions.specs.Tokens.{tokens_of, cut_of}
use Rattle.numbered_actions.specs.lemmas.Walk.{elsewhere, within_at, found_from}
use Rattle.numbered_actions.proofs.Steps.{all_walked}
use Rattle.numbered_actions.proofs.stretches.numbered_actions.Goals as goal

pub returns-clause-actions : goal.returns-clause-actions
returns-clause-actions c = λ all spelled.
    let tokens = c.args.tokens.now in
    let cuts = map (cut_of tokens) c.loop-place.found.items in
    let place = within_at tokens c.loop-place.within in
    let none : drop c.loop-place.place tokens ≡ [] = drop_all c.loop-place.place tokens (omega arith) in
    all_walked cuts place (tokens_of tokens) all
    (subst (λ ls. cuts ++ found_from place (tokens_of ls) ≡ found_from elsewhere (tokens_of tokens)) none c.loop-place.invariant.walked) spelled
