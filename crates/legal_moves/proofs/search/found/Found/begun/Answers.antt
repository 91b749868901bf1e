use Rattle.std.proofs.Common.{◌∷◌, [], ◌++◌, ap, ◌∙◌, subst}
use Rattle.legal_moves.specs.lemmas.Chains.{AreChained}
use Rattle.legal_moves.proofs.Exits.{refused}
use Rattle.legal_moves.proofs.searches.StandLemmas.{laid, first_stand, begun_configurations, begun_kept}
use Rattle.legal_moves.proofs.search.found.Found.begun.Goals as goal

pub returns-clause-kept : goal.returns-clause-kept
returns-clause-kept c =
    let S = c.args.state.now in
    let empty = c.in_ok-found.ensures in
    begun_kept _ S c.in_ok-push-2.ensures.whole (c.in_ok-push-2.ensures.pushed ∙ ap (λ xs. xs ++ laid S ∷ []) empty.no_boards)
    (c.in_ok-push-4.ensures.items ∙ ap (λ xs. xs ++ first_stand S ∷ []) empty.no_stands)
    (subst (λ b. AreChained (b ∷ []) c.push.new.self) c.board_bucket.ensures.is (c.in_ok-push.ensures [] empty.boards_are))
    (subst (λ b. AreChained (b ∷ []) c.push-3.new.self) c.stand_bucket.ensures.is (c.in_ok-push-3.ensures [] empty.stands_are))

pub returns-clause-opening : goal.returns-clause-opening
returns-clause-opening c =
    let S = c.args.state.now in
    let empty = c.in_ok-found.ensures in
    begun_configurations _ c.push-4.new.self.items S (c.in_ok-push-2.ensures.pushed ∙ ap (λ xs. xs ++ laid S ∷ []) empty.no_boards)
    (c.in_ok-push-4.ensures.items ∙ ap (λ xs. xs ++ first_stand S ∷ []) empty.no_stands)

pub returns-in_err-found-clause-opening : goal.returns-in_err-found-clause-opening
returns-in_err-found-clause-opening c = refused _ c.from_residual.result _ c.from_residual.ensures.1

pub returns-in_err-found-clause-kept : goal.returns-in_err-found-clause-kept
returns-in_err-found-clause-kept c = refused _ c.from_residual.result _ c.from_residual.ensures.1

pub returns-in_err-push-clause-opening : goal.returns-in_err-push-clause-opening
returns-in_err-push-clause-opening c = refused _ c.from_residual-in_err-push.result _ c.from_residual-in_err-push.ensures.1

pub returns-in_err-push-clause-kept : goal.returns-in_err-push-clause-kept
returns-in_err-push-clause-kept c = refused _ c.from_residual-in_err-push.result _ c.from_residual-in_err-push.ensures.1

pub returns-in_err-push-2-clause-opening : goal.returns-in_err-push-2-clause-opening
returns-in_err-push-2-clause-opening c = refused _ c.from_residual-in_err-push-2.result _ c.from_residual-in_err-push-2.ensures.1

pub returns-in_err-push-2-clause-kept : goal.returns-in_err-push-2-clause-kept
returns-in_err-push-2-clause-kept c = refused _ c.from_residual-in_err-push-2.result _ c.from_residual-in_err-push-2.ensures.1

pub returns-in_err-push-3-clause-opening : goal.returns-in_err-push-3-clause-opening
returns-in_err-push-3-clause-opening c = refused _ c.from_residual-in_err-push-3.result _ c.from_residual-in_err-push-3.ensures.1

pub returns-in_err-push-3-clause-kept : goal.returns-in_err-push-3-clause-kept
returns-in_err-push-3-clause-kept c = refused _ c.from_residual-in_err-push-3.result _ c.from_residual-in_err-push-3.ensures.1

pub returns-in_err-push-4-clause-opening : goal.returns-in_err-push-4-clause-opening
returns-in_err-push-4-clause-opening c = refused _ c.from_residual-in_err-push-4.result _ c.from_residual-in_err-push-4.ensures.1

pub returns-in_err-push-4-clause-kept : goal.returns-in_err-push-4-clause-kept
returns-in_err-push-4-clause-kept c = refused _ c.from_residual-in_err-push-4.result _ c.from_residual-in_err-push-4.ensures.1
