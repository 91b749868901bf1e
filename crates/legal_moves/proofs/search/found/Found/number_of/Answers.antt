use Rattle.std.proofs.Common.{◌≡◌, ◌<◌, ◌∷◌, [], ◌++◌, length, Some, slice_get, map, refl, ap, ◌∙◌, subst, arith, length-append}
use Rattle.std.proofs.lemmas.List.{length-map}
use Rattle.std.specs.Option.{IfSome}
use Rattle.legal_moves.specs.lemmas.Boards.{at_turn, board_at, boards_in}
use Rattle.legal_moves.specs.lemmas.Buckets.{bucket_of_board}
use Rattle.legal_moves.specs.lemmas.Chains.{AreChained}
use Rattle.legal_moves.proofs.searches.BoardLemmas.{many_boards}
use Rattle.legal_moves.proofs.Exits.{refused}
use Rattle.legal_moves.proofs.GetLemmas.{slice_get-end}
use Rattle.legal_moves.proofs.searches.StandLemmas.{laid, kept_board, same_configurations, board_is, unlike_by}
use Rattle.legal_moves.proofs.search.found.Found.number_of.Goals as goal

pub returns-in_ok-push-in-None-2-clause-kept : goal.returns-in_ok-push-in-None-2-clause-kept
returns-in_ok-push-in-None-2-clause-kept c =
    let old = c.args.self.now in
    let state = c.args.state.now in
    let bs = boards_in old.boards in
    let unlike = unlike_by bs state c.like.result c.like.ensures.none c.in-None.is in
    kept_board old _ state c.requires.kept refl c.in_ok-push-in-None-2.ensures.whole c.in_ok-push-in-None-2.ensures.pushed unlike
    (subst (λ b. AreChained (map bucket_of_board bs ++ b ∷ []) c.push.new.self) c.board_bucket-bucket.ensures.is
    (c.in_ok-push-in-None.ensures (map bucket_of_board bs) c.requires.kept.boards_are)) refl

pub returns-in_ok-push-in-None-2-clause-same : goal.returns-in_ok-push-in-None-2-clause-same
returns-in_ok-push-in-None-2-clause-same c =
    same_configurations (boards_in c.args.self.now.boards) _ c.args.self.now.stands.items
    (laid c.args.state.now) c.requires.kept.within c.in_ok-push-in-None-2.ensures.pushed

pub returns-in_ok-push-in-None-2-clause-number : goal.returns-in_ok-push-in-None-2-clause-number
returns-in_ok-push-in-None-2-clause-number c =
    let state = c.args.state.now in
    let bs = boards_in c.args.self.now.boards in
    let pushed = c.in_ok-push-in-None-2.ensures.pushed in
    let many = many_boards c.args.self.now.boards in
    let at = subst (λ i. slice_get (bs ++ laid state ∷ []) i ≡ Some (laid state)) many (slice_get-end bs (laid state)) in (
      omega (arith, many, ap length pushed, length-append bs (laid state ∷ [])),
      ap (λ A. at_turn A state.mover state.vertex)
          (board_is _ c.args.self.now.boards.count (laid state) (ap (λ xs. slice_get xs c.args.self.now.boards.count) pushed ∙ at)),
    )

pub push-requires-in-None-clause-few : goal.push-requires-in-None-clause-few
push-requires-in-None-clause-few c =
    let bs = boards_in c.args.self.now.boards in
    let chained = c.in_ok-push-in-None.ensures (map bucket_of_board bs) c.requires.kept.boards_are in
    let many = many_boards c.args.self.now.boards in
    omega (
      arith,
      many,
      chained.as_many,
      length-append (map bucket_of_board bs) (c.board_bucket-bucket.result ∷ []),
      length-map bs bucket_of_board,
      c.push.new.self.befores.ok.0,
    )

pub returns-in_err-push-in-None-clause-kept : goal.returns-in_err-push-in-None-clause-kept
returns-in_err-push-in-None-clause-kept c = refused _ c.from_residual.result _ c.from_residual.ensures.1

pub returns-in_err-push-in-None-clause-number : goal.returns-in_err-push-in-None-clause-number
returns-in_err-push-in-None-clause-number c = refused _ c.from_residual.result _ c.from_residual.ensures.1

pub returns-in_err-push-in-None-clause-same : goal.returns-in_err-push-in-None-clause-same
returns-in_err-push-in-None-clause-same c = refused _ c.from_residual.result _ c.from_residual.ensures.1

pub returns-in_err-push-in-None-clause-stands : goal.returns-in_err-push-in-None-clause-stands
returns-in_err-push-in-None-clause-stands c = refl

pub returns-in_err-push-in-None-2-clause-kept : goal.returns-in_err-push-in-None-2-clause-kept
returns-in_err-push-in-None-2-clause-kept c = refused _ c.from_residual-in_err-push-in-None-2.result _ c.from_residual-in_err-push-in-None-2.ensures.1

pub returns-in_err-push-in-None-2-clause-number : goal.returns-in_err-push-in-None-2-clause-number
returns-in_err-push-in-None-2-clause-number c = refused _ c.from_residual-in_err-push-in-None-2.result _ c.from_residual-in_err-push-in-None-2.ensures.1

pub returns-in_err-push-in-None-2-clause-same : goal.returns-in_err-push-in-None-2-clause-same
returns-in_err-push-in-None-2-clause-same c = refused _ c.from_residual-in_err-push-in-None-2.result _ c.from_residual-in_err-push-in-None-2.ensures.1

pub returns-in_err-push-in-None-2-clause-stands : goal.returns-in_err-push-in-None-2-clause-stands
returns-in_err-push-in-None-2-clause-stands c = refl

pub returns-in_ok-push-in-None-2-clause-stands : goal.returns-in_ok-push-in-None-2-clause-stands
returns-in_ok-push-in-None-2-clause-stands c = refl

pub returns-in-Some-clause-kept : goal.returns-in-Some-clause-kept
returns-in-Some-clause-kept c = c.requires.kept

pub returns-in-Some-clause-same : goal.returns-in-Some-clause-same
returns-in-Some-clause-same c = refl

pub returns-in-Some-clause-stands : goal.returns-in-Some-clause-stands
returns-in-Some-clause-stands c = refl

pub returns-in-Some-clause-number : goal.returns-in-Some-clause-number
returns-in-Some-clause-number c =
    let bs = boards_in c.args.self.now.boards in
    let state = c.args.state.now in
    subst (λ o. IfSome o (λ number. (number < length bs) × (at_turn (board_at bs number) state.mover state.vertex ≡ state))) c.in-Some.is c.like.ensures.some
