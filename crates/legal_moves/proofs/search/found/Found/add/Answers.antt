use Rattle.std.proofs.Common.{◌∷◌, [], ◌++◌, inl, inr, map, refl, ap, ◌∙◌, subst, arith}
use Rattle.legal_moves.specs.lemmas.Chains.{AreChained}
use Rattle.legal_moves.specs.lemmas.Stands.{bucket_at}
use Rattle.legal_moves.proofs.Exits.{refused, no_error}
use Rattle.legal_moves.proofs.automata.ReadyLemmas.{OnTrue-at, OnFalse-at}
use Rattle.legal_moves.proofs.searches.StandLemmas.{kept_stand}
use Rattle.legal_moves.proofs.Faults.{for_want}
use Rattle.legal_moves.proofs.search.found.Found.add.Goals as goal

pub returns-clause-kept : goal.returns-clause-kept
returns-clause-kept c =
    let old = c.args.self.now in
    kept_stand old _ c.args.stand c.requires.kept c.requires.board refl
    (c.push_reserved.ensures.items ∙ ap (λ xs. xs ++ c.args.stand ∷ []) c.in_ok-reserve.ensures.items)
    (subst (λ b. AreChained (map bucket_at old.stands.items ++ b ∷ []) c.push.new.self) c.stand_bucket-bucket.ensures.is
    (c.in_ok-push.ensures (map bucket_at old.stands.items) c.requires.kept.stands_are)) refl

pub returns-clause-added : goal.returns-clause-added
returns-clause-added c = inr (
  (c.push_reserved.ensures.items ∙ ap (λ xs. xs ++ c.args.stand ∷ []) c.in_ok-reserve.ensures.items),
  omega arith,
  OnFalse-at c.has.result _ c.if-has.false c.has.ensures.new,
)

pub returns-clause-boards : goal.returns-clause-boards
returns-clause-boards c = refl

pub returns-clause-wide : goal.returns-clause-wide
returns-clause-wide c = no_error

pub returns-then-has-clause-added : goal.returns-then-has-clause-added
returns-then-has-clause-added c =
    let there = OnTrue-at c.has.result _ c.if-has.true c.has.ensures.there in
    inl (refl, there.0, there.1, there.2, there.3)

pub returns-then-has-clause-boards : goal.returns-then-has-clause-boards
returns-then-has-clause-boards c = refl

pub returns-then-has-clause-kept : goal.returns-then-has-clause-kept
returns-then-has-clause-kept c = c.requires.kept

pub returns-then-has-clause-wide : goal.returns-then-has-clause-wide
returns-then-has-clause-wide c = no_error

pub returns-in_err-push-clause-boards : goal.returns-in_err-push-clause-boards
returns-in_err-push-clause-boards c = refl

pub returns-in_err-push-clause-added : goal.returns-in_err-push-clause-added
returns-in_err-push-clause-added c = refused _ c.from_residual.result _ c.from_residual.ensures.1

pub returns-in_err-push-clause-kept : goal.returns-in_err-push-clause-kept
returns-in_err-push-clause-kept c = refused _ c.from_residual.result _ c.from_residual.ensures.1

pub returns-in_err-push-clause-wide : goal.returns-in_err-push-clause-wide
returns-in_err-push-clause-wide c = for_want c.from_residual.result c.from_residual.ensures.1

pub returns-in_err-reserve-clause-boards : goal.returns-in_err-reserve-clause-boards
returns-in_err-reserve-clause-boards c = refl

pub returns-in_err-reserve-clause-added : goal.returns-in_err-reserve-clause-added
returns-in_err-reserve-clause-added c = refused _ c.from_residual-in_err-reserve.result _ c.from_residual-in_err-reserve.ensures.1

pub returns-in_err-reserve-clause-kept : goal.returns-in_err-reserve-clause-kept
returns-in_err-reserve-clause-kept c = refused _ c.from_residual-in_err-reserve.result _ c.from_residual-in_err-reserve.ensures.1

pub returns-in_err-reserve-clause-wide : goal.returns-in_err-reserve-clause-wide
returns-in_err-reserve-clause-wide c = for_want c.from_residual-in_err-reserve.result c.from_residual-in_err-reserve.ensures.1
