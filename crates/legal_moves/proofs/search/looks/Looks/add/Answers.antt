use Rattle.std.proofs.Common.{◌≡◌, ◌+◌, ◌*◌, ◌⊎◌, ℕ, refl, sym, ◌∙◌, subst}
use Rattle.legal_moves.specs.lemmas.Marks.{IsMarkSet}
use Rattle.legal_moves.specs.lemmas.VertexSearch.{mark_of}
use Rattle.legal_moves.proofs.Exits.{refused, no_error}
use Rattle.legal_moves.proofs.searches.LookLemmas.{there, marked_more}
use Rattle.legal_moves.proofs.Faults.{for_want}
use Rattle.legal_moves.proofs.search.looks.Looks.add.Goals as goal

pub returns-then-is_marked-clause-added : goal.returns-then-is_marked-clause-added
returns-then-is_marked-clause-added c =
    let at : c.from.result * c.args.self.now.numbers + c.from-2.result ≡ mark_of c.args.self.now.numbers c.args.look = rw
    (c.from.ensures, c.from-2.ensures) refl in
    let set : IsMarkSet c.args.self.now.marks.items (mark_of c.args.self.now.numbers c.args.look) =
    subst (λ j. IsMarkSet c.args.self.now.marks.items j) at
    (subst (λ xs. IsMarkSet xs (c.from.result * c.args.self.now.numbers + c.from-2.result)) c.deref.ensures.value
    (sym c.is_marked.ensures ∙ c.if-is_marked.true)) in
    there c.args.self.now.numbers c.args.self.now c.args.look c.requires.marked c.requires.within set

pub returns-clause-marked : goal.returns-clause-marked
returns-clause-marked c =
    let at : c.from.result * c.args.self.now.numbers + c.from-2.result ≡ mark_of c.args.self.now.numbers c.args.look = rw
    (c.from.ensures, c.from-2.ensures) refl in
    marked_more c.args.self.now.numbers c.args.self.now c.args.look c.requires.marked c.requires.within _ c.in_ok-push.ensures.items refl
    (subst (λ m. (j : ℕ) → (IsMarkSet c.mark.new.row.items j → IsMarkSet c.args.self.now.marks.items j ⊎ (j ≡ m))
    × (IsMarkSet c.args.self.now.marks.items j ⊎ (j ≡ m) → IsMarkSet c.mark.new.row.items j)) at c.in_ok-mark.ensures)

pub returns-clause-wide : goal.returns-clause-wide
returns-clause-wide c = no_error

pub returns-then-is_marked-clause-marked : goal.returns-then-is_marked-clause-marked
returns-then-is_marked-clause-marked c = c.requires.marked

pub returns-then-is_marked-clause-wide : goal.returns-then-is_marked-clause-wide
returns-then-is_marked-clause-wide c = no_error

pub returns-in_err-mark-clause-added : goal.returns-in_err-mark-clause-added
returns-in_err-mark-clause-added c = refused _ c.from_residual.result _ c.from_residual.ensures.1

pub returns-in_err-mark-clause-marked : goal.returns-in_err-mark-clause-marked
returns-in_err-mark-clause-marked c = refused _ c.from_residual.result _ c.from_residual.ensures.1

pub returns-in_err-mark-clause-wide : goal.returns-in_err-mark-clause-wide
returns-in_err-mark-clause-wide c = for_want c.from_residual.result c.from_residual.ensures.1

pub returns-in_err-push-clause-added : goal.returns-in_err-push-clause-added
returns-in_err-push-clause-added c = refused _ c.from_residual-in_err-push.result _ c.from_residual-in_err-push.ensures.1

pub returns-in_err-push-clause-marked : goal.returns-in_err-push-clause-marked
returns-in_err-push-clause-marked c = refused _ c.from_residual-in_err-push.result _ c.from_residual-in_err-push.ensures.1

pub returns-in_err-push-clause-wide : goal.returns-in_err-push-clause-wide
returns-in_err-push-clause-wide c = for_want c.from_residual-in_err-push.result c.from_residual-in_err-push.ensures.1
