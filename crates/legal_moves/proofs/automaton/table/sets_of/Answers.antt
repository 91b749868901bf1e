use Rattle.std.proofs.Common.{◌≡◌, ◌∷◌, [], ◌++◌, ◌+◌, take, sym, ap, ◌∙◌, subst}
use Rattle.std.proofs.lemmas.Grind.{take_at_read}
use Rattle.legal_moves.specs.lemmas.Sets.{AreSets}
use Rattle.legal_moves.proofs.automata.SetLemmas.{sets_more}
use Rattle.legal_moves.proofs.automaton.table.sets_of.Goals as goal

pub loop-step-preserved : goal.loop-step-preserved
loop-step-preserved c =
    let steps = c.args.steps.now in
    let i = c.loop-step.step-index in
    let s = c.step-item.result in
    let more : take (i + 1) steps ≡ take i steps ++ s ∷ [] = (take_at_read steps i s c.loop-step-test.true).1
    ∙ ap (λ x. take i steps ++ x ∷ []) (sym c.step-item.is) in
    subst (λ xs. AreSets xs c.push.new.self.items) (sym more)
    (subst (AreSets (take i steps ++ s ∷ [])) (sym c.in_ok-push.ensures.items)
    (sets_more (take i steps) c.loop-step.sets.items s c.set.result c.loop-step.invariant c.set.ensures))
