use Rattle.std.proofs.Common.{◌==◌, ◌&&◌, inl, refl, sym, ap, ◌∙◌}
use Rattle.std.specs.List.{list_any}
use Rattle.legal_moves.specs.declared.automaton.jumps.Jump.{Jump}
use Rattle.legal_moves.proofs.automata.RowLemmas.{among_by_any}
use Rattle.legal_moves.proofs.automaton.jumps.come_to.Goals as goal

pub returns-then-has-clause-met : goal.returns-then-has-clause-met
returns-then-has-clause-met c =
    let test = λ (j : Jump). (j.number == c.args.number) && (j.vertex == c.args.vertex) in
    inl (
      refl,
      among_by_any c.args.walk.now.met.items c.args.number c.args.vertex
          (sym (ap (list_any test) c.deref.ensures.value) ∙ sym c.has.ensures ∙ c.if-has.true),
    )
