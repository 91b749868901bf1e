use Rattle.std.proofs.Common.{None, [], ◌∷◌}
use Rattle.solver.specs.Machine.{load, work}
use Rattle.solver.specs.declared.replies.Reply.TheVariants.{Loaded, Worked}
use Rattle.witness.specs.Game.{witness_text}
use Rattle.witness.proofs.OneTable.{both_done, as_answered}
use Rattle.witness.proofs.one_table.as_much_on_two.Goals as goal

pub returns : goal.returns
returns g c = λ ready honest none ready_other honest_other none_other same.
    let one = both_done g.F.GameFile.stores c.text.result.now witness_text _ 3 _ _ _ c.in_ok-first.first c.text.ensures c.units.ensures honest none
    c.load.ensures.left.ahead (c.in_ok-load.ensures.done ready) (c.in_ok-first.ensures.done (c.load.ensures.left.ready ready)) in
    let other = both_done g.G.GameFile.stores c.text-2.result.now witness_text _ 3 _ _ _ c.in_ok-second.second c.text-2.ensures c.units-2.ensures
    honest_other none_other c.load-2.ensures.left.ahead (c.in_ok-load-2.ensures.done ready_other)
    (c.in_ok-second.ensures.done (c.load-2.ensures.left.ready ready_other)) in
    c.commands_lead_to_one_table.ensures.answered
    ((load witness_text None, Loaded) ∷ (work 3, Worked c.in_ok-first.first.units c.in_ok-first.first.counts) ∷ []) None _ _ tt one
    (as_answered witness_text 3 c.in_ok-first.first c.in_ok-second.second _ same other)
