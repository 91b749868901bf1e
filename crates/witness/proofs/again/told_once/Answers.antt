use Rattle.std.proofs.Common.{[], ◌∷◌, None}
use Rattle.solver.specs.Machine.{load, work}
use Rattle.solver.specs.Units.{units_in}
use Rattle.headline.specs.Brief.{loaded, worked, no_call, a_question, a_command, it_told}
use Rattle.witness.proofs.again.told_once.Goals as goal

pub returns : goal.returns
returns g c = (
  (load c.text.result.now None, loaded) ∷ (work (units_in c.units.result), worked c.in_ok-work.field-0.units) ∷ [],
  a_command c.in_ok-load.ensures.done
      (a_command c.in_ok-work.ensures.answered.done (it_told c.in_ok-value.ensures.told (a_question c.in_ok-value.ensures.asked.asked no_call))),
)
