use Rattle.solver.specs.Histories.{was_left}
use Rattle.headline.proofs.laws.a_migrated_table_goes_on.Goals as goal

pub returns : goal.returns
returns c = λ disk back count now done honest. was_left (λ image left. (done.pages, done.is honest image left))
