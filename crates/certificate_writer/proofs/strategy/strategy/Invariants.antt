use Rattle.certificate_writer.specs.Frames.{KeepsGoal}
use Rattle.certificate_writer.proofs.strategy.strategy.Given as goal

abbrev pub invariant-loop-turn : goal.invariant-loop-turn
invariant-loop-turn g l = KeepsGoal l.fn.solver l.solver
