use Rattle.std.proofs.Common.{IfSome, ◌<◌, length}
use Rattle.certificate_writer.proofs.strategy.best_of.Given as goal

abbrev pub invariant-loop-index : goal.invariant-loop-index
invariant-loop-index l = IfSome l.best (λ i. i < length l.known.moves.items)
