use Rattle.table.proofs.Frames.{read_then}
use Rattle.best_line.proofs.steps.number_if_won.Goals as goal

pub returns-then-kept-distance-clause-read : goal.returns-then-kept-distance-clause-read
returns-then-kept-distance-clause-read g c = read_then g.met.T.Table.stays_then c.in_ok-number.ensures.read c.in_ok-kept.ensures.read

pub returns-else-eq-clause-read : goal.returns-else-eq-clause-read
returns-else-eq-clause-read g c = read_then g.met.T.Table.stays_then c.in_ok-number.ensures.read c.in_ok-kept.ensures.read
