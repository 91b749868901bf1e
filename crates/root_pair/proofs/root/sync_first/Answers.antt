use Rattle.root_pair.proofs.Opened.{read_synced}
use Rattle.root_pair.proofs.root.sync_first.Goals as goal

pub returns-clause-left : goal.returns-clause-left
returns-clause-left g c = read_synced c.sync.ensures.time c.sync.ensures.same c.sync.ensures.cause.later
