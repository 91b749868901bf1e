use Rattle.root_pair.proofs.Opened.{read_on}
use Rattle.root_pair.proofs.root.open.Goals as goal

pub returns-in_err-header-clause-left : goal.returns-in_err-header-clause-left
returns-in_err-header-clause-left g c = read_on c.sync_first.ensures.left c.fetch.ensures.left c.fetch.ensures.cause.later

pub returns-then-not-starts_with-clause-left : goal.returns-then-not-starts_with-clause-left
returns-then-not-starts_with-clause-left g c = read_on c.sync_first.ensures.left c.fetch.ensures.left c.fetch.ensures.cause.later

pub returns-in_err-gate-clause-left : goal.returns-in_err-gate-clause-left
returns-in_err-gate-clause-left g c = read_on (read_on c.sync_first.ensures.left c.fetch.ensures.left c.fetch.ensures.cause.later) c.fetch-2.ensures.left c.fetch-2.ensures.cause.later

pub returns-in_err-bytes-clause-left : goal.returns-in_err-bytes-clause-left
returns-in_err-bytes-clause-left g c =
    read_on (read_on (read_on c.sync_first.ensures.left c.fetch.ensures.left c.fetch.ensures.cause.later)
    c.fetch-2.ensures.left c.fetch-2.ensures.cause.later) c.fetch_picked.ensures.left c.fetch_picked.ensures.cause.later

pub returns-clause-left : goal.returns-clause-left
returns-clause-left g c =
    read_on (read_on (read_on c.sync_first.ensures.left c.fetch.ensures.left c.fetch.ensures.cause.later)
    c.fetch-2.ensures.left c.fetch-2.ensures.cause.later) c.fetch_picked.ensures.left c.fetch_picked.ensures.cause.later
