use Rattle.root_pair.proofs.Opened.{read_on}
use Rattle.root_pair.proofs.fresh.check_fresh.Goals as goal
use Rattle.root_pair.proofs.fresh.check_fresh.Goals.{else-sectors-gt0-via-then-sectors-gt0+in_ok-fetch+else-starts_with, else-sectors-gt0-via-else-sectors-gt0}

pub returns-in_err-fetch-clause-left : goal.returns-in_err-fetch-clause-left
returns-in_err-fetch-clause-left g c = read_on c.sync_first.ensures.left c.fetch.ensures.left c.fetch.ensures.cause.later

pub returns-then-starts_with-clause-left : goal.returns-then-starts_with-clause-left
returns-then-starts_with-clause-left g c = read_on c.sync_first.ensures.left c.fetch.ensures.left c.fetch.ensures.cause.later

pub returns-then-sectors-lt-LEAST_SECTORS-clause-left : goal.returns-then-sectors-lt-LEAST_SECTORS-clause-left
returns-then-sectors-lt-LEAST_SECTORS-clause-left g c =
    elim c.else-sectors-gt0.branch [
      | else-sectors-gt0-via-then-sectors-gt0+in_ok-fetch+else-starts_with w ↦ rw w.disk-is (read_on c.sync_first.ensures.left w.fetch.ensures.left w.fetch.ensures.cause.later)
      | else-sectors-gt0-via-else-sectors-gt0 w ↦ rw w.disk-is c.sync_first.ensures.left
    ]

pub returns-clause-left : goal.returns-clause-left
returns-clause-left g c =
    elim c.else-sectors-gt0.branch [
      | else-sectors-gt0-via-then-sectors-gt0+in_ok-fetch+else-starts_with w ↦ rw w.disk-is (read_on c.sync_first.ensures.left w.fetch.ensures.left w.fetch.ensures.cause.later)
      | else-sectors-gt0-via-else-sectors-gt0 w ↦ rw w.disk-is c.sync_first.ensures.left
    ]
