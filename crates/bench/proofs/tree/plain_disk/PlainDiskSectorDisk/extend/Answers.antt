use Rattle.std.proofs.Common.{arith}
use Rattle.sector_disk.specs.lemmas.Moments.{extends_failed}
use Rattle.sector_disk.specs.lemmas.Unknown.{unknown_extends}
use Rattle.bench.proofs.tree.plain_disk.PlainDiskSectorDisk.extend.Goals as goal

pub returns-clause-time : goal.returns-clause-time
returns-clause-time c =
    extends_failed _ _ _ (unknown_extends _ _ _ c.add_zeros.ensures.no_shorter c.add_zeros.ensures.no_longer) (omega arith)

pub returns-then-is_err-clause-time : goal.returns-then-is_err-clause-time
returns-then-is_err-clause-time c =
    extends_failed _ _ _ (unknown_extends _ _ _ c.add_zeros.ensures.no_shorter c.add_zeros.ensures.no_longer) c.failed.ensures.later
