use Rattle.std.proofs.Common.{rules, arith, ◌≡◌, length}
use Rattle.sector_disk.specs.lemmas.Moments.{extends_failed}
use Rattle.sector_disk.proofs.Kept.{kept_extend, longer}
use Rattle.sector_disk.proofs.memory.MemDiskSectorDisk.extend.Goals as goal

pub returns-clause-kept : goal.returns-clause-kept
returns-clause-kept c = λ honest. longer _ _ _ _ _ c.in_ok-lengthen.ensures.kept c.in_ok-lengthen.ensures.longer

pub returns-clause-time : goal.returns-clause-time
returns-clause-time c =
    let long : c.len.result ≡ length c.args.self.now.contents.items = search rules in
    extends_failed c.args.sectors _ _
    (kept_extend _ _ _ _ c.args.sectors _ c.in_ok-lengthen.ensures.kept c.in_ok-lengthen.ensures.longer (omega (arith, long, c.requires)))
    c.in_ok-lengthen.ensures.cause.later
