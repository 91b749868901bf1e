use Rattle.std.proofs.Common.{◌∙◌, arith}
use Rattle.sector_disk.specs.Disk.{IsLonger}
use Rattle.file_disk.specs.Buffers.{Buffers}
use Rattle.file_disk.proofs.Disks.{word, above, size_is, both_now, extends_over, lengthen_extends, lengthen_keeps, zeros_over}
use Rattle.file_disk.proofs.Disks.{counted_over, ok_on, longer_or_same}
use Rattle.file_disk.proofs.Flushes.{on_true}
use Rattle.file_disk.proofs.buffered_disk.BufferedDiskSectorDisk.extend.Goals as goal

pub extend-done-requires : goal.extend-done-requires
extend-done-requires g c = let lt = above _ _ _ _ _ c.requires in omega (arith, lt)

pub returns-clause-longer : goal.returns-clause-longer
returns-clause-longer g c =
    ok_on _ _ c.told_write.ensures.done (λ done. size_is _ _ _ _ ∙ on_true _ c.extend-done.ensures.longer done)

pub returns-clause-zeros : goal.returns-clause-zeros
returns-clause-zeros g c = λ said.
    let is = word _ _ _ _ said in
    ok_on _ _ c.told_write.ensures.done (λ done.
    zeros_over _ _ c.extend-done.ensures.same_honest _ _ _ _ _ _ _ is (on_true _ c.extend-done.ensures.longer done)
    (on_true _ (c.extend-done.ensures.zeros is) done))

pub returns-clause-kept : goal.returns-clause-kept
returns-clause-kept g c = λ said.
    let is = word _ _ _ _ said in
    let old : Buffers = record {
      waiting = c.args.self.now.buffered.waiting;
      happened = g.F.ByteFile.events c.args.self.now.buffered.file;
      content = g.F.ByteFile.content c.args.self.now.buffered.file;
      sectors = c.args.self.now.buffered.sectors;
    } in
    let new : Buffers = record {
      waiting = c.extend-done.new.self.waiting;
      happened = g.F.ByteFile.events c.extend-done.new.self.file;
      content = g.F.ByteFile.content c.extend-done.new.self.file;
      sectors = c.extend-done.new.self.sectors;
    } in
    let lt = above _ _ _ _ _ c.requires in
    let sizes = longer_or_same _ _ _ _ _ (omega (arith, lt)) c.extend-done.ensures.longer c.extend-done.ensures.same_sectors in
    both_now IsLonger _ _ c.extend-done.ensures.same_honest _ _ _ _ _ _ is
    (lengthen_keeps old new _ sizes.0 c.extend-done.ensures.waits (c.extend-done.ensures.touched is) (c.extend-done.ensures.kept is))

pub returns-clause-time : goal.returns-clause-time
returns-clause-time g c =
    let lt = above _ _ _ _ _ c.requires in
    let sizes = longer_or_same _ _ _ _ _ (omega (arith, lt)) c.extend-done.ensures.longer c.extend-done.ensures.same_sectors in
    extends_over _ _ c.extend-done.ensures.same_honest _ _ _ _ _ _ _ sizes.0 sizes.1 c.told_write.ensures.later
    (λ a b. lengthen_extends _ _ _ _ _ sizes.0 sizes.1 (c.extend-done.ensures.touched a))

pub returns-clause-counted : goal.returns-clause-counted
returns-clause-counted g c = counted_over _ _ _ _ _ _ _ _ _ c.told_write.ensures.counted
