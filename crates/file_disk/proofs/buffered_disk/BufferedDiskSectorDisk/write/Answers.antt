use Rattle.std.proofs.Common.{◌∙◌, ◌≢◌, arith, ℕ}
use Rattle.sector_disk.specs.Disk.{Keeps}
use Rattle.file_disk.specs.Buffers.{Buffers}
use Rattle.file_disk.proofs.Disks.{word, below, sector_now, both_now, steps_over, write_steps, write_keeps, counted_over, ok_on}
use Rattle.file_disk.proofs.Flushes.{on_true}
use Rattle.file_disk.proofs.buffered_disk.BufferedDiskSectorDisk.write.Goals as goal

pub write-done-requires : goal.write-done-requires
write-done-requires g c = below _ _ _ _ _ c.requires

pub returns-clause-written : goal.returns-clause-written
returns-clause-written g c = λ said.
    let is = word _ _ _ _ said in
    let lt = below _ _ _ _ _ c.requires in
    ok_on _ _ c.told_write.ensures.done (λ done.
    sector_now _ _ _ _ _ (c.write-done.ensures.same_honest ∙ is) (omega (arith, lt, c.write-done.ensures.sectors))
    ∙ on_true _ (c.write-done.ensures.written is) done)

pub returns-clause-others : goal.returns-clause-others
returns-clause-others g c = λ said.
    let is = word _ _ _ _ said in
    let old : Buffers = record {
      waiting = c.args.self.now.buffered.waiting;
      happened = g.F.ByteFile.events c.args.self.now.buffered.file;
      content = g.F.ByteFile.content c.args.self.now.buffered.file;
      sectors = c.args.self.now.buffered.sectors;
    } in
    let new : Buffers = record {
      waiting = c.write-done.new.self.waiting;
      happened = g.F.ByteFile.events c.write-done.new.self.file;
      content = g.F.ByteFile.content c.write-done.new.self.file;
      sectors = c.write-done.new.self.sectors;
    } in
    both_now (Keeps (λ (k : ℕ). k ≢ c.args.at)) _ _ c.write-done.ensures.same_honest _ _ _ _ _ _ is
    (write_keeps old new _ c.write-done.ensures.sectors (c.write-done.ensures.touched is) (c.write-done.ensures.others is) c.write-done.ensures.only)

pub returns-clause-time : goal.returns-clause-time
returns-clause-time g c =
    steps_over _ _ c.write-done.ensures.same_honest _ _ _ _ _ _ c.write-done.ensures.sectors c.told_write.ensures.later
    (λ a b. write_steps _ _ _ _ c.write-done.ensures.sectors (c.write-done.ensures.touched a))

pub returns-clause-counted : goal.returns-clause-counted
returns-clause-counted g c = counted_over _ _ _ _ _ _ _ _ _ c.told_write.ensures.counted
