use Rattle.std.proofs.Common.{◌∙◌}
use Rattle.sector_disk.specs.Disk.{AllSynced, SyncedMore}
use Rattle.file_disk.specs.Buffers.{Buffers}
use Rattle.file_disk.proofs.Disks.{word, one_now, both_now, steps_over, write_steps, sync_steps, sync_all, sync_more, tried_keeps}
use Rattle.file_disk.proofs.Disks.{counted_over, ok_on, done_or_not, false_of}
use Rattle.file_disk.proofs.Flushes.{on_true}
use Rattle.file_disk.proofs.buffered_disk.BufferedDiskSectorDisk.sync.Goals as goal

pub returns-clause-all : goal.returns-clause-all
returns-clause-all g c = λ said.
    let old : Buffers = record {
      waiting = c.args.self.now.buffered.waiting;
      happened = g.F.ByteFile.events c.args.self.now.buffered.file;
      content = g.F.ByteFile.content c.args.self.now.buffered.file;
      sectors = c.args.self.now.buffered.sectors;
    } in
    let new : Buffers = record {
      waiting = c.sync-done.new.self.waiting;
      happened = g.F.ByteFile.events c.sync-done.new.self.file;
      content = g.F.ByteFile.content c.sync-done.new.self.file;
      sectors = c.sync-done.new.self.sectors;
    } in
    let is = word _ _ _ _ said in
    let now = c.sync-done.ensures.same_honest ∙ is in
    ok_on _ _ c.told_write.ensures.done (λ done.
    one_now AllSynced _ _ _ _ now
    (sync_all old new (on_true _ (c.sync-done.ensures.touched is) done) (on_true _ c.sync-done.ensures.none done)
    (c.sync-done.new.self.long now (on_true _ c.sync-done.ensures.found done))))

pub returns-clause-same : goal.returns-clause-same
returns-clause-same g c = λ said.
    let old : Buffers = record {
      waiting = c.args.self.now.buffered.waiting;
      happened = g.F.ByteFile.events c.args.self.now.buffered.file;
      content = g.F.ByteFile.content c.args.self.now.buffered.file;
      sectors = c.args.self.now.buffered.sectors;
    } in
    let new : Buffers = record {
      waiting = c.sync-done.new.self.waiting;
      happened = g.F.ByteFile.events c.sync-done.new.self.file;
      content = g.F.ByteFile.content c.sync-done.new.self.file;
      sectors = c.sync-done.new.self.sectors;
    } in
    let is = word _ _ _ _ said in
    let now = c.sync-done.ensures.same_honest ∙ is in
    both_now SyncedMore _ _ c.sync-done.ensures.same_honest _ _ _ _ _ _ is (done_or_not c.sync-done.result
    (λ done.
    sync_more old new c.sync-done.ensures.sectors (on_true _ (c.sync-done.ensures.touched is) done) (on_true _ c.sync-done.ensures.none done)
    (c.sync-done.new.self.long now (on_true _ c.sync-done.ensures.found done)) (c.sync-done.ensures.shown is))
    (λ not.
    tried_keeps old new c.sync-done.ensures.sectors (false_of _ (c.sync-done.ensures.tried is) not) (c.sync-done.ensures.shown is)
    c.sync-done.ensures.only))

pub returns-clause-time : goal.returns-clause-time
returns-clause-time g c =
    steps_over _ _ c.sync-done.ensures.same_honest _ _ _ _ _ _ c.sync-done.ensures.sectors c.told_write.ensures.later
    (λ a b. done_or_not c.sync-done.result
    (λ done. sync_steps _ _ _ _ c.sync-done.ensures.sectors (on_true _ (c.sync-done.ensures.touched a) done))
    (λ not. write_steps _ _ _ _ c.sync-done.ensures.sectors (false_of _ (c.sync-done.ensures.tried a) not)))

pub returns-clause-counted : goal.returns-clause-counted
returns-clause-counted g c = counted_over _ _ _ _ _ _ _ _ _ c.told_write.ensures.counted
