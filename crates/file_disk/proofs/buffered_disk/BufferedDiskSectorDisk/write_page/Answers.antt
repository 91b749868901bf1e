use Rattle.std.proofs.Common.{◌∙◌, ◌+◌, ◌*◌, ◌≤◌, ◌≡◌, ap, arith, subst, sym, ℕ}
use Rattle.sector_disk.specs.Disk.{Disk, Keeps, Steps}
use Rattle.sector_disk.specs.Pages.{IsOutside}
use Rattle.sector_disk.specs.lemmas.Moments.{throughout_step}
use Rattle.file_disk.specs.Buffered.{buffered_disk}
use Rattle.file_disk.specs.Buffers.{Buffers}
use Rattle.file_disk.specs.Shown.{shown}
use Rattle.file_disk.proofs.Disks.{word, within, sector_now, both_now, steps_over, write_steps, page_keeps, counted_over, ok_on}
use Rattle.file_disk.proofs.Flushes.{on_true}
use Rattle.file_disk.proofs.buffered_disk.BufferedDiskSectorDisk.write_page.Goals as goal

pub write_page-done-requires : goal.write_page-done-requires
write_page-done-requires g c =
    let room = within _ _ _ _ _ c.requires in
    omega (arith, room, c.from.ensures)

pub returns-clause-written : goal.returns-clause-written
returns-clause-written g c = λ said.
    let is = word _ _ _ _ said in
    let new : Buffers = record {
      waiting = c.write_page-done.new.self.waiting;
      happened = g.F.ByteFile.events c.write_page-done.new.self.file;
      content = g.F.ByteFile.content c.write_page-done.new.self.file;
      sectors = c.write_page-done.new.self.sectors;
    } in
    let room : 8 * c.args.page + 8 ≤ c.args.self.now.buffered.sectors = within _ _ _ _ _ c.requires in
    ok_on _ _ c.told_write.ensures.done (λ done. record {
      long = c.told-from;
      each = λ k lt. sector_now _ new _ _ (8 * c.args.page + k) (c.write_page-done.ensures.same_honest ∙ is)
          (omega (arith, lt, room, c.write_page-done.ensures.sectors))
          ∙ ap (λ (n : ℕ). shown new.waiting new.content (8 * n + k)) (sym c.from.ensures)
          ∙ on_true _ (c.write_page-done.ensures.written is) done k lt;
    })

pub returns-clause-put : goal.returns-clause-put
returns-clause-put g c =
    let told = c.write_page-done.ensures in
    let old : Buffers = record {
      waiting = c.args.self.now.buffered.waiting;
      happened = g.F.ByteFile.events c.args.self.now.buffered.file;
      content = g.F.ByteFile.content c.args.self.now.buffered.file;
      sectors = c.args.self.now.buffered.sectors;
    } in
    let new : Buffers = record {
      waiting = c.write_page-done.new.self.waiting;
      happened = g.F.ByteFile.events c.write_page-done.new.self.file;
      content = g.F.ByteFile.content c.write_page-done.new.self.file;
      sectors = c.write_page-done.new.self.sectors;
    } in
    let before : Disk = buffered_disk (g.F.ByteFile.honest c.args.self.now.buffered.file) old c.args.self.now.buffered.ends c.args.self.now.failed_writes in
    let after : Disk = buffered_disk (g.F.ByteFile.honest c.write_page-done.new.self.file) new c.write_page-done.new.self.ends
    c.told_write.new.failed_writes in
    let step : Steps before after = steps_over _ _ told.same_honest old new _ _ _ _ told.sectors c.told_write.ensures.later
    (λ a b. write_steps old new _ _ told.sectors (told.touched a)) in
    let outside : ((k : ℕ) → IsOutside c.args.page k → IsOutside c.from.result k) = λ k out. place out (c.from.ensures) in
    record {
      kept = λ said.
          let is = word _ _ _ _ said in
          throughout_step step (both_now (Keeps (IsOutside c.args.page)) _ _ told.same_honest old new _ _ _ _ is
          (page_keeps old new c.args.page told.sectors (told.touched is) (λ k out. told.others is k (outside k out)) (λ k out. told.only k (outside k out))));
      time = step.goes_on;
      same_size = step.same_size;
    }
  where
    place : {k n m : ℕ} → IsOutside n k → m ≡ n → IsOutside m k
    place {k} out is = subst (λ (p : ℕ). IsOutside p k) (sym is) out

pub returns-clause-counted : goal.returns-clause-counted
returns-clause-counted g c = counted_over _ _ _ _ _ _ _ _ _ c.told_write.ensures.counted
