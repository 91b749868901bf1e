use Rattle.std.proofs.Common.{◌≡◌, ◌∙◌, ◌+◌, ◌*◌, ◌≤◌, ℕ, IsTrue, ap, arith, refl, subst, sym}
use Rattle.sector_disk.specs.Disk.{Disk, Shown, MayLeave, Steps}
use Rattle.sector_disk.specs.lemmas.Moments.{leaves_step}
use Rattle.file_disk.specs.Buffered.{buffered_disk}
use Rattle.file_disk.specs.Buffers.{Buffers}
use Rattle.file_disk.specs.Shown.{shown}
use Rattle.file_disk.proofs.Disks.{word, within, sector_now, both_now, now_same, steps_over, idle_steps, spared_over, ok_on}
use Rattle.file_disk.proofs.Flushes.{on_true}
use Rattle.file_disk.proofs.buffered_disk.BufferedDiskSectorDisk.read_page.Goals as goal

pub read_page-done-requires : goal.read_page-done-requires
read_page-done-requires g c =
    let room = within _ _ _ _ _ c.requires in
    omega (arith, room, c.from.ensures)

pub returns-clause-bytes : goal.returns-clause-bytes
returns-clause-bytes g c = λ said.
    let is = word _ _ _ _ said in
    let old : Buffers = record {
      waiting = c.args.self.now.buffered.waiting;
      happened = g.F.ByteFile.events c.args.self.now.buffered.file;
      content = g.F.ByteFile.content c.args.self.now.buffered.file;
      sectors = c.args.self.now.buffered.sectors;
    } in
    let room : 8 * c.args.page + 8 ≤ old.sectors = within _ _ _ _ _ c.requires in
    ok_on _ _ c.told.ensures.done (λ done. record {
      long = c.read_page-done.array_long;
      each = λ k lt. sector_now _ old _ _ (8 * c.args.page + k) is (omega (arith, lt, room))
          ∙ ap (λ (n : ℕ). shown old.waiting old.content (8 * n + k)) (sym c.from.ensures)
          ∙ sym (on_true _ (c.read_page-done.ensures.bytes is) done k lt);
    })

pub returns-clause-read : goal.returns-clause-read
returns-clause-read g c =
    let old : Buffers = record {
      waiting = c.args.self.now.buffered.waiting;
      happened = g.F.ByteFile.events c.args.self.now.buffered.file;
      content = g.F.ByteFile.content c.args.self.now.buffered.file;
      sectors = c.args.self.now.buffered.sectors;
    } in
    let new : Buffers = record {
      waiting = c.read_page-done.new.self.waiting;
      happened = g.F.ByteFile.events c.read_page-done.new.self.file;
      content = g.F.ByteFile.content c.read_page-done.new.self.file;
      sectors = c.read_page-done.new.self.sectors;
    } in
    let before : Disk = buffered_disk (g.F.ByteFile.honest c.args.self.now.buffered.file) old c.args.self.now.buffered.ends c.args.self.now.failed_writes in
    let after : Disk = buffered_disk (g.F.ByteFile.honest c.read_page-done.new.self.file) new c.read_page-done.new.self.ends c.args.self.now.failed_writes in
    let told = c.read_page-done.ensures in
    let same : (IsTrue before.honest → after.now ≡ before.now) = λ said.
    let is = word _ _ _ _ said in
    both_now (λ (a b : Shown). b ≡ a) _ _ told.same_honest old new _ _ _ _ is (now_same old new told.waits (told.touched is) (told.unchanged is) told.sectors) in
    let step : Steps before after = steps_over _ _ told.same_honest old new _ _ _ _ told.sectors (omega arith)
    (λ a b. idle_steps old new _ _ told.sectors (told.touched a) (told.unchanged a)) in
    record {
      unchanged = same;
      moments = λ said. leaves_step step (λ image left. left) (λ image left. subst (λ (s : Shown). MayLeave s image) (same said) left);
      time = step.goes_on;
      same_size = step.same_size;
      spared = spared_over _ _ old new _ _ _ _ refl;
    }
