use Rattle.std.proofs.Common.{◌≡◌, ◌∙◌, arith, refl, sym}
use Rattle.sector_disk.specs.Disk.{Shown}
use Rattle.file_disk.proofs.Disks.{word, below, sector_now, both_now, now_same, steps_over, idle_steps, spared_over, ok_on}
use Rattle.file_disk.proofs.Flushes.{on_true}
use Rattle.file_disk.proofs.buffered_disk.BufferedDiskSectorDisk.read.Goals as goal

pub read-done-requires : goal.read-done-requires
read-done-requires g c = below _ _ _ _ _ c.requires

pub returns-clause-bytes : goal.returns-clause-bytes
returns-clause-bytes g c = λ said.
    let is = word _ _ _ _ said in
    ok_on _ _ c.told.ensures.done (λ done.
    on_true _ (c.read-done.ensures.bytes is) done ∙ sym (sector_now _ _ _ _ _ is (below _ _ _ _ _ c.requires)))

pub returns-clause-unchanged : goal.returns-clause-unchanged
returns-clause-unchanged g c = λ said.
    let is = word _ _ _ _ said in
    both_now (λ (a b : Shown). b ≡ a) _ _ c.read-done.ensures.same_honest _ _ _ _ _ _ is
    (now_same _ _ c.read-done.ensures.waits (c.read-done.ensures.touched is) (c.read-done.ensures.unchanged is) c.read-done.ensures.sectors)

pub returns-clause-time : goal.returns-clause-time
returns-clause-time g c = steps_over _ _ c.read-done.ensures.same_honest _ _ _ _ _ _ c.read-done.ensures.sectors (omega arith)
    (λ a b. idle_steps _ _ _ _ c.read-done.ensures.sectors (c.read-done.ensures.touched a) (c.read-done.ensures.unchanged a))

pub returns-clause-spared : goal.returns-clause-spared
returns-clause-spared g c = spared_over _ _ _ _ _ _ _ _ refl
