use Rattle.std.proofs.Common.{◌≡◌, ℕ, ◌+◌, ◌*◌, ◌≤◌, ◌<◌, IsTrue}
use Rattle.sector_disk.specs.Disk.{sector, size, GoesOn}
use Rattle.sector_disk.specs.Pages.{eighth, HasSectors, IsOutside}
use Rattle.sector_disk.specs.lemmas.Disk.{KeepsThroughout}
use Rattle.page_store.proofs.page.put_changed.Given as goal

abbrev pub invariant-loop-part : goal.invariant-loop-part
invariant-loop-part g l =
    let start = g.D.SectorDisk.disk l.fn.disk in
    let here = g.D.SectorDisk.disk l.disk in
    record {
      same_size : size here ≡ size start;
      time : GoesOn start here;
      spared : here.failed_writes ≡ start.failed_writes;
      failures : g.D.SectorDisk.failures l.fn.disk ≤ g.D.SectorDisk.failures l.disk;
      kept : IsTrue start.honest → KeepsThroughout (IsOutside l.number) start here;
      later : IsTrue start.honest → (k : ℕ) → l.part ≤ k → sector here.now.contents (8 * l.number + k) ≡ sector start.now.contents (8 * l.number + k);
      written : IsTrue start.honest → HasSectors start.now.contents l.number l.was → (k : ℕ) → k < l.part
          → sector here.now.contents (8 * l.number + k) ≡ eighth k l.is;
    }
