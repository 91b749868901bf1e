use Rattle.std.proofs.Common.{◌≡◌, ℕ, ◌+◌, ◌*◌, ◌≤◌, ◌<◌, length, IsTrue}
use Rattle.sector_disk.specs.Disk.{sector, size, GoesOn, LeavesOnly, MayLeave}
use Rattle.sector_disk.specs.Pages.{eighth}
use Rattle.sector_disk.proofs.disk.SectorDisk.read_page.Given as goal

abbrev pub invariant-loop-part : goal.invariant-loop-part
invariant-loop-part g l =
    let start = g.Self.SectorDisk.disk l.fn.self in
    let here = g.Self.SectorDisk.disk l.self in
    record {
      same_size : size here ≡ size start;
      time : GoesOn start here;
      spared : here.failed_writes ≡ start.failed_writes;
      failures : g.Self.SectorDisk.failures l.fn.self ≤ g.Self.SectorDisk.failures l.self;
      long : length l.into ≡ 4096;
      unchanged : IsTrue start.honest → here.now ≡ start.now;
      moments : IsTrue start.honest → LeavesOnly start here (MayLeave start.now);
      bytes : IsTrue start.honest → (k : ℕ) → k < l.part → sector start.now.contents (8 * l.page + k) ≡ eighth k l.into;
    }
