use Rattle.std.proofs.Common.{◌≡◌, ℕ, ◌+◌, ◌*◌, ◌≤◌, ◌<◌, IsTrue}
use Rattle.sector_disk.specs.Disk.{sector, size, GoesOn}
use Rattle.sector_disk.specs.Pages.{eighth, IsOutside}
use Rattle.sector_disk.specs.lemmas.Disk.{KeepsThroughout}
use Rattle.sector_disk.proofs.disk.SectorDisk.write_page.Given as goal

abbrev pub invariant-loop-part : goal.invariant-loop-part
invariant-loop-part g l =
    let start = g.Self.SectorDisk.disk l.fn.self in
    let here = g.Self.SectorDisk.disk l.self in
    record {
      same_size : size here ≡ size start;
      time : GoesOn start here;
      spared : here.failed_writes ≡ start.failed_writes;
      failures : g.Self.SectorDisk.failures l.fn.self ≤ g.Self.SectorDisk.failures l.self;
      kept : IsTrue start.honest → KeepsThroughout (IsOutside l.page) start here;
      written : IsTrue start.honest → (k : ℕ) → k < l.part → sector here.now.contents (8 * l.page + k) ≡ eighth k l.from;
    }
