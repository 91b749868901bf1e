-- A store whose disk was read, and nothing else was done.
use Rattle.std.proofs.Common.{ℕ, ◌≤◌, refl}
use Rattle.sector_disk.specs.Disk.{Disk}
use Rattle.page_store.specs.Store.{Store, store_of, StoreWorks, IsUnchanged}
use Rattle.sector_disk.specs.Pages.{IsDiskRead}
use Rattle.page_store.proofs.Soundness.{works_read}

-- it is as it was but for the disk
pub only_disk : (old : Store) (disk : Disk) (failures : ℕ) → IsDiskRead old.disk disk
    → IsUnchanged old (store_of disk failures old.root old.marks old.closed old.holds)
only_disk old disk failures read = record {
  root = refl;
  marks = refl;
  closed = refl;
  shown = read.unchanged;
  failed_writes = read.spared;
  leaves = read.moments;
  holds = refl;
}

-- and nothing that a root needs was touched
pub works_from_disk : (old : Store) (disk : Disk) (failures : ℕ) → IsDiskRead old.disk disk → old.failures ≤ failures
    → StoreWorks old (store_of disk failures old.root old.marks old.closed old.holds)
works_from_disk old disk failures read later = works_read old _ read.time read.same_size later (only_disk old disk failures read)
