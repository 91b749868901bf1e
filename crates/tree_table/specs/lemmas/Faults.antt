-- What a fault of the store is as a fault of the table.
use Rattle.page_store.specs.declared.fault.PageFault.{PageFault}
use Rattle.page_store.specs.declared.fault.PageFault.TheVariants as page
use Rattle.table.specs.declared.fault.TableFault.{TableFault}
use Rattle.table.specs.declared.fault.TableFault.TheVariants.{Disk, Damaged, TableFull, OutOfMemory, Closed}

-- what a fault of the store is as a fault of the table
abbrev pub fault_of : PageFault → TableFault
fault_of page.Disk = Disk
fault_of page.NotATable = Damaged
fault_of page.Damaged = Damaged
fault_of page.TableFull = TableFull
fault_of page.OutOfMemory = OutOfMemory
fault_of page.Closed = Closed
