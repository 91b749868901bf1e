-- What a fault of a layer below is as one of a table's file.
use Rattle.page_store.specs.declared.fault.PageFault.{PageFault}
use Rattle.page_store.specs.declared.fault.PageFault.TheVariants as page
use Rattle.root_pair.specs.declared.fault.RootFault.{RootFault}
use Rattle.root_pair.specs.declared.fault.RootFault.TheVariants as root
use Rattle.table.specs.declared.fault.TableFault.{TableFault}
use Rattle.table.specs.declared.fault.TableFault.TheVariants as table
use Rattle.game_file.specs.declared.fault.FileFault.{FileFault}
use Rattle.game_file.specs.declared.fault.FileFault.TheVariants.{Disk, NotATable, AlreadyATable, Damaged, TooSmall, TableFull, OutOfMemory}
use Rattle.game_file.specs.declared.fault.FileFault.TheVariants.{Closed}

-- what a fault of a table is
abbrev pub of_table : TableFault → FileFault
of_table table.Disk = Disk
of_table table.Damaged = Damaged
of_table table.TableFull = TableFull
of_table table.OutOfMemory = OutOfMemory
of_table table.Closed = Closed

-- what a fault of the pages below is
abbrev pub of_pages : PageFault → FileFault
of_pages page.Disk = Disk
of_pages page.NotATable = NotATable
of_pages page.Damaged = Damaged
of_pages page.TableFull = TableFull
of_pages page.OutOfMemory = OutOfMemory
of_pages page.Closed = Closed

-- what a fault of the root below is
abbrev pub of_root : RootFault → FileFault
of_root root.Read = Disk
of_root root.Write = Disk
of_root root.NotATable = NotATable
of_root root.AlreadyATable = AlreadyATable
of_root root.TooSmall = TooSmall
