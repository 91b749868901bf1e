-- One call after another, on a file.
use Rattle.std.proofs.Common.{refl, ◌∙◌}
use Rattle.table.specs.declared.fault.TableFault.{TableFault}
use Rattle.table.specs.declared.fault.TableFault.TheVariants.{OutOfMemory}
use Rattle.tree_table.specs.lemmas.Frames as work
use Rattle.tree_file.specs.Calls.{FileStays, FileGoesOn, FileFails}
use Rattle.tree_file.specs.File.{File}

pub stays_here : (file : File) → FileStays file file
stays_here file = record { work = work.stays_here file.work; game = refl }

pub stays_then : {a b c : File} → FileStays a b → FileStays b c → FileStays a c
stays_then first second = record { work = work.stays_then first.work second.work; game = second.game ∙ first.game }

pub stays_goes_on : {a b : File} → FileStays a b → FileGoesOn a b
stays_goes_on it = record { work = work.stays_goes_on it.work; game = it.game }

pub goes_on_then : {a b c : File} → FileGoesOn a b → FileGoesOn b c → FileGoesOn a c
goes_on_then first second = record { work = work.goes_on_then first.work second.work; game = second.game ∙ first.game }

pub fails_since : {a b c : File} (fault : TableFault) → FileGoesOn a b → FileFails b c fault → FileFails a c fault
fails_since fault first it = record { work = work.fails_since fault first.work it.work; game = it.game ∙ first.game }

pub memory_fails : {a b : File} → FileGoesOn a b → FileFails a b OutOfMemory
memory_fails ahead = record { work = work.memory_fails ahead.work; game = ahead.game }
