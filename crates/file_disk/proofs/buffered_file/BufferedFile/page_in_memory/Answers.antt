use Rattle.std.proofs.Common.{sym, ◌∙◌}
use Rattle.file_disk.proofs.Disks.{some_so}
use Rattle.file_disk.proofs.WholePages.{shows_waiting, shows_written}
use Rattle.file_disk.proofs.buffered_file.BufferedFile.page_in_memory.Goals as goal

pub returns-in-Some : goal.returns-in-Some
returns-in-Some g c = λ honest.
    shows_waiting c.args.self.now.waiting _ _ _ _ c.in-Some.ensures c.args.self.now.inside

pub returns-in-None : goal.returns-in-None
returns-in-None g c = λ honest.
    some_so c.whole_page-in-None.result (λ bytes waits.
    shows_written c.args.self.now.waiting c.args.self.now.written _ _ _ _ waits (sym c.place.ensures.is ∙ c.in-None.is) c.args.self.now.written_inside
    (c.args.self.now.in_file honest)) c.whole_page-in-None.ensures
