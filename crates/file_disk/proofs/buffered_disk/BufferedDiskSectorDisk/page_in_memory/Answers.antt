use Rattle.std.proofs.Common.{◌∙◌, ◌+◌, ◌*◌, ap, arith, sym, ℕ}
use Rattle.file_disk.specs.Buffers.{Buffers}
use Rattle.file_disk.specs.Shown.{shown}
use Rattle.file_disk.proofs.Disks.{word, sector_now, some_so}
use Rattle.file_disk.proofs.buffered_disk.BufferedDiskSectorDisk.page_in_memory.Goals as goal

pub returns : goal.returns
returns g c = λ said.
    let is = word _ _ _ _ said in
    let old : Buffers = record {
      waiting = c.args.self.now.buffered.waiting;
      happened = g.F.ByteFile.events c.args.self.now.buffered.file;
      content = g.F.ByteFile.content c.args.self.now.buffered.file;
      sectors = c.args.self.now.buffered.sectors;
    } in
    some_so c.page_in_memory.result (λ bytes shows. record {
      long = shows.long;
      each = λ k lt. sector_now _ old _ _ (8 * c.args.page + k) is (omega (arith, lt, shows.inside, c.from.ensures))
          ∙ ap (λ (n : ℕ). shown old.waiting old.content (8 * n + k)) (sym c.from.ensures)
          ∙ shows.each k lt;
    }) (c.page_in_memory.ensures is)
