use Rattle.std.proofs.Common.{◌≡◌, ℕ, ◌<◌, true}
use Rattle.std.specs.Prelude.{IsTrue}
use Rattle.file_disk.specs.Touched.{WritesOnly}
use Rattle.file_disk.specs.lemmas.WaitingSectors.{IsInFile, Puts}
use Rattle.file_disk.proofs.flush.put_page.Given as goal

abbrev pub invariant-loop-sector : goal.invariant-loop-sector
invariant-loop-sector g l = (IsTrue (g.F.ByteFile.honest l.fn.file)
    → Puts l.waiting.pages.items l.waiting.count l.waiting.bytes.items (g.F.ByteFile.content l.fn.file) (g.F.ByteFile.content l.file) true
    × ((s : ℕ) → s < l.sector → IsInFile l.waiting.pages.items l.waiting.bytes.items (g.F.ByteFile.content l.file) l.place s)
    × (g.F.ByteFile.durable l.file ≡ g.F.ByteFile.durable l.fn.file)
    × WritesOnly l.waiting (g.F.ByteFile.events l.fn.file) (g.F.ByteFile.events l.file)
    (g.F.ByteFile.content l.fn.file) (g.F.ByteFile.content l.file)
    × (g.F.ByteFile.failures l.file ≡ g.F.ByteFile.failures l.fn.file))
    × (g.F.ByteFile.honest l.file ≡ g.F.ByteFile.honest l.fn.file)
