use Rattle.std.proofs.Common.{◌≡◌, ◌-◌, ◌^◌, ◌≤◌, true}
use Rattle.std.specs.Prelude.{IsTrue}
use Rattle.file_disk.specs.Touched.{WritesOnly}
use Rattle.file_disk.specs.lemmas.WaitingSectors.{AreInFile, Puts}
use Rattle.file_disk.proofs.flush.put_all.Given as goal

abbrev pub invariant-loop-place : goal.invariant-loop-place
invariant-loop-place g l = (IsTrue (g.F.ByteFile.honest l.fn.file)
    → Puts l.waiting.pages.items l.waiting.count l.waiting.bytes.items (g.F.ByteFile.content l.fn.file) (g.F.ByteFile.content l.file) true
    × AreInFile l.waiting.pages.items l.waiting.count l.waiting.bytes.items 0 l.next (g.F.ByteFile.content l.file)
    × (g.F.ByteFile.durable l.file ≡ g.F.ByteFile.durable l.fn.file)
    × WritesOnly l.waiting (g.F.ByteFile.events l.fn.file) (g.F.ByteFile.events l.file)
    (g.F.ByteFile.content l.fn.file) (g.F.ByteFile.content l.file)
    × (g.F.ByteFile.failures l.file ≡ g.F.ByteFile.failures l.fn.file))
    × (g.F.ByteFile.honest l.file ≡ g.F.ByteFile.honest l.fn.file)
    × (l.next ≤ 2 ^ 64 - 1)

abbrev pub decreases-loop-place : goal.decreases-loop-place
decreases-loop-place g l = 2 ^ 64 - l.next
