use Rattle.std.proofs.Common.{ap, sym, arith, ◌∙◌}
use Rattle.file_disk.specs.declared.waiting_writes.WaitingWrites.{WaitingWrites}
use Rattle.file_disk.specs.Shown.{shown}
use Rattle.file_disk.proofs.Flushes.{true_on, on_true}
use Rattle.file_disk.proofs.WholePages.{whole_shown}
use Rattle.file_disk.proofs.buffered_file.BufferedFile.write_page.Goals as goal

pub invariant_of-self : goal.invariant_of-self
invariant_of-self g c = record {
  room = omega (arith, c.args.self.now.room, c.put_page.ensures.room);
  placed = c.args.self.now.placed;
  inside = c.put_page.ensures.inside _ (omega (arith, c.requires)) c.args.self.now.inside;
  long = c.args.self.now.long;
  ends = c.args.self.now.ends;
  written_room = c.args.self.now.written_room;
  written_inside = c.args.self.now.written_inside;
  in_file = c.args.self.now.in_file;
  copied = c.args.self.now.copied;
}

pub returns-then-put_page-clause-written : goal.returns-then-put_page-clause-written
returns-then-put_page-clause-written g c = λ honest k lt.
    whole_shown _ _ _ c.args.page _ c.if-put_page.ensures.put (g.F.ByteFile.content c.args.self.now.file) k lt

pub returns-then-put_page-clause-others : goal.returns-then-put_page-clause-others
returns-then-put_page-clause-others g c = λ honest k outside. c.put_page.ensures.others.shown (g.F.ByteFile.content c.args.self.now.file) k outside

pub returns-then-put_page-clause-only : goal.returns-then-put_page-clause-only
returns-then-put_page-clause-only g c = λ k outside waits. (waits.0, sym (c.put_page.ensures.others.slots k outside) ∙ waits.1)

pub returns-then-flush-clause-written : goal.returns-then-flush-clause-written
returns-then-flush-clause-written g c = λ honest.
    true_on c.put_page-then-flush.result (λ done k lt.
    whole_shown _ _ _ c.args.page _ (on_true _ c.put_page-then-flush.ensures.put done) (g.F.ByteFile.content c.flush.new.self.file) k lt)

pub returns-then-flush-clause-others : goal.returns-then-flush-clause-others
returns-then-flush-clause-others g c = λ honest k outside.
    c.put_page-then-flush.ensures.others.shown (g.F.ByteFile.content c.flush.new.self.file) k outside
    ∙ c.if-flush.ensures.shown honest k
    ∙ ap (λ (w : WaitingWrites). shown w (g.F.ByteFile.content c.args.self.now.file) k) c.if-put_page.ensures.refused
