use Rattle.std.proofs.Common.{ℕ, arith, refl, sym, subst, below_more, ◌∙◌, Bool}
use Rattle.std.specs.Prelude.{IsTrue}
use Rattle.file_disk.specs.lemmas.WaitingSectors.{IsInFile}
use Rattle.file_disk.proofs.Flushes.{puts_then}
use Rattle.file_disk.proofs.Events.{writes_then}
use Rattle.file_disk.proofs.flush.put_page.Goals as goal

pub returns-then-not-put_one-clause-touched : goal.returns-then-not-put_one-clause-touched
returns-then-not-put_one-clause-touched g c = λ honest.
    let now : IsTrue (g.F.ByteFile.honest c.loop-sector.file) = subst (λ (b : Bool). IsTrue b) (sym c.loop-sector.invariant.1) honest in
    writes_then (c.loop-sector.invariant.0 honest).3 (c.put_one.ensures.touched now)

pub loop-sector-preserved : goal.loop-sector-preserved
loop-sector-preserved g c = (
  λ honest.
      let now : IsTrue (g.F.ByteFile.honest c.loop-sector.file) = subst (λ (b : Bool). IsTrue b) (sym c.loop-sector.invariant.1) honest in
      let so_far = c.loop-sector.invariant.0 honest in
      let this = c.if-not-put_one.ensures.puts now in (
        puts_then _ _ _ _ _ _ _ so_far.0 this,
        below_more (λ (s : ℕ). IsInFile c.args.waiting.now.pages.items c.args.waiting.now.bytes.items
            (g.F.ByteFile.content c.put_one.new.file) c.args.place s) _
            (λ s lt. this.stays refl c.args.place s c.requires.there (omega arith) (so_far.1 s lt)) (c.if-not-put_one.ensures.put now),
        c.put_one.ensures.lasts now ∙ so_far.2,
        writes_then so_far.3 (c.put_one.ensures.touched now),
        (c.if-not-put_one.ensures.counted now).spared ∙ so_far.4,
      ),
  c.put_one.ensures.same_honest ∙ c.loop-sector.invariant.1,
)
