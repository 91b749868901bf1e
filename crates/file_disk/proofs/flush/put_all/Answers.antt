use Rattle.std.proofs.Common.{Bool, inl, inr, refl, sym, subst, ◌∙◌}
use Rattle.std.specs.Prelude.{IsTrue}
use Rattle.std.proofs.lemmas.Bool.{cases_lt}
use Rattle.file_disk.specs.WaitingSectors.{page_at}
use Rattle.file_disk.proofs.Flushes.{puts_then}
use Rattle.file_disk.proofs.Events.{writes_then}
use Rattle.file_disk.proofs.flush.put_all.Goals as goal

pub returns-in_default-put_from-clause-touched : goal.returns-in_default-put_from-clause-touched
returns-in_default-put_from-clause-touched g c = λ honest.
    let now : IsTrue (g.F.ByteFile.honest c.loop-place.file) = subst (λ (b : Bool). IsTrue b) (sym c.loop-place.invariant.1) honest in
    writes_then (c.loop-place.invariant.0 honest).3 (c.put_from.ensures.touched now)

pub loop-place-preserved : goal.loop-place-preserved
loop-place-preserved g c = (
  λ honest.
      let now : IsTrue (g.F.ByteFile.honest c.loop-place.file) = subst (λ (b : Bool). IsTrue b) (sym c.loop-place.invariant.1) honest in
      let so_far = c.loop-place.invariant.0 honest in
      let this = c.in-Some-put_from.ensures.puts now in
      let pages = c.args.waiting.now.pages.items in (
        puts_then _ _ _ _ _ _ _ so_far.0 this,
        λ p s p_lt s_lt from to. elim (cases_lt (page_at pages p).number (page_at pages c.in-Some.place).number) [
          | inl before ↦ this.stays refl p s p_lt s_lt (so_far.1 p s p_lt s_lt from (c.in-Some.ensures.least p p_lt before))
          | inr behind ↦ c.in-Some-put_from.ensures.put now p s p_lt s_lt behind to
        ],
        c.put_from.ensures.lasts now ∙ so_far.2,
        writes_then so_far.3 (c.put_from.ensures.touched now),
        (c.in-Some-put_from.ensures.counted now).spared ∙ so_far.4,
      ),
  c.put_from.ensures.same_honest ∙ c.loop-place.invariant.1,
  c.in-Some-put_from.ensures.later.1,
)
