use Rattle.std.proofs.Common.{◌∙◌, refl, arith}
use Rattle.sector_disk.specs.lemmas.Moments.{goes_on_refl, goes_on_trans, still_honest, throughout_start}
use Rattle.page_store.proofs.PageSectors.{writes_one, written_more}
use Rattle.page_store.proofs.page.put_changed.Goals as goal

pub loop-part-init : goal.loop-part-init
loop-part-init g c = record {
  same_size = refl;
  time = goes_on_refl _;
  spared = refl;
  failures = omega arith;
  kept = λ h. throughout_start _ _;
  later = λ h k past. refl;
  written = λ h same k below. absurd (omega (arith, below));
}

pub loop-part-preserved : goal.loop-part-preserved
loop-part-preserved g c =
    let kept = c.loop-part.invariant in
    let step = c.put_part.ensures.time in
    record {
      same_size = step.same_size ∙ kept.same_size;
      time = goes_on_trans kept.time step.goes_on;
      spared = c.in_ok-put_part.ensures.counted.answered refl ∙ kept.spared;
      failures = omega (arith, kept.failures, c.put_part.ensures.cause.later);
      kept = λ h. writes_one _ c.loop-part.part _ _ _ _ refl c.loop-part-test.true h (kept.kept h) step c.put_part.ensures.others;
      later = λ h k past. (c.put_part.ensures.others (still_honest kept.time h)).contents _ (λ same. omega (arith, same, past))
          ∙ kept.later h k (omega (arith, past));
      written = λ h same.
          written_more _ _ _ c.loop-part.part _ _ _ refl (c.put_part.ensures.others (still_honest kept.time h)) (kept.written h same)
          (c.in_ok-put_part.ensures.written (still_honest kept.time h)
          (kept.later h _ (omega arith) ∙ same.each _ c.loop-part-test.true)) refl;
    }

pub returns-in_err-put_part-clause-put : goal.returns-in_err-put_part-clause-put
returns-in_err-put_part-clause-put g c =
    let kept = c.loop-part.invariant in
    let step = c.put_part.ensures.time in
    record {
      kept = λ h. writes_one _ c.loop-part.part _ _ _ _ refl c.loop-part-test.true h (kept.kept h) step c.put_part.ensures.others;
      time = goes_on_trans kept.time step.goes_on;
      same_size = step.same_size ∙ kept.same_size;
    }

pub returns-clause-put : goal.returns-clause-put
returns-clause-put g c =
    let kept = c.loop-part.invariant in record { kept = kept.kept; time = kept.time; same_size = kept.same_size }

pub returns-clause-written : goal.returns-clause-written
returns-clause-written g c = λ h same.
    record { long = c.told-is; each = λ k below. c.loop-part.invariant.written h same k (omega (arith, below, c.loop-part-test.false)) }
