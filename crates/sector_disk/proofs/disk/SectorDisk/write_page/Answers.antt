use Rattle.std.proofs.Common.{◌∙◌, refl, arith}
use Rattle.sector_disk.specs.lemmas.Moments.{goes_on_refl, goes_on_trans, still_honest, throughout_start}
use Rattle.sector_disk.proofs.PageParts.{none_done}
use Rattle.sector_disk.proofs.PageWrites.{writes_one, written_more}
use Rattle.sector_disk.proofs.disk.SectorDisk.write_page.Goals as goal

pub loop-part-init : goal.loop-part-init
loop-part-init g c = record {
  same_size = refl;
  time = goes_on_refl _;
  spared = refl;
  failures = omega arith;
  kept = λ h. throughout_start _ _;
  written = λ h k below. absurd (omega (arith, below));
}

pub loop-part-preserved : goal.loop-part-preserved
loop-part-preserved g c =
    let kept = c.loop-part.invariant in
    let step = c.write.ensures.time in
    record {
      same_size = step.same_size ∙ kept.same_size;
      time = goes_on_trans kept.time step.goes_on;
      spared = c.in_ok-write.ensures.counted.answered refl ∙ kept.spared;
      failures = omega (arith, kept.failures, c.write.ensures.cause.later);
      kept = λ h. writes_one _ c.loop-part.part _ _ _ _ (omega (arith, c.from.ensures)) c.loop-part-test.true h (kept.kept h) step c.write.ensures.others;
      written = λ h.
          written_more _ _ _ c.loop-part.part _ _ _ (omega (arith, c.from.ensures)) (c.write.ensures.others (still_honest kept.time h)) (kept.written h)
          (c.in_ok-write.ensures.written (still_honest kept.time h)) c.sector_of.ensures;
    }

pub returns-in_err-write-clause-written : goal.returns-in_err-write-clause-written
returns-in_err-write-clause-written g c = λ h. none_done _ c.from_residual.result c.from_residual.ensures.0

pub returns-in_err-write-clause-put : goal.returns-in_err-write-clause-put
returns-in_err-write-clause-put g c =
    let kept = c.loop-part.invariant in
    let step = c.write.ensures.time in
    record {
      kept = λ h. writes_one _ c.loop-part.part _ _ _ _ (omega (arith, c.from.ensures)) c.loop-part-test.true h (kept.kept h) step c.write.ensures.others;
      time = goes_on_trans kept.time step.goes_on;
      same_size = step.same_size ∙ kept.same_size;
    }

pub returns-clause-put : goal.returns-clause-put
returns-clause-put g c =
    let kept = c.loop-part.invariant in record { kept = kept.kept; time = kept.time; same_size = kept.same_size }

pub returns-clause-written : goal.returns-clause-written
returns-clause-written g c = λ h.
    record { long = c.told-from; each = λ k below. c.loop-part.invariant.written h k (omega (arith, below, c.loop-part-test.false)) }

pub returns-clause-cause : goal.returns-clause-cause
returns-clause-cause g c = record { later = c.loop-part.invariant.failures; grew = λ is. absurd (cc) }
