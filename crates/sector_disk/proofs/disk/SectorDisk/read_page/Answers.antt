use Rattle.std.proofs.Common.{◌≡◌, ℕ, List, ◌++◌, ◌*◌, ◌∙◌, length, take, refl, ap, arith}
use Rattle.std.proofs.lemmas.Slice.{take-put_mid}
use borrow.Rule.Slice.PartMut.{same_len_mid}
use Rattle.sector_disk.specs.lemmas.Moments.{goes_on_refl, goes_on_trans, still_honest, leaves_now}
use Rattle.sector_disk.proofs.PageParts.{read_more, still_leaves, none_done}
use Rattle.sector_disk.proofs.disk.SectorDisk.read_page.Goals as goal

pub loop-part-init : goal.loop-part-init
loop-part-init g c = record {
  same_size = refl;
  time = goes_on_refl _;
  spared = refl;
  failures = omega arith;
  long = c.told-into;
  unchanged = λ h. refl;
  moments = λ h. leaves_now _ (λ image left. left);
  bytes = λ h k below. absurd (omega (arith, below));
}

pub loop-part-preserved : goal.loop-part-preserved
loop-part-preserved g c =
    let kept = c.loop-part.invariant in
    let step = c.read.ensures.time in
    record {
      same_size = step.same_size ∙ kept.same_size;
      time = goes_on_trans kept.time step.goes_on;
      spared = c.read.ensures.spared ∙ kept.spared;
      failures = omega (arith, kept.failures, c.read.ensures.cause.later);
      long = same_len_mid _ _ _ _ c.copy_from_slice.ensures.len ∙ kept.long;
      unchanged = λ h. c.read.ensures.unchanged (still_honest kept.time h) ∙ kept.unchanged h;
      moments = λ h. still_leaves _ _ _ h (kept.moments h) (kept.unchanged h) (c.read.ensures.unchanged (still_honest kept.time h)) step;
      bytes = λ h.
          read_more _ _ _ c.loop-part.part _ c.loop-part.into _ c.read.new.into (omega (arith, c.from.ensures))
          (ap (λ s. s.contents) (kept.unchanged h)) (kept.bytes h)
          (c.in_ok-read.ensures.bytes (still_honest kept.time h)) c.read.array_long (omega (arith, kept.long, c.loop-part-test.true))
          (take-put_mid (512 * c.loop-part.part) _ c.loop-part.into c.copy_from_slice.new.self _
          (let e : length c.copy_from_slice.new.self ≡ length c.read.new.into = ap
          (λ (b : List ℕ). length b) c.copy_from_slice.ensures.after in omega (arith, e, c.read.array_long))
          (omega (arith, kept.long, c.loop-part-test.true))
          ∙ ap (λ (b : List ℕ). take (512 * c.loop-part.part) c.loop-part.into ++ b) c.copy_from_slice.ensures.after);
    }

pub returns-clause-bytes : goal.returns-clause-bytes
returns-clause-bytes g c = λ h.
    record { long = c.loop-part.invariant.long; each = λ k below. c.loop-part.invariant.bytes h k (omega (arith, below, c.loop-part-test.false)) }

pub returns-in_err-read-clause-bytes : goal.returns-in_err-read-clause-bytes
returns-in_err-read-clause-bytes g c = λ h. none_done _ c.from_residual.result c.from_residual.ensures.0

pub returns-in_err-read-clause-read : goal.returns-in_err-read-clause-read
returns-in_err-read-clause-read g c =
    let kept = c.loop-part.invariant in
    let step = c.read.ensures.time in
    record {
      unchanged = λ h. c.read.ensures.unchanged (still_honest kept.time h) ∙ kept.unchanged h;
      moments = λ h. still_leaves _ _ _ h (kept.moments h) (kept.unchanged h) (c.read.ensures.unchanged (still_honest kept.time h)) step;
      time = goes_on_trans kept.time step.goes_on;
      same_size = step.same_size ∙ kept.same_size;
      spared = c.read.ensures.spared ∙ kept.spared;
    }

pub returns-clause-read : goal.returns-clause-read
returns-clause-read g c =
    let kept = c.loop-part.invariant in
    record { unchanged = kept.unchanged; moments = kept.moments; time = kept.time; same_size = kept.same_size; spared = kept.spared }

pub returns-clause-cause : goal.returns-clause-cause
returns-clause-cause g c = record { later = c.loop-part.invariant.failures; grew = λ is. absurd (cc) }
