use Rattle.std.proofs.Common.{◌≡◌, ◌∷◌, [], ℕ, length, get_or, true, false, arith, refl, ap, length-append, ◌∙◌}
use Rattle.std.specs.Prelude.{slice_index_or}
use Rattle.std.proofs.lemmas.List.{get_or_default}
use Rattle.sector_disk.specs.Disk.{Image, sector}
use Rattle.sector_disk.specs.Stops.{torn}
use Rattle.sector_disk.proofs.Stops.{each_more, left_here, ends_there, number_next, there_more}
use Rattle.sector_disk.proofs.stop.picked.Goals as goal

pub loop-place-preserved : goal.loop-place-preserved
loop-place-preserved c =
    let so_far = c.loop-place.invariant in
    let items = c.in_ok-push.ensures.items in
    let is : get_or c.args.synced.now c.loop-place.place false ≡ slice_index_or c.args.synced.now c.loop-place.place true =
    get_or_default c.args.synced.now c.loop-place.place false true (omega (arith, c.loop-place-test.true, c.requires.synced)) in
    record {
      size = ap (λ (p : Image). length p) items ∙ length-append c.loop-place.left.items (c.kept_or.result ∷ []) ∙ omega (arith, so_far.size);
      number = number_next _ _ _ _ _ so_far.number is c.number_after-number.ensures;
      there = there_more c.args.pick c.args.lasting c.loop-place.place c.loop-place.number c.digit_of-digit.result _ so_far.number c.digit_of-digit.ensures (rw c.if-ends_here.false at c.ends_here.ensures.goes_on) so_far.there;
      each = λ k lt. ap (λ (p : Image). sector p k) items ∙ each_more _ c.loop-place.left.items c.kept_or.result c.loop-place.place so_far.size so_far.each
          (left_here _ _ _ _ _ _ _ _ _ _ _ _ is c.was_at.ensures refl so_far.number c.filling-fill.ensures
          (c.torn_by-by_digit.ensures ∙ ap
          (λ (d : ℕ). torn d c.filling-fill.result c.was_at.result
          (sector c.args.written.now c.loop-place.place)) c.digit_of-digit.ensures) c.kept_or.ensures) k lt;
    }

pub returns-then-ends_here-clause-ends : goal.returns-then-ends_here-clause-ends
returns-then-ends_here-clause-ends c =
    let so_far = c.loop-place.invariant in
    let here = rw c.if-ends_here.true at c.ends_here.ensures.ends in
    let long : length c.loop-place.left.items ≡ c.loop-place.place = so_far.size in
    record {
      no_shorter = omega (arith, here.0, long);
      no_longer = omega (arith, c.loop-place-test.true, long);
      there = λ k from to. so_far.there k from (omega (arith, to, long));
      gone = λ short. ends_there c.args.pick c.loop-place.number _ c.loop-place.place
          (length c.loop-place.left.items) _ so_far.number long c.digit_of-digit.ensures here.1;
    }
