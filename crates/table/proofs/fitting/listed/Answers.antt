use Rattle.std.proofs.Common.{◌≡◌, ◌<◌, length, true, false, arith}
use Rattle.std.proofs.lemmas.Bool.{true_from_ne_false}
use Rattle.std.proofs.lemmas.Option.{slice_get-get_or, slice_get_within}
use Rattle.table.proofs.OrderMarks.{listed_none, listed_more, listed_twice, settled_as, below_is, all_listed}
use Rattle.table.proofs.fitting.listed.Goals as goal

pub loop-place-init : goal.loop-place-init
loop-place-init c = listed_none c.args.processed c.args.records.now c.args.order.now c.in_ok-marks.marks.items c.in_ok-marks.ensures.long c.in_ok-marks.ensures.none

pub returns-then-not-is_settled_as-clause-none : goal.returns-then-not-is_settled_as-clause-none
returns-then-not-is_settled_as-clause-none c = λ fits.
    let here = slice_get-get_or c.args.order.now c.loop-place.place 0 c.loop-place-test.true in
    let settles = settled_as c.args.records.now _ ((below_is _ _).1, (below_is _ _).0) (fits.settled c.loop-place.place _ here) in
    let there : c.is_settled_as.result ≡ true = c.is_settled_as.ensures.1 settles in
    let not : c.is_settled_as.result ≡ false = c.if-not-is_settled_as.true in
    cc

pub take-requires : goal.take-requires
take-requires c =
    let settles = c.is_settled_as.ensures.0 c.if-not-is_settled_as.false in
    record { within = omega (arith, c.loop-place.invariant.long, slice_get_within c.args.records.now _ settles.kept settles.found) }

pub returns-then-not-take-clause-none : goal.returns-then-not-take-clause-none
returns-then-not-take-clause-none c = λ fits.
    let here = slice_get-get_or c.args.order.now c.loop-place.place 0 c.loop-place-test.true in
    let met = true_from_ne_false _ (λ is.
    (let there : c.take.result ≡ true = c.take.ensures.found.1 is in let not : c.take.result ≡ false = c.if-not-take.true in cc)) in
    listed_twice c.args.processed c.args.records.now c.args.order.now c.loop-place.place _ c.loop-place.marks.items c.loop-place.invariant here met fits

pub loop-place-preserved : goal.loop-place-preserved
loop-place-preserved c =
    let here = slice_get-get_or c.args.order.now c.loop-place.place 0 c.loop-place-test.true in
    let settles = settled_as c.args.records.now _ (below_is _ _) (c.is_settled_as.ensures.0 c.if-not-is_settled_as.false) in
    let within : _ < length c.loop-place.marks.items = omega
    (arith, c.loop-place.invariant.long, slice_get_within c.args.records.now _ settles.kept settles.found) in
    let more = listed_more c.args.processed c.args.records.now c.args.order.now c.loop-place.place _ c.loop-place.marks.items c.loop-place.invariant here settles (c.take.ensures.found.0 c.if-not-take.false) within in
    rw c.take.ensures.marked more

pub returns-clause-fits : goal.returns-clause-fits
returns-clause-fits c = all_listed c.args.processed c.args.records.now c.args.order.now c.loop-place.place c.loop-place.marks.items c.loop-place.invariant (omega (arith, c.loop-place-test.false))

pub returns-clause-marks : goal.returns-clause-marks
returns-clause-marks c = λ k i is. c.loop-place.invariant.marked k i (omega (arith, c.loop-place-test.false, slice_get_within c.args.order.now k i is)) is
