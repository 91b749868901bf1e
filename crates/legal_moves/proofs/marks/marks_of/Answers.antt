use Rattle.std.proofs.Common.{get_or}
use Rattle.std.proofs.lemmas.List.{get_or_default}
use Rattle.legal_moves.proofs.automata.MarkLemmas.{one_marked}
use Rattle.legal_moves.proofs.marks.marks_of.Goals as goal

pub loop-place-preserved : goal.loop-place-preserved
loop-place-preserved c =
    let xs = c.args.places.now in
    let n = c.loop-place.place-index in
    one_marked xs n (get_or xs n 0) c.loop-place.row.items c.mark.new.row.items c.loop-place-test.true
    (get_or_default xs n 0 (get_or xs n 0) c.loop-place-test.true) c.loop-place.invariant c.in_ok-mark.ensures
