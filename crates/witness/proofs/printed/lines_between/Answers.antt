use Rattle.witness.proofs.Listings.{all_between, some_kept}
use Rattle.witness.proofs.printed.lines_between.Goals as goal

pub returns-clause-go_on : goal.returns-clause-go_on
returns-clause-go_on g c = λ ready honest some done.
    let first = c.in_ok-work_and_grow.ensures.go_on ready honest in
    let ready_mid = c.work_and_grow.ensures.ready ready in
    let (kept, is) = some_kept _ (first.loaded some) in
    let begun = c.in_ok-begun.ensures.begun ready_mid first.honest kept is c.if-not-begun.false in
    let ended =
    c.in_ok-print_and_end.ensures.ended (c.begin.ensures.ready ready_mid) begun.go_on.honest (begun.go_on.loaded (first.loaded some)) kept.table _
    begun.version 0 begun.stands in
    all_between g.F.GameFile.stores g.F.GameFile.state g.F.Versions.is_version g.F.Versions.are_two _ _ _ _ kept _ _ _ first begun ended
