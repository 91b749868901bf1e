use Rattle.std.proofs.Common.{ℕ, List, subst}
use Rattle.std.proofs.lemmas.Result.{IfOk-weaker}
use Rattle.std.specs.Io.KnownBytes.{Appends}
use Rattle.sector_disk.specs.lemmas.Moments.{still_honest}
use Rattle.witness.proofs.Listings.{as_it_began}
use Rattle.witness.proofs.printed.printed_as_it_began.Goals as goal

pub returns-in-Ok : goal.returns-in-Ok
returns-in-Ok g c = λ ready honest none.
    let does = (c.in-Ok.ensures.done ready).step.does honest in
    IfOk-weaker c.printed_beside_work.result _ _
    (λ done printed so.
    let (text, it, written) = printed so in
    subst (λ (bs : List ℕ). Appends (g.W.Write.contents c.args.out.now) (g.W.Write.contents c.printed_beside_work.new.out) bs) (as_it_began _ text it)
    written)
    (c.printed_beside_work.ensures (c.load.ensures.left.ready ready) (still_honest c.load.ensures.left.ahead.goes_on honest) _ does.is)
