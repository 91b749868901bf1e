use Rattle.std.proofs.Common.{sym, subst}
use Rattle.certificate.specs.Format.{lines}
use Rattle.certificate.specs.lemmas.Parts.{IsListRefused}
use Rattle.certificate.specs.lemmas.Parts.{IsListRefused as cause}
use Rattle.certificate.proofs.ListLoops.{passed_on}
use Rattle.certificate.proofs.lists.list_in.Goals as goal

pub returns-in_err-positions-clause-fault : goal.returns-in_err-positions-clause-fault
returns-in_err-positions-clause-fault c =
    passed_on _ c.from_residual.result _ c.from_residual.ensures
    (subst (IsListRefused c.args.packing.now c.args.manner c.args.player.now (lines c.args.bytes.now)) (sym c.in_err-positions.ensures.fault)
    (cause.no_heading c.in_err-positions.ensures.none))

pub returns-in_err-list-clause-fault : goal.returns-in_err-list-clause-fault
returns-in_err-list-clause-fault c =
    passed_on _ c.from_residual-in_err-list.result _ c.from_residual-in_err-list.ensures
    (cause.no_lines (lines c.in_ok-positions.positions.now) _ c.in_ok-positions.ensures.read c.in_err-list.ensures.fault)
