use Rattle.std.proofs.Common.{sym, subst}
use Rattle.rbg_game.specs.Meaning.{game_of}
use Rattle.certificate.specs.Refusals.{IsUnclaimed}
use Rattle.certificate.specs.Refusals.{IsUnclaimed as cause}
use Rattle.certificate.proofs.certified.claim_in.Goals as goal

pub returns-in_default-clause-fault : goal.returns-in_default-clause-fault
returns-in_default-clause-fault c =
    subst (IsUnclaimed (game_of c.args.game.now) c.args.head.now.position.now c.args.head.now.value.now) (sym c.at.ensures)
    (cause.no_position c.in_default.ensures)

pub returns-in_default-claimed_in-clause-fault : goal.returns-in_default-claimed_in-clause-fault
returns-in_default-claimed_in-clause-fault c =
    subst (IsUnclaimed (game_of c.args.game.now) c.args.head.now.position.now c.args.head.now.value.now) (sym c.at-in_default-claimed_in.ensures)
    (cause.no_value c.in_default-claimed_in.ensures)
