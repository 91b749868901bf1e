use Rattle.std.proofs.Common.{◌∙◌}
use Rattle.rbg_game.specs.Meaning.{game_of}
use Rattle.rbg_read.proofs.ProperNames.{proper}
use Rattle.certificate.proofs.FaultLemmas.{no_game_of}
use Rattle.certificate.proofs.certified.game_in.Goals as goal

pub returns-in-Ok-clause-names : goal.returns-in-Ok-clause-names
returns-in-Ok-clause-names c = proper c.args.head.now.text.now (game_of c.in-Ok.game) c.in-Ok.ensures.reads

pub returns-in-Err-clause-fault : goal.returns-in-Err-clause-fault
returns-in-Err-clause-fault c =
    no_game_of c.args.head.now.text.now c.in-Err.fault c.at.result.fault (c.at.ensures ∙ c.from.ensures) c.in-Err.ensures.fault
