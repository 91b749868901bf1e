use Rattle.rbg_game.specs.Meaning.{game_of}
use Rattle.rbg_read.proofs.ProperNames.{proper}
use Rattle.certificate_writer.proofs.packer.Packer.read.Goals as goal

pub returns-in-Ok : goal.returns-in-Ok
returns-in-Ok c = (c.in-Ok.ensures.sound, proper c.args.text.now (game_of c.in-Ok.game) c.in-Ok.ensures.reads)
