-- What is asked of a game with its packing.
use Rattle.rbg_game.specs.Meaning.{game_of}
use Rattle.rbg_game.specs.Names.{HasProperNames}
use Rattle.rbg_game.specs.Sound.{IsSoundGame}
use Rattle.certificate_writer.specs.declared.packer.Packer.{Packer}

-- its game is within the limits, and its names are proper
abbrev pub IsProper : Packer → Type 0
IsProper packer = IsSoundGame (game_of packer.game) × HasProperNames (game_of packer.game)
