use Rattle.std.proofs.Common.{arith}
use Rattle.progress.proofs.Small.{the_small_game_has_four, the_text_is_read, white_wins}
use Rattle.progress.proofs.laws.the_small_game_is_solved.Goals as goal
use Rattle.witness.specs.Game.{witness_game}

pub returns : goal.returns
returns g c = λ sittings left image kept history may holds text aim many.
    let (finished, says) =
    c.it_gets_there.ensures sittings left image kept witness_game 4 history may holds (the_text_is_read kept text) (the_small_game_has_four kept aim)
    (omega (arith, many)) in
    white_wins kept aim finished says
