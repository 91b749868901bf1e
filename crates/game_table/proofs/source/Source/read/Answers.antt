use Rattle.std.proofs.Common.{◌∙◌, sym, subst}
use Rattle.rbg_game.specs.Meaning.{game_of}
use Rattle.rbg_game.specs.Names.{HasProperNames}
use Rattle.rbg_read.proofs.OneGame.{one_game}
use Rattle.rbg_read.proofs.ProperNames.{proper}
use Rattle.game_table.specs.lemmas.Laws.{texts_are_short}
use Rattle.game_table.proofs.source.Source.read.Goals as goal

pub returns-clause-one : goal.returns-clause-one
returns-clause-one c = λ game is.
    c.in_ok-compiled.ensures.game ∙ one_game c.args.text.now (game_of c.in_ok-game.game) game c.in_ok-game.ensures.reads is

pub returns-clause-short : goal.returns-clause-short
returns-clause-short c = texts_are_short c.args.text.now (game_of c.in_ok-game.game) c.in_ok-game.ensures.reads

pub invariant_of-result : goal.invariant_of-result
invariant_of-result c = (
  subst HasProperNames (sym c.in_ok-compiled.ensures.game)
      (proper c.args.text.now (game_of c.in_ok-game.game) c.in_ok-game.ensures.reads),
  tt,
)
