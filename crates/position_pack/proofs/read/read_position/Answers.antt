use Rattle.rbg_game.specs.Meaning.{game_of}
use Rattle.position_pack.proofs.WordLemmas.{refused}
use Rattle.position_pack.proofs.SpelledLemmas.{has_words, words_told, spelled}
use Rattle.position_pack.proofs.read.read_position.Goals as goal

pub returns-in_err-words : goal.returns-in_err-words
returns-in_err-words c =
    refused _ _ c.from_residual.result c.from_residual.ensures
    (λ at is. c.in_err-words.ensures _ _ _ _ _ (has_words (game_of c.args.game.now) c.requires.sound c.requires.names at c.args.text.now is))

pub returns-in_err-mover : goal.returns-in_err-mover
returns-in_err-mover c =
    refused _ _ c.from_residual-in_err-mover.result c.from_residual-in_err-mover.ensures
    (λ at is. c.in_err-mover.ensures at.state.mover
    (words_told (game_of c.args.game.now) c.requires.sound c.requires.names at c.args.text.now _ _ _ _ _ c.in_ok-words.ensures is).role_is)

pub returns-in_err-place : goal.returns-in_err-place
returns-in_err-place c =
    refused _ _ c.from_residual-in_err-place.result c.from_residual-in_err-place.ensures
    (λ at is. c.in_err-place.ensures at.place
    (words_told (game_of c.args.game.now) c.requires.sound c.requires.names at c.args.text.now _ _ _ _ _ c.in_ok-words.ensures is).place_is)

pub returns-in_err-vertex : goal.returns-in_err-vertex
returns-in_err-vertex c =
    refused _ _ c.from_residual-in_err-vertex.result c.from_residual-in_err-vertex.ensures
    (λ at is. c.in_err-vertex.ensures at.state.vertex
    (words_told (game_of c.args.game.now) c.requires.sound c.requires.names at c.args.text.now _ _ _ _ _ c.in_ok-words.ensures is).vertex_is)

pub returns-in_err-pieces : goal.returns-in_err-pieces
returns-in_err-pieces c =
    refused _ _ c.from_residual-in_err-pieces.result c.from_residual-in_err-pieces.ensures
    (λ at is. c.in_err-pieces.ensures at.state.pieces.items
    (words_told (game_of c.args.game.now) c.requires.sound c.requires.names at c.args.text.now _ _ _ _ _ c.in_ok-words.ensures is).pieces_are)

pub returns-in_err-values : goal.returns-in_err-values
returns-in_err-values c =
    refused _ _ c.from_residual-in_err-values.result c.from_residual-in_err-values.ensures
    (λ at is. c.in_err-values.ensures at.state.values.items
    (words_told (game_of c.args.game.now) c.requires.sound c.requires.names at c.args.text.now _ _ _ _ _ c.in_ok-words.ensures is).values_are)

pub returns : goal.returns
returns c =
    spelled (game_of c.args.game.now) c.requires.sound c.requires.names _ c.args.text.now _ _ _ _ _ c.in_ok-words.ensures record {
      role_is = c.in_ok-mover.ensures;
      place_is = c.in_ok-place.ensures;
      vertex_is = c.in_ok-vertex.ensures;
      pieces_are = c.in_ok-pieces.ensures;
      values_are = c.in_ok-values.ensures;
    }
