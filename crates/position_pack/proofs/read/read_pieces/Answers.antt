use Rattle.std.proofs.Common.{◌+◌, ◌≡◌, ◌<◌, suc, length, refl, arith}
use Rattle.std.proofs.lemmas.List.{length-map}
use Rattle.rbg_game.specs.Meaning.{game_of, vertex_of}
use Rattle.position_pack.proofs.TellLemmas.{piece_comma}
use Rattle.position_pack.proofs.WordLemmas.{refused}
use Rattle.position_pack.proofs.ListedLemmas.{no_comma_left, no_item, item_read, no_last, all_read}
use Rattle.position_pack.proofs.read.read_pieces.Goals as goal

pub returns-in_err-word : goal.returns-in_err-word
returns-in_err-word c =
    let more : suc c.loop-index._index < length (game_of c.args.game.now).vertices = omega
    (arith, c.loop-index-test.true, c.len-index-end.ensures, c.args.game.now.vertices.ok.0, length-map c.args.game.now.vertices.items vertex_of) in
    refused _ _ c.from_residual.result c.from_residual.ensures
    (no_comma_left _ _ _ _ _ _ _ c.loop-index.invariant more c.in_err-word.ensures)

pub returns-in_err-read_piece : goal.returns-in_err-read_piece
returns-in_err-read_piece c =
    let more : suc c.loop-index._index < length (game_of c.args.game.now).vertices = omega
    (arith, c.loop-index-test.true, c.len-index-end.ensures, c.args.game.now.vertices.ok.0, length-map c.args.game.now.vertices.items vertex_of) in
    refused _ _ c.from_residual-in_err-read_piece.result c.from_residual-in_err-read_piece.ensures
    (no_item _ _ _ _ _ _ _ _ _ (λ k x lt. piece_comma
    (game_of c.args.game.now) c.requires.sound c.requires.names x) c.loop-index.invariant more c.in_ok-word.ensures c.in_err-read_piece.ensures)

pub loop-index-preserved : goal.loop-index-preserved
loop-index-preserved c =
    let more : suc c.loop-index._index < length (game_of c.args.game.now).vertices = omega
    (arith, c.loop-index-test.true, c.len-index-end.ensures, c.args.game.now.vertices.ok.0, length-map c.args.game.now.vertices.items vertex_of) in
    item_read _ _ _ _ _ _ _ _ _ _ _ (λ k x lt. piece_comma (game_of c.args.game.now) c.requires.sound c.requires.names x) c.loop-index.invariant more c.in_ok-word.ensures c.in_ok-read_piece.ensures c.push.ensures.items

pub returns-in_err-read_piece-2 : goal.returns-in_err-read_piece-2
returns-in_err-read_piece-2 c =
    let last : c.loop-index._index + 1 ≡ length (game_of c.args.game.now).vertices = omega (
      arith,
      c.loop-index-test.false,
      c.loop-index.auto,
      c.requires.sound.has_vertex,
      c.len-index-end.ensures,
      c.args.game.now.vertices.ok.0,
      length-map c.args.game.now.vertices.items vertex_of,
    ) in
    refused _ _ c.from_residual-in_err-read_piece-2.result c.from_residual-in_err-read_piece-2.ensures
    (no_last _ _ _ _ _ _ _ _ c.loop-index.invariant refl last c.in_err-read_piece-2.ensures)

pub returns : goal.returns
returns c =
    let last : c.loop-index._index + 1 ≡ length (game_of c.args.game.now).vertices = omega (
      arith,
      c.loop-index-test.false,
      c.loop-index.auto,
      c.requires.sound.has_vertex,
      c.len-index-end.ensures,
      c.args.game.now.vertices.ok.0,
      length-map c.args.game.now.vertices.items vertex_of,
    ) in
    all_read _ _ _ _ _ _ _ _ _ _ c.loop-index.invariant refl last c.in_ok-read_piece-2.ensures c.push-2.ensures.items
