use Rattle.std.proofs.Common.{◌+◌, ◌-◌, ◌≡◌, ◌<◌, suc, length, arith}
use Rattle.std.proofs.lemmas.List.{length-map}
use Rattle.rbg_game.specs.Meaning.{game_of, variable_of}
use Rattle.position_pack.proofs.SpelledLemmas.{decimal_comma}
use Rattle.position_pack.proofs.WordLemmas.{refused}
use Rattle.position_pack.proofs.ListedLemmas.{no_comma_left, no_item, item_read, no_last, all_read}
use Rattle.position_pack.proofs.read.read_values.Goals as goal

pub returns-in_err-word : goal.returns-in_err-word
returns-in_err-word c =
    let more : suc c.loop-index.index < length (game_of c.args.game.now).variables = omega
    (arith, c.loop-index-test.true, c.len-last.ensures, c.args.game.now.variables.ok.0, length-map c.args.game.now.variables.items variable_of) in
    refused _ _ c.from_residual.result c.from_residual.ensures
    (no_comma_left _ _ _ _ _ _ _ c.loop-index.invariant more c.in_err-word.ensures)

pub returns-in_err-read_value : goal.returns-in_err-read_value
returns-in_err-read_value c =
    let more : suc c.loop-index.index < length (game_of c.args.game.now).variables = omega
    (arith, c.loop-index-test.true, c.len-last.ensures, c.args.game.now.variables.ok.0, length-map c.args.game.now.variables.items variable_of) in
    refused _ _ c.from_residual-in_err-read_value.result c.from_residual-in_err-read_value.ensures
    (no_item _ _ _ _ _ _ _ _ _ (decimal_comma
    (game_of c.args.game.now) c.requires) c.loop-index.invariant more c.in_ok-word.ensures c.in_err-read_value.ensures)

pub loop-index-preserved : goal.loop-index-preserved
loop-index-preserved c =
    let more : suc c.loop-index.index < length (game_of c.args.game.now).variables = omega
    (arith, c.loop-index-test.true, c.len-last.ensures, c.args.game.now.variables.ok.0, length-map c.args.game.now.variables.items variable_of) in
    item_read _ _ _ _ _ _ _ _ _ _ _
    (decimal_comma (game_of c.args.game.now) c.requires) c.loop-index.invariant more c.in_ok-word.ensures c.in_ok-read_value.ensures c.push.ensures.items

pub returns-in_err-read_value-2 : goal.returns-in_err-read_value-2
returns-in_err-read_value-2 c =
    let here : c.loop-index.index ≡ c.len-last.result - 1 = omega (arith, c.loop-index-test.false, c.loop-index.auto) in
    let last : c.len-last.result - 1 + 1 ≡ length (game_of c.args.game.now).variables = omega
    (arith, c.requires.has_players, c.len-last.ensures, c.args.game.now.variables.ok.0, length-map c.args.game.now.variables.items variable_of) in
    refused _ _ c.from_residual-in_err-read_value-2.result c.from_residual-in_err-read_value-2.ensures
    (no_last _ _ _ _ _ _ _ _ c.loop-index.invariant here last c.in_err-read_value-2.ensures)

pub returns : goal.returns
returns c =
    let here : c.loop-index.index ≡ c.len-last.result - 1 = omega (arith, c.loop-index-test.false, c.loop-index.auto) in
    let last : c.len-last.result - 1 + 1 ≡ length (game_of c.args.game.now).variables = omega
    (arith, c.requires.has_players, c.len-last.ensures, c.args.game.now.variables.ok.0, length-map c.args.game.now.variables.items variable_of) in
    all_read _ _ _ _ _ _ _ _ _ _ c.loop-index.invariant here last c.in_ok-read_value-2.ensures c.push-2.ensures.items
