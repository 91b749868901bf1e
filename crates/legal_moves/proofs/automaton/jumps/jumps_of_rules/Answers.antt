use Rattle.std.proofs.Common.{IfOk, subst}
use Rattle.rbg_game.specs.Meaning.{game_of}
use Rattle.legal_moves.specs.Jumps.{AreJumpRows}
use Rattle.legal_moves.proofs.automata.CompiledLemmas.{rules_last, rules_ready}
use Rattle.legal_moves.proofs.automaton.jumps.jumps_of_rules.Goals as goal

pub rows_of-requires : goal.rows_of-requires
rows_of-requires c = record { ready = rules_ready (game_of c.args.game.now) c.args.tables.now c.requires.tables c.requires.sound }

pub returns : goal.returns
returns c =
    let game = game_of c.args.game.now in
    subst (λ e. IfOk c.rows_of.result (AreJumpRows game e)) (rules_last game c.args.tables.now c.requires.tables) c.rows_of.ensures
