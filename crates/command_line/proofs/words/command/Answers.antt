use Rattle.std.proofs.Common.{ℕ, take}
use Rattle.clap.specs.Words.{App, with_subcommand}
use Rattle.std.specs.List.{fold}
use Rattle.std.specs.Prelude.{map}
use Rattle.command_line.specs.Commands.{leaf}
use Rattle.command_line.specs.Words.{alone_program, commands, shape_in, actions, audit, certify, check, create, game, grow, load, look, migrate, moves, session}
use Rattle.command_line.proofs.words.command.Goals as goal

-- the program with the first commands
abbrev so_far : ℕ → App
so_far k = fold with_subcommand (leaf alone_program) (take k (map shape_in commands))

pub returns : goal.returns
returns c =
    let has_create = c.in_ok-command.ensures (leaf alone_program) (shape_in create) c.whole_command.ensures c.create_command.ensures in
    let has_load = c.in_ok-command-2.ensures (so_far 1) (shape_in load) has_create c.load_command.ensures in
    let has_session = c.in_ok-command-3.ensures (so_far 2) (shape_in session) has_load c.session_command.ensures in
    let has_look = c.in_ok-command-4.ensures (so_far 3) (shape_in look) has_session c.look_command.ensures in
    let has_game = c.in_ok-command-5.ensures (so_far 4) (shape_in game) has_look c.game_command.ensures in
    let has_audit = c.in_ok-command-6.ensures (so_far 5) (shape_in audit) has_game c.audit_command.ensures in
    let has_migrate = c.in_ok-command-7.ensures (so_far 6) (shape_in migrate) has_audit c.migrate_command.ensures in
    let has_grow = c.in_ok-command-8.ensures (so_far 7) (shape_in grow) has_migrate c.grow_command.ensures in
    let has_moves = c.in_ok-command-9.ensures (so_far 8) (shape_in moves) has_grow c.moves_command.ensures in
    let has_actions = c.in_ok-command-10.ensures (so_far 9) (shape_in actions) has_moves c.actions_command.ensures in
    let has_certify = c.in_ok-command-11.ensures (so_far 10) (shape_in certify) has_actions c.certify_command.ensures in
    c.with-12.ensures (so_far 11) (shape_in check) has_certify c.check_command.ensures
