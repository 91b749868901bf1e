use Rattle.std.proofs.Common.{◌≡◌, refl, sym, ap, true, false, true≢false, Some, None, codes, inl, inr}
use Rattle.std.specs.Prelude.{string_bytes, Option, List, ℕ}
use Rattle.std.specs.Option.{option_map_or}
use Rattle.std.specs.Str.{bytes_eq}
use Rattle.rbg_game.specs.Goals.{points_in}
use Rattle.command_line.specs.Words.{IsSwitchedOn}
use Rattle.command_line.proofs.GoalLine.{load_goal_named, load_goal_right}
use Rattle.command_line.proofs.WrittenLines.{means, plain_number, plain_pages, read, actions_named, actions_right, audit_game_named, audit_game_right}
use Rattle.command_line.proofs.WrittenLines.{audit_named, audit_right, certify_named, certify_number_named, certify_number_right, certify_right}
use Rattle.command_line.proofs.WrittenLines.{check_game_named, check_game_right, check_named, check_right, create_named, create_right, game_named, game_right}
use Rattle.command_line.proofs.WrittenLines.{create_reserved_named, grow_named, grow_reserved_named, grow_right, load_named, load_right, look_named, look_quiet_named, look_quiet_right, look_right}
use Rattle.command_line.proofs.WrittenLines.{migrate_named, migrate_right, moves_at_named, moves_at_right, moves_named, moves_of_input_named}
use Rattle.command_line.proofs.WrittenLines.{moves_of_input_right, moves_right, session_named, session_quiet_named, session_quiet_right, session_right}
use Rattle.command_line.proofs.ReservedLine.{create_reserved_right, grow_reserved_right}
use Rattle.command_line.proofs.word_laws.commands_ask.Goals as goal

is_on : IsSwitchedOn (Some (codes "true")) true
is_on = (λ _. refl, λ _. refl)

is_off : IsSwitchedOn (Some (codes "false")) false
is_off = (
  λ is. absurd (true≢false (sym is)),
  λ is. let same : false ≡ true = ap (λ (o : Option (List ℕ)). option_map_or (λ word. bytes_eq word (codes "true")) o false) is in same,
)

pub returns-clause-tables : goal.returns-clause-tables
returns-clause-tables c = record {
  create = λ name file number pages plain_file asks.
      means (create_right name (string_bytes file) number (read (string_bytes file) plain_file) (read number (plain_pages number pages asks)))
      (create_named name (string_bytes file) number (read (string_bytes file) plain_file) (read number (plain_pages number pages asks)))
      (inl (refl, (file, pages, false, refl, refl, asks, is_off)));
  create_reserved = λ name file number pages plain_file asks.
      means (create_reserved_right name (string_bytes file) number (read (string_bytes file) plain_file) (read number (plain_pages number pages asks)))
      (create_reserved_named name (string_bytes file) number (read (string_bytes file) plain_file) (read number (plain_pages number pages asks)))
      (inl (refl, (file, pages, true, refl, refl, asks, is_on)));
  migrate = λ name file plain_file.
      means (migrate_right name (string_bytes file) (read (string_bytes file) plain_file))
      (migrate_named name (string_bytes file) (read (string_bytes file) plain_file))
      (inr (inr (inr (inr (inr (inr (inl (refl, (file, refl, refl)))))))));
  grow = λ name file number pages plain_file asks.
      means (grow_right name (string_bytes file) number (read (string_bytes file) plain_file) (read number (plain_pages number pages asks)))
      (grow_named name (string_bytes file) number (read (string_bytes file) plain_file) (read number (plain_pages number pages asks)))
      (inr (inr (inr (inr (inr (inr (inr (inl (refl, (file, pages, false, refl, refl, asks, is_off))))))))));
  grow_reserved = λ name file number pages plain_file asks.
      means (grow_reserved_right name (string_bytes file) number (read (string_bytes file) plain_file) (read number (plain_pages number pages asks)))
      (grow_reserved_named name (string_bytes file) number (read (string_bytes file) plain_file) (read number (plain_pages number pages asks)))
      (inr (inr (inr (inr (inr (inr (inr (inl (refl, (file, pages, true, refl, refl, asks, is_on))))))))));
}

pub returns-clause-games : goal.returns-clause-games
returns-clause-games c = record {
  load = λ name file game plain_file plain_game.
      means (load_right name (string_bytes file) (string_bytes game) (read (string_bytes file) plain_file) (read (string_bytes game) plain_game))
      (load_named name (string_bytes file) (string_bytes game) (read (string_bytes file) plain_file) (read (string_bytes game) plain_game))
      (inr (inl (refl, (file, game, None, refl, refl, refl, refl))));
  load_goal = λ name file game points goal plain_file plain_game writes.
      let is_file = read (string_bytes file) plain_file in
      let is_game = read (string_bytes game) plain_game in
      let is_points = read points (plain_number points writes.digits) in
      means (load_goal_right name (string_bytes file) (string_bytes game) points is_file is_game is_points goal writes)
      (load_goal_named name (string_bytes file) (string_bytes game) points is_file is_game is_points)
      (inr (inl (refl, (file, game, Some goal, refl, refl, refl, (points_in goal, writes, (goal.some, goal.few), refl)))));
  game = λ name file plain_file.
      means (game_right name (string_bytes file) (read (string_bytes file) plain_file))
      (game_named name (string_bytes file) (read (string_bytes file) plain_file))
      (inr (inr (inr (inr (inl (refl, (file, refl, refl)))))));
}

pub returns-clause-sittings : goal.returns-clause-sittings
returns-clause-sittings c = record {
  session = λ name file plain_file.
      means (session_right name (string_bytes file) (read (string_bytes file) plain_file))
      (session_named name (string_bytes file) (read (string_bytes file) plain_file))
      (inr (inr (inl (refl, (file, false, refl, refl, is_off)))));
  session_quiet = λ name file plain_file.
      means (session_quiet_right name (string_bytes file) (read (string_bytes file) plain_file))
      (session_quiet_named name (string_bytes file) (read (string_bytes file) plain_file))
      (inr (inr (inl (refl, (file, true, refl, refl, is_on)))));
  look = λ name file plain_file.
      means (look_right name (string_bytes file) (read (string_bytes file) plain_file))
      (look_named name (string_bytes file) (read (string_bytes file) plain_file))
      (inr (inr (inr (inl (refl, (file, false, refl, refl, is_off))))));
  look_quiet = λ name file plain_file.
      means (look_quiet_right name (string_bytes file) (read (string_bytes file) plain_file))
      (look_quiet_named name (string_bytes file) (read (string_bytes file) plain_file))
      (inr (inr (inr (inl (refl, (file, true, refl, refl, is_on))))));
}

pub returns-clause-moves : goal.returns-clause-moves
returns-clause-moves c = record {
  moves = λ name game plain_game.
      means (moves_right name (string_bytes game) (read (string_bytes game) plain_game))
      (moves_named name (string_bytes game) (read (string_bytes game) plain_game))
      (inr (inr (inr (inr (inr (inr (inr (inr (inl (refl, (game, None, refl, refl, refl)))))))))));
  moves_at = λ name game position plain_game plain_position.
      means (moves_at_right name (string_bytes game) (string_bytes position) (read (string_bytes game) plain_game) (read (string_bytes position) plain_position))
      (moves_at_named name (string_bytes game) (string_bytes position) (read (string_bytes game) plain_game) (read (string_bytes position) plain_position))
      (inr (inr (inr (inr (inr (inr (inr (inr (inl (refl, (game, Some position, refl, refl, refl)))))))))));
  moves_of_input = λ name game hyphen plain_game is.
      means (moves_of_input_right name (string_bytes game) (read (string_bytes game) plain_game))
      (moves_of_input_named name (string_bytes game) (read (string_bytes game) plain_game))
      (inr (inr (inr (inr (inr (inr (inr (inr (inl (refl, (game, Some hyphen, refl, refl, ap Some (sym is))))))))))));
  actions = λ name game plain_game.
      means (actions_right name (string_bytes game) (read (string_bytes game) plain_game))
      (actions_named name (string_bytes game) (read (string_bytes game) plain_game))
      (inr (inr (inr (inr (inr (inr (inr (inr (inr (inl (refl, (game, refl, refl))))))))))));
}

pub returns-clause-checks : goal.returns-clause-checks
returns-clause-checks c = record {
  audit = λ name file plain_file.
      means (audit_right name (string_bytes file) (read (string_bytes file) plain_file))
      (audit_named name (string_bytes file) (read (string_bytes file) plain_file))
      (inr (inr (inr (inr (inr (inl (refl, (file, None, refl, refl, refl))))))));
  audit_game = λ name file game plain_file plain_game.
      means (audit_game_right name (string_bytes file) (string_bytes game) (read (string_bytes file) plain_file) (read (string_bytes game) plain_game))
      (audit_game_named name (string_bytes file) (string_bytes game) (read (string_bytes file) plain_file) (read (string_bytes game) plain_game))
      (inr (inr (inr (inr (inr (inl (refl, (file, Some game, refl, refl, refl))))))));
  certify = λ name file plain_file.
      means (certify_right name (string_bytes file) (read (string_bytes file) plain_file))
      (certify_named name (string_bytes file) (read (string_bytes file) plain_file))
      (inr (inr (inr (inr (inr (inr (inr (inr (inr (inr (inl (refl, (file, 0, refl, refl, refl)))))))))))));
  certify_number = λ name file number position plain_file writes.
      means (certify_number_right name (string_bytes file) number (read (string_bytes file) plain_file) (read number (plain_number number writes.digits)))
      (certify_number_named name (string_bytes file) number (read (string_bytes file) plain_file) (read number (plain_number number writes.digits)))
      (inr (inr (inr (inr (inr (inr (inr (inr (inr (inr (inl (refl, (file, position, refl, refl, writes)))))))))))));
  check = λ name certificate plain_certificate.
      means (check_right name (string_bytes certificate) (read (string_bytes certificate) plain_certificate))
      (check_named name (string_bytes certificate) (read (string_bytes certificate) plain_certificate))
      (inr (inr (inr (inr (inr (inr (inr (inr (inr (inr (inr (inl (refl, (certificate, None, refl, refl, refl))))))))))))));
  check_game = λ name certificate game plain_certificate plain_game.
      let is_certificate = read (string_bytes certificate) plain_certificate in
      let is_game = read (string_bytes game) plain_game in
      means (check_game_right name (string_bytes certificate) (string_bytes game) is_certificate is_game)
      (check_game_named name (string_bytes certificate) (string_bytes game) is_certificate is_game)
      (inr (inr (inr (inr (inr (inr (inr (inr (inr (inr (inr (inl (refl, (certificate, Some game, refl, refl, refl))))))))))))));
}
