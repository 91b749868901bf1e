-- What `clap` finds in a line that is written out, and that it finds nothing wrong with it.
use Rattle.std.proofs.Common.{◌≡◌, ◌≢◌, ◌∙◌, ◌<◌, ◌∷◌, ◌++◌, [], ℕ, List, Some, None, false, true≢false}
use Rattle.std.proofs.Common.{codes, refl, sym, subst, inl, inr, arith, nat_lt, lt-ltb}
use Rattle.std.specs.Char.{digit_value}
use Rattle.std.specs.Str.{bytes_eq}
use Rattle.std.specs.Str.Parse.{IsNumeral}
use Rattle.std.proofs.lemmas.Bool.Decides.{eqb_tells}
use Rattle.clap.proofs.OnLiterals.{clap_on_literals}
use Rattle.clap.specs.Lexer.{strip_byte}
use Rattle.clap.specs.Words.{Row, Text, fault_of, first_of, subcommand_of}
use Rattle.clap.specs.declared.builder.value_parser.Reading.TheVariants.{AsWritten}
use Rattle.clap.specs.declared.parser.matches.ValueSource.TheVariants.{CommandLine, DefaultValue}
use Rattle.command_line.specs.Options.{IsNoOption}
use Rattle.command_line.specs.Words.{AsksBy, AsksIn, AsksPages, Mean, commands, program}
use Rattle.command_line.specs.declared.words.Words.{Words}

-- how `clap` reads a word that is no option
pub record IsRead (word : Text) : Type 0 where
  pub not_end : bytes_eq word (45 ∷ 45 ∷ []) ≡ false
  pub no_flag : strip_byte 45 word ≡ None

pub read : (word : Text) → IsNoOption word → IsRead word
read [] plain = record { not_end = refl; no_flag = refl }
read (byte ∷ bytes) plain = elim (eqb_tells byte 45) [
  | inl same ↦ absurd (plain same.1)
  | inr other ↦ let differs = other.0 in record { not_end = rw differs refl; no_flag = rw differs refl }
]

pub not_a_digit : (byte c : ℕ) → nat_lt (digit_value c) 10 ≡ false → digit_value byte < 10 → byte ≢ c
not_a_digit byte c never low same =
    true≢false (sym (lt-ltb (digit_value c) 10 (subst (λ n. digit_value n < 10) same low)) ∙ never)

-- a number does not begin with `-`, and a number of pages neither
pub plain_number : (word : Text) → IsNumeral 10 word → IsNoOption word
plain_number [] numeral = absurd (omega (arith, numeral.0))
plain_number (byte ∷ bytes) numeral = not_a_digit byte 45 refl numeral.1.0

plain_before : (word behind : Text) → IsNumeral 10 word → IsNoOption (word ++ behind)
plain_before [] behind numeral = absurd (omega (arith, numeral.0))
plain_before (byte ∷ bytes) behind numeral = not_a_digit byte 45 refl numeral.1.0

pub plain_pages : (word : Text) (pages : ℕ) → AsksPages word pages → IsNoOption word
plain_pages word pages asks = elim asks.unit [
  | inl k ↦ subst IsNoOption (sym k.0) (plain_before asks.digits _ asks.numeral)
  | inr rest ↦ elim rest [
    | inl m ↦ subst IsNoOption (sym m.0) (plain_before asks.digits _ asks.numeral)
    | inr rest ↦ elim rest [
      | inl g ↦ subst IsNoOption (sym g.0) (plain_before asks.digits _ asks.numeral)
      | inr none ↦ subst IsNoOption (sym none.0) (plain_number asks.digits asks.numeral)
    ]
  ]
]

-- a word that was given, and an option that was not
abbrev pub row : Text → Text → Row
row id word = record { id = id; values = word ∷ []; count = None; source = Some CommandLine; reading = AsWritten }

abbrev left_out : Text → Row
left_out id = record { id = id; values = codes "false" ∷ []; count = None; source = Some DefaultValue; reading = AsWritten }

pub means : {line : List Text} {asked : Words} {name : Text} {rows : List Row} → fault_of program line ≡ [] → subcommand_of program line ≡ Some (name, rows)
    → AsksIn commands name (λ id. first_of id rows) asked → Mean line asked
means {asked = asked} right named asks = record { right = right; asks = subst (λ met. AsksBy met asked) (sym named) asks }

pub create_named : (name file number : Text) → IsRead file → IsRead number
    → subcommand_of program (name ∷ codes "create" ∷ file ∷ codes "--pages" ∷ number ∷ [])
    ≡ Some (codes "create", row (codes "FILE") file ∷ row (codes "pages") number ∷ left_out (codes "reserve") ∷ [])
unfolding clap_on_literals
create_named name file number is_file is_number = simp (is_file.not_end, is_file.no_flag, is_number.not_end, is_number.no_flag)

pub create_right : (name file number : Text) → IsRead file → IsRead number
    → fault_of program (name ∷ codes "create" ∷ file ∷ codes "--pages" ∷ number ∷ []) ≡ []
unfolding clap_on_literals
create_right name file number is_file is_number = simp (is_file.not_end, is_file.no_flag, is_number.not_end, is_number.no_flag)

pub create_reserved_named : (name file number : Text) → IsRead file → IsRead number
    → subcommand_of program (name ∷ codes "create" ∷ file ∷ codes "--pages" ∷ number ∷ codes "--reserve" ∷ [])
    ≡ Some (codes "create", row (codes "FILE") file ∷ row (codes "pages") number ∷ row (codes "reserve") (codes "true") ∷ [])
unfolding clap_on_literals
create_reserved_named name file number is_file is_number = simp (is_file.not_end, is_file.no_flag, is_number.not_end, is_number.no_flag)

pub load_named : (name file game : Text) → IsRead file → IsRead game → subcommand_of program (name ∷ codes "load" ∷ file ∷ game ∷ [])
    ≡ Some (codes "load", row (codes "FILE") file ∷ row (codes "GAME") game ∷ [])
unfolding clap_on_literals
load_named name file game is_file is_game = simp (is_file.not_end, is_file.no_flag, is_game.not_end, is_game.no_flag)

pub load_right : (name file game : Text) → IsRead file → IsRead game → fault_of program (name ∷ codes "load" ∷ file ∷ game ∷ []) ≡ []
unfolding clap_on_literals
load_right name file game is_file is_game = simp (is_file.not_end, is_file.no_flag, is_game.not_end, is_game.no_flag)

pub session_named : (name file : Text) → IsRead file → subcommand_of program (name ∷ codes "session" ∷ file ∷ [])
    ≡ Some (codes "session", row (codes "FILE") file ∷ left_out (codes "quiet") ∷ [])
unfolding clap_on_literals
session_named name file is_file = simp (is_file.not_end, is_file.no_flag)

pub session_right : (name file : Text) → IsRead file → fault_of program (name ∷ codes "session" ∷ file ∷ []) ≡ []
unfolding clap_on_literals
session_right name file is_file = simp (is_file.not_end, is_file.no_flag)

pub session_quiet_named : (name file : Text) → IsRead file → subcommand_of program (name ∷ codes "session" ∷ file ∷ codes "--quiet" ∷ [])
    ≡ Some (codes "session", row (codes "FILE") file ∷ row (codes "quiet") (codes "true") ∷ [])
unfolding clap_on_literals
session_quiet_named name file is_file = simp (is_file.not_end, is_file.no_flag)

pub session_quiet_right : (name file : Text) → IsRead file → fault_of program (name ∷ codes "session" ∷ file ∷ codes "--quiet" ∷ []) ≡ []
unfolding clap_on_literals
session_quiet_right name file is_file = simp (is_file.not_end, is_file.no_flag)

pub look_named : (name file : Text) → IsRead file → subcommand_of program (name ∷ codes "look" ∷ file ∷ [])
    ≡ Some (codes "look", row (codes "FILE") file ∷ left_out (codes "quiet") ∷ [])
unfolding clap_on_literals
look_named name file is_file = simp (is_file.not_end, is_file.no_flag)

pub look_right : (name file : Text) → IsRead file → fault_of program (name ∷ codes "look" ∷ file ∷ []) ≡ []
unfolding clap_on_literals
look_right name file is_file = simp (is_file.not_end, is_file.no_flag)

pub look_quiet_named : (name file : Text) → IsRead file → subcommand_of program (name ∷ codes "look" ∷ file ∷ codes "--quiet" ∷ [])
    ≡ Some (codes "look", row (codes "FILE") file ∷ row (codes "quiet") (codes "true") ∷ [])
unfolding clap_on_literals
look_quiet_named name file is_file = simp (is_file.not_end, is_file.no_flag)

pub look_quiet_right : (name file : Text) → IsRead file → fault_of program (name ∷ codes "look" ∷ file ∷ codes "--quiet" ∷ []) ≡ []
unfolding clap_on_literals
look_quiet_right name file is_file = simp (is_file.not_end, is_file.no_flag)

pub game_named : (name file : Text) → IsRead file → subcommand_of program (name ∷ codes "game" ∷ file ∷ [])
    ≡ Some (codes "game", row (codes "FILE") file ∷ [])
unfolding clap_on_literals
game_named name file is_file = simp (is_file.not_end, is_file.no_flag)

pub game_right : (name file : Text) → IsRead file → fault_of program (name ∷ codes "game" ∷ file ∷ []) ≡ []
unfolding clap_on_literals
game_right name file is_file = simp (is_file.not_end, is_file.no_flag)

pub audit_named : (name file : Text) → IsRead file → subcommand_of program (name ∷ codes "audit" ∷ file ∷ [])
    ≡ Some (codes "audit", row (codes "FILE") file ∷ [])
unfolding clap_on_literals
audit_named name file is_file = simp (is_file.not_end, is_file.no_flag)

pub audit_right : (name file : Text) → IsRead file → fault_of program (name ∷ codes "audit" ∷ file ∷ []) ≡ []
unfolding clap_on_literals
audit_right name file is_file = simp (is_file.not_end, is_file.no_flag)

pub audit_game_named : (name file game : Text) → IsRead file → IsRead game
    → subcommand_of program (name ∷ codes "audit" ∷ file ∷ codes "--game" ∷ game ∷ [])
    ≡ Some (codes "audit", row (codes "FILE") file ∷ row (codes "game") game ∷ [])
unfolding clap_on_literals
audit_game_named name file game is_file is_game = simp (is_file.not_end, is_file.no_flag, is_game.not_end, is_game.no_flag)

pub audit_game_right : (name file game : Text) → IsRead file → IsRead game
    → fault_of program (name ∷ codes "audit" ∷ file ∷ codes "--game" ∷ game ∷ []) ≡ []
unfolding clap_on_literals
audit_game_right name file game is_file is_game = simp (is_file.not_end, is_file.no_flag, is_game.not_end, is_game.no_flag)

pub migrate_named : (name file : Text) → IsRead file → subcommand_of program (name ∷ codes "migrate" ∷ file ∷ [])
    ≡ Some (codes "migrate", row (codes "FILE") file ∷ [])
unfolding clap_on_literals
migrate_named name file is_file = simp (is_file.not_end, is_file.no_flag)

pub migrate_right : (name file : Text) → IsRead file → fault_of program (name ∷ codes "migrate" ∷ file ∷ []) ≡ []
unfolding clap_on_literals
migrate_right name file is_file = simp (is_file.not_end, is_file.no_flag)

pub grow_named : (name file number : Text) → IsRead file → IsRead number
    → subcommand_of program (name ∷ codes "grow" ∷ file ∷ codes "--pages" ∷ number ∷ [])
    ≡ Some (codes "grow", row (codes "FILE") file ∷ row (codes "pages") number ∷ left_out (codes "reserve") ∷ [])
unfolding clap_on_literals
grow_named name file number is_file is_number = simp (is_file.not_end, is_file.no_flag, is_number.not_end, is_number.no_flag)

pub grow_right : (name file number : Text) → IsRead file → IsRead number
    → fault_of program (name ∷ codes "grow" ∷ file ∷ codes "--pages" ∷ number ∷ []) ≡ []
unfolding clap_on_literals
grow_right name file number is_file is_number = simp (is_file.not_end, is_file.no_flag, is_number.not_end, is_number.no_flag)

pub grow_reserved_named : (name file number : Text) → IsRead file → IsRead number
    → subcommand_of program (name ∷ codes "grow" ∷ file ∷ codes "--pages" ∷ number ∷ codes "--reserve" ∷ [])
    ≡ Some (codes "grow", row (codes "FILE") file ∷ row (codes "pages") number ∷ row (codes "reserve") (codes "true") ∷ [])
unfolding clap_on_literals
grow_reserved_named name file number is_file is_number = simp (is_file.not_end, is_file.no_flag, is_number.not_end, is_number.no_flag)

pub moves_named : (name game : Text) → IsRead game → subcommand_of program (name ∷ codes "moves" ∷ game ∷ [])
    ≡ Some (codes "moves", row (codes "GAME") game ∷ [])
unfolding clap_on_literals
moves_named name game is_game = simp (is_game.not_end, is_game.no_flag)

pub moves_right : (name game : Text) → IsRead game → fault_of program (name ∷ codes "moves" ∷ game ∷ []) ≡ []
unfolding clap_on_literals
moves_right name game is_game = simp (is_game.not_end, is_game.no_flag)

pub moves_at_named : (name game position : Text) → IsRead game → IsRead position
    → subcommand_of program (name ∷ codes "moves" ∷ game ∷ codes "--at" ∷ position ∷ [])
    ≡ Some (codes "moves", row (codes "GAME") game ∷ row (codes "at") position ∷ [])
unfolding clap_on_literals
moves_at_named name game position is_game is_position = simp (is_game.not_end, is_game.no_flag, is_position.not_end, is_position.no_flag)

pub moves_at_right : (name game position : Text) → IsRead game → IsRead position
    → fault_of program (name ∷ codes "moves" ∷ game ∷ codes "--at" ∷ position ∷ []) ≡ []
unfolding clap_on_literals
moves_at_right name game position is_game is_position = simp (is_game.not_end, is_game.no_flag, is_position.not_end, is_position.no_flag)

pub moves_of_input_named : (name game : Text) → IsRead game → subcommand_of program (name ∷ codes "moves" ∷ game ∷ codes "--at" ∷ codes "-" ∷ [])
    ≡ Some (codes "moves", row (codes "GAME") game ∷ row (codes "at") (codes "-") ∷ [])
unfolding clap_on_literals
moves_of_input_named name game is_game = simp (is_game.not_end, is_game.no_flag)

pub moves_of_input_right : (name game : Text) → IsRead game → fault_of program (name ∷ codes "moves" ∷ game ∷ codes "--at" ∷ codes "-" ∷ []) ≡ []
unfolding clap_on_literals
moves_of_input_right name game is_game = simp (is_game.not_end, is_game.no_flag)

pub actions_named : (name game : Text) → IsRead game → subcommand_of program (name ∷ codes "actions" ∷ game ∷ [])
    ≡ Some (codes "actions", row (codes "GAME") game ∷ [])
unfolding clap_on_literals
actions_named name game is_game = simp (is_game.not_end, is_game.no_flag)

pub actions_right : (name game : Text) → IsRead game → fault_of program (name ∷ codes "actions" ∷ game ∷ []) ≡ []
unfolding clap_on_literals
actions_right name game is_game = simp (is_game.not_end, is_game.no_flag)

pub certify_named : (name file : Text) → IsRead file → subcommand_of program (name ∷ codes "certify" ∷ file ∷ [])
    ≡ Some (codes "certify", row (codes "FILE") file ∷ [])
unfolding clap_on_literals
certify_named name file is_file = simp (is_file.not_end, is_file.no_flag)

pub certify_right : (name file : Text) → IsRead file → fault_of program (name ∷ codes "certify" ∷ file ∷ []) ≡ []
unfolding clap_on_literals
certify_right name file is_file = simp (is_file.not_end, is_file.no_flag)

pub certify_number_named : (name file number : Text) → IsRead file → IsRead number
    → subcommand_of program (name ∷ codes "certify" ∷ file ∷ number ∷ [])
    ≡ Some (codes "certify", row (codes "FILE") file ∷ row (codes "NUMBER") number ∷ [])
unfolding clap_on_literals
certify_number_named name file number is_file is_number = simp (is_file.not_end, is_file.no_flag, is_number.not_end, is_number.no_flag)

pub certify_number_right : (name file number : Text) → IsRead file → IsRead number
    → fault_of program (name ∷ codes "certify" ∷ file ∷ number ∷ []) ≡ []
unfolding clap_on_literals
certify_number_right name file number is_file is_number = simp (is_file.not_end, is_file.no_flag, is_number.not_end, is_number.no_flag)

pub check_named : (name certificate : Text) → IsRead certificate → subcommand_of program (name ∷ codes "check" ∷ certificate ∷ [])
    ≡ Some (codes "check", row (codes "CERTIFICATE") certificate ∷ [])
unfolding clap_on_literals
check_named name certificate is_certificate = simp (is_certificate.not_end, is_certificate.no_flag)

pub check_right : (name certificate : Text) → IsRead certificate → fault_of program (name ∷ codes "check" ∷ certificate ∷ []) ≡ []
unfolding clap_on_literals
check_right name certificate is_certificate = simp (is_certificate.not_end, is_certificate.no_flag)

pub check_game_named : (name certificate game : Text) → IsRead certificate → IsRead game
    → subcommand_of program (name ∷ codes "check" ∷ certificate ∷ game ∷ [])
    ≡ Some (codes "check", row (codes "CERTIFICATE") certificate ∷ row (codes "GAME") game ∷ [])
unfolding clap_on_literals
check_game_named name certificate game is_certificate is_game = simp (is_certificate.not_end, is_certificate.no_flag, is_game.not_end, is_game.no_flag)

pub check_game_right : (name certificate game : Text) → IsRead certificate → IsRead game
    → fault_of program (name ∷ codes "check" ∷ certificate ∷ game ∷ []) ≡ []
unfolding clap_on_literals
check_game_right name certificate game is_certificate is_game = simp (is_certificate.not_end, is_certificate.no_flag, is_game.not_end, is_game.no_flag)
