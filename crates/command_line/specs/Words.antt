-- What the words of a command line ask for: the commands of the program, with the words that each takes and what they
-- mean. How words are told apart (options in any order, `--name value` as `--name=value`, and `--`) is what the kit's
-- `clap` says of its commands: `subcommand_of` finds the command that the words name and what stands for each of its
-- words, and `fault_of` what is wrong with them.
use Rattle.std.specs.Prelude.{◌≡◌, ◌⊎◌, ◌↔◌, ◌*◌, ◌/◌, ◌≤◌, ℕ, Bool, true, false, List, [], ◌∷◌, ◌++◌, length, map}
use Rattle.std.specs.Prelude.{codes, pos}
use Rattle.std.specs.Prelude.{Option, None, Some, option_map, IsTrue, String, string_bytes}
use Rattle.std.specs.Global.{Global}
use Rattle.std.specs.Str.Parse.{IsNumeral, digits_value}
use Rattle.rbg_game.specs.declared.goal.Goal.{Goal}
use Rattle.rbg_game.specs.Goals.{CanBeGoal, points_of}
use Rattle.line_syntax.specs.Numbers.{WritesNumber}
use Rattle.clap.specs.Words.{App, IsAmong, Row, Rule, Shape, Text, fault_of, first_of, new_rule, subcommand_of}
use Rattle.clap.specs.Simple.{new_shape}
use Rattle.clap.specs.declared.builder.action.ArgAction.TheVariants.{Set, SetTrue}
use Rattle.clap.specs.declared.builder.value_parser.ValueParser.TheVariants.{Signed}
use Rattle.clap.specs.declared.error.kind.ErrorKind.TheVariants.{DisplayHelp, DisplayVersion}
use Rattle.command_line.specs.declared.words.Words.{Words}
use Rattle.command_line.specs.declared.words.Words.TheVariants as words

-- a text that is kept
abbrev pub Owned : Type 0
Owned = String Global

-- what was found for the words of a command, by their names
abbrev pub Found : Type 0
Found = Text → Option Text

-- a word that has to be given, and one that may be left out
abbrev pub needed : Text → Rule
needed id = record (new_rule id) { action = Some Set; required = true }

abbrev pub free : Text → Rule
free id = record (new_rule id) { action = Some Set }

-- a rule for a word behind `--` and its name
abbrev pub behind : Rule → Rule
behind rule = record rule { long = Some rule.id; value_names = 1 }

-- `--` and a name alone
abbrev pub alone : Text → Rule
alone id = record (new_rule id) { action = Some SetTrue; long = Some id }

-- a number from 1 to this many
abbrev pub up_to : ℕ → Rule → Rule
up_to most rule = record rule { parser = Some (Signed (pos 1) (pos most)) }

-- this word was found
abbrev pub Is : Option Text → Owned → Type 0
Is found word = found ≡ Some (string_bytes word)

-- this word was found, or none where there is none
abbrev pub IsAtMost : Option Text → Option Owned → Type 0
IsAtMost found word = found ≡ option_map string_bytes word

-- the option was given that stands alone
abbrev pub IsSwitchedOn : Option Text → Bool → Type 0
IsSwitchedOn found is = IsTrue is ↔ (found ≡ Some (codes "true"))

-- the number that a word begins with counts pages of 4,096 bytes, or what the letter behind it says
abbrev pub HasUnit : Text → Text → ℕ → Type 0
HasUnit word digits bytes =
    ((word ≡ digits ++ codes "K") × (bytes ≡ 1024)) ⊎ (((word ≡ digits ++ codes "M") × (bytes ≡ 1048576))
    ⊎ (((word ≡ digits ++ codes "G") × (bytes ≡ 1073741824)) ⊎ ((word ≡ digits) × (bytes ≡ 4096))))

-- a word asks for so many whole pages, 1 to 1,048,576, by a number of one to ten digits
pub record AsksPages (word : Text) (pages : ℕ) : Type 0 where
  pub digits : Text
  pub bytes : ℕ
  pub unit : HasUnit word digits bytes
  pub few : length digits ≤ 10
  pub numeral : IsNumeral 10 digits
  pub pages_are : pages ≡ digits_value 10 digits * bytes / 4096
  pub some : 1 ≤ pages
  pub most : pages ≤ 1048576

abbrev pub ArePagesAsked : Option Text → ℕ → Type 0
ArePagesAsked None pages = ⊥
ArePagesAsked (Some word) pages = AsksPages word pages

-- the number of a position, 0 where none was given
abbrev pub IsPosition : Option Text → ℕ → Type 0
IsPosition None number = number ≡ 0
IsPosition (Some word) number = WritesNumber word number

-- a goal of so many points, or none
abbrev pub IsAskedGoal : Option Text → Option Goal → Type 0
IsAskedGoal None goal = goal ≡ None
IsAskedGoal (Some word) goal = (points : ℕ) × WritesNumber word points × CanBeGoal points × (points_of goal ≡ Some points)

-- the words for files and numbers, and the options
abbrev pub file_word : Rule
file_word = needed (codes "FILE")

abbrev pub game_word : Rule
game_word = needed (codes "GAME")

abbrev pub pages_word : Rule
pages_word = behind (needed (codes "pages"))

abbrev pub quiet_word : Rule
quiet_word = alone (codes "quiet")

abbrev pub reserve_word : Rule
reserve_word = alone (codes "reserve")

abbrev pub goal_word : Rule
goal_word = up_to 1000000 (behind (free (codes "goal")))

abbrev pub about_word : Rule
about_word = behind (free (codes "game"))

abbrev pub position_word : Rule
position_word = behind (free (codes "at"))

-- a command: its name and the words that it takes, and what it asks for by what was found for these
pub record CommandForm : Type 1 where
  pub name : Text
  pub takes : List Rule
  pub asks : Found → Words → Type 0

-- `create FILE --pages N [--reserve]`
abbrev pub create : CommandForm
create = record {
  name = codes "create";
  takes = file_word ∷ pages_word ∷ reserve_word ∷ [];
  asks = λ found asked. (file : Owned) × (pages : ℕ) × (is_reserved : Bool)
      × (asked ≡ words.Create file pages is_reserved) × Is (found (codes "FILE")) file
      × ArePagesAsked (found (codes "pages")) pages × IsSwitchedOn (found (codes "reserve")) is_reserved;
}

-- `load FILE GAME [--goal K]`
abbrev pub load : CommandForm
load = record {
  name = codes "load";
  takes = file_word ∷ game_word ∷ goal_word ∷ [];
  asks = λ found asked. (file : Owned) × (game : Owned) × (goal : Option Goal) × (asked ≡ words.Load file game goal)
      × Is (found (codes "FILE")) file × Is (found (codes "GAME")) game × IsAskedGoal (found (codes "goal")) goal;
}

-- `session FILE [--quiet]`
abbrev pub session : CommandForm
session = record {
  name = codes "session";
  takes = file_word ∷ quiet_word ∷ [];
  asks = λ found asked. (file : Owned) × (is_quiet : Bool)
      × (asked ≡ words.Session file is_quiet) × Is (found (codes "FILE")) file
      × IsSwitchedOn (found (codes "quiet")) is_quiet;
}

-- `look FILE [--quiet]`
abbrev pub look : CommandForm
look = record {
  name = codes "look";
  takes = file_word ∷ quiet_word ∷ [];
  asks = λ found asked. (file : Owned) × (is_quiet : Bool)
      × (asked ≡ words.Look file is_quiet) × Is (found (codes "FILE")) file
      × IsSwitchedOn (found (codes "quiet")) is_quiet;
}

-- `game FILE`
abbrev pub game : CommandForm
game = record {
  name = codes "game";
  takes = file_word ∷ [];
  asks = λ found asked. (file : Owned) × (asked ≡ words.Game file) × Is (found (codes "FILE")) file;
}

-- `audit FILE [--game GAME]`
abbrev pub audit : CommandForm
audit = record {
  name = codes "audit";
  takes = file_word ∷ about_word ∷ [];
  asks = λ found asked. (file : Owned) × (game : Option Owned)
      × (asked ≡ words.Audit file game) × Is (found (codes "FILE")) file
      × IsAtMost (found (codes "game")) game;
}

-- `migrate FILE`
abbrev pub migrate : CommandForm
migrate = record {
  name = codes "migrate";
  takes = file_word ∷ [];
  asks = λ found asked. (file : Owned) × (asked ≡ words.Migrate file) × Is (found (codes "FILE")) file;
}

-- `grow FILE --pages N [--reserve]`
abbrev pub grow : CommandForm
grow = record {
  name = codes "grow";
  takes = file_word ∷ pages_word ∷ reserve_word ∷ [];
  asks = λ found asked. (file : Owned) × (pages : ℕ) × (is_reserved : Bool)
      × (asked ≡ words.Grow file pages is_reserved) × Is (found (codes "FILE")) file
      × ArePagesAsked (found (codes "pages")) pages × IsSwitchedOn (found (codes "reserve")) is_reserved;
}

-- `moves GAME [--at POSITION]`
abbrev pub moves : CommandForm
moves = record {
  name = codes "moves";
  takes = game_word ∷ position_word ∷ [];
  asks = λ found asked. (game : Owned) × (at : Option Owned)
      × (asked ≡ words.Moves game at) × Is (found (codes "GAME")) game
      × IsAtMost (found (codes "at")) at;
}

-- `actions GAME`
abbrev pub actions : CommandForm
actions = record {
  name = codes "actions";
  takes = game_word ∷ [];
  asks = λ found asked. (game : Owned) × (asked ≡ words.Actions game) × Is (found (codes "GAME")) game;
}

-- `certify FILE [NUMBER]`
abbrev pub certify : CommandForm
certify = record {
  name = codes "certify";
  takes = file_word ∷ free (codes "NUMBER") ∷ [];
  asks = λ found asked. (file : Owned) × (number : ℕ)
      × (asked ≡ words.Certify file number) × Is (found (codes "FILE")) file
      × IsPosition (found (codes "NUMBER")) number;
}

-- `check CERTIFICATE [GAME]`
abbrev pub check : CommandForm
check = record {
  name = codes "check";
  takes = needed (codes "CERTIFICATE") ∷ free (codes "GAME") ∷ [];
  asks = λ found asked. (certificate : Owned) × (game : Option Owned) × (asked ≡ words.Check certificate game)
      × Is (found (codes "CERTIFICATE")) certificate × IsAtMost (found (codes "GAME")) game;
}

-- the commands, in the order of the help
abbrev pub commands : List CommandForm
commands = create ∷ load ∷ session ∷ look ∷ game ∷ audit ∷ migrate ∷ grow ∷ moves ∷ actions ∷ certify ∷ check ∷ []

-- a command as `clap` has it
abbrev pub shape_in : CommandForm → Shape
shape_in form = record (new_shape form.name) { rules = form.takes }

-- the program without its commands: it has a version, and shows its help where none is named
abbrev pub alone_program : Shape
alone_program = record (new_shape (codes "rbgsolve")) {
  has_version = true;
  subcommand_required = true;
  arg_required_else_help = true;
}

-- the program
abbrev pub program : App
program = record { top = record alone_program { is_leaf = false }; subs = map shape_in commands }

-- the command of this name asks for this, by what was found
abbrev pub AsksIn : List CommandForm → Text → Found → Words → Type 0
AsksIn [] name found asked = ⊥
AsksIn (form ∷ forms) name found asked = ((name ≡ form.name) × form.asks found asked) ⊎ AsksIn forms name found asked

-- a command that was met, with what was found for its words, asks for this
abbrev pub AsksBy : Option (Text × List Row) → Words → Type 0
AsksBy None asked = ⊥
AsksBy (Some met) asked = AsksIn commands met.0 (λ id. first_of id met.1) asked

-- the words of a command line, the first of which is the program's name, ask for this
pub record Mean (line : List Text) (asked : Words) : Type 0 where
  pub right : fault_of program line ≡ []
  pub asks : AsksBy (subcommand_of program line) asked

-- they ask for nothing that can be done
abbrev pub MeanNothing : List Text → Type 0
MeanNothing line = (asked : Words) → ¬ Mean line asked

-- they ask for help or the version
abbrev pub AskHelp : List Text → Type 0
AskHelp line = IsAmong DisplayHelp (fault_of program line) ⊎ IsAmong DisplayVersion (fault_of program line)
