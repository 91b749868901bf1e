-- How a command of `clap` is built from the words that it takes, what it finds for them, and how it fails.
use Rattle.std.specs.Prelude.{◌≡◌, ◌≢◌, ◌⊎◌, ◌<◌, ◌≤◌, ◌*◌, ◌/◌, ◌^◌, ℕ, false, List, [], length, Option, None, Some}
use Rattle.std.specs.Str.Parse.{IsNumeral, digits_value}
use Rattle.clap.specs.Words.{App, IsAmong, Row, Rule, Shape, Text}
use Rattle.clap.specs.Words.{app_of, fault_of, first_of, found_of, rows_of, rule_of}
use Rattle.clap.specs.declared.builder.arg.Arg.{Arg}
use Rattle.clap.specs.declared.builder.command.Command.{Command}
use Rattle.clap.specs.declared.builder.command.Command.TheViews.{out-Command as fields_of}
use Rattle.clap.specs.declared.error.kind.ErrorKind.{ErrorKind}
use Rattle.clap.specs.declared.error.kind.ErrorKind.TheVariants.{DisplayHelp, DisplayVersion}
use Rattle.clap.specs.declared.error.kind.ErrorKind.TheVariants.{OutOfMemory, ValueValidation}
use Rattle.clap.specs.declared.parser.matches.ArgMatches.{ArgMatches}
use Rattle.command_line.specs.declared.words.Words.{Words}
use Rattle.command_line.specs.Words.{AsksBy, MeanNothing, program}

-- one to ten digits that write a number
pub record WritesCount (word : Text) (number : ℕ) : Type 0 where
  pub few : length word ≤ 10
  pub digits : IsNumeral 10 word
  pub number_is : number ≡ digits_value 10 word
  pub small : number < 2 ^ 64

-- so many whole pages have room in this many times so many bytes
pub record AreWholePages (number bytes pages : ℕ) : Type 0 where
  pub pages_are : pages ≡ number * bytes / 4096
  pub some : 1 ≤ pages
  pub most : pages ≤ 1048576

-- the argument reads its words so, in one command alone
pub record HasRule (rule : Rule) (arg : Arg) : Type 0 where
  pub reads : rule_of arg ≡ rule
  pub local : arg.global ≡ false

-- the command and those below it read their words so
pub record HasApp (app : App) (command : Command) : Type 0 where
  pub reads : app_of command ≡ app
  pub local : (fields_of command).has_globals ≡ false

-- a command with none below it
abbrev pub leaf : Shape → App
leaf shape = record { top = shape; subs = [] }

-- the word that was found by this name
abbrev pub word_in : ArgMatches → Text → Option Text
word_in matches id = first_of id (rows_of (found_of matches))

-- what is asked for, or that nothing is
abbrev pub AsksIfAny : (Words → Type 0) → Option Words → Type 0
AsksIfAny asks None = (asked : Words) → ¬ asks asked
AsksIfAny asks (Some asked) = asks asked

-- words that `clap` takes ask for nothing, or memory ran out
abbrev pub AskNothing : Option (Text × List Row) → ErrorKind → Type 0
AskNothing met kind = (kind ≡ OutOfMemory) ⊎ ((kind ≡ ValueValidation) × ((asked : Words) → ¬ AsksBy met asked))

-- words fail by this kind of error: memory ran out, `clap` refuses them, or what stands for a number is none
abbrev pub FailAs : List Text → ErrorKind → Type 0
FailAs line kind =
    (kind ≡ OutOfMemory) ⊎ (IsAmong kind (fault_of program line) ⊎ ((kind ≡ ValueValidation) × MeanNothing line))

-- the status that belongs to a kind of error; 5 where no memory is left for its text
abbrev pub EndsAs : ErrorKind → ℕ → Type 0
EndsAs kind status =
    ((status ≡ 0) × ((kind ≡ DisplayHelp) ⊎ (kind ≡ DisplayVersion)))
    ⊎ (((status ≡ 2) × (kind ≢ OutOfMemory)) ⊎ (status ≡ 5))
