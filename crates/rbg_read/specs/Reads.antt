-- What a text reads to, and why a text is refused.
use Rattle.std.specs.Prelude.{◌≡◌, ◌<◌, ◌≤◌, List, length, Some, None}
use Rattle.rbg_text.specs.Token.{Text, Splits}
use Rattle.rbg_text.specs.Syntax.{Tokens, Section, text}
use Rattle.rbg_game.specs.Games.{Game}
use Rattle.rbg_read.specs.Means.{Means}
use Rattle.rbg_game.specs.declared.limits.TheConstants.{MAX_TEXT_BYTES, MAX_NESTING}
use Rattle.rbg_read.specs.Causes.{first_cause}
use Rattle.rbg_text.specs.NestingCount.{nesting}
use Rattle.rbg_read.specs.declared.fault.GameFault.{GameFault}
use Rattle.rbg_read.specs.declared.fault.GameFault.TheVariants as cause

-- the text splits into tokens that are the grammar's for these sections
pub record Parses (bytes : Text) (ts : Tokens) (all : List Section) : Type 0 where
  pub splits : Splits bytes ts
  pub spelled : ts ≡ text all

-- the game that a text reads to
pub data Reads : Text → Game → Type 0 where
  reads : {bytes : Text} {ts : Tokens} {all : List Section} {g : Game} → length bytes ≤ MAX_TEXT_BYTES → nesting ts ≤ MAX_NESTING
      → Parses bytes ts all → first_cause all ≡ None → Means all g → Reads bytes g

-- the first cause for which a text is no game
pub data Fault : Text → GameFault → Type 0 where
  too_long : {bytes : Text} → MAX_TEXT_BYTES < length bytes → Fault bytes cause.TooLarge
  stray_byte : {bytes : Text} → length bytes ≤ MAX_TEXT_BYTES → ((ts : Tokens) → ¬ Splits bytes ts) → Fault bytes cause.Syntax
  nested : {bytes : Text} {ts : Tokens} → length bytes ≤ MAX_TEXT_BYTES → Splits bytes ts → MAX_NESTING < nesting ts
      → Fault bytes cause.TooLarge
  grammar : {bytes : Text} {ts : Tokens} → length bytes ≤ MAX_TEXT_BYTES → Splits bytes ts → nesting ts ≤ MAX_NESTING
      → ((all : List Section) → ¬ (ts ≡ text all)) → Fault bytes cause.Syntax
  first : {bytes : Text} {ts : Tokens} {all : List Section} {c : GameFault} → length bytes ≤ MAX_TEXT_BYTES → nesting ts ≤ MAX_NESTING
      → Parses bytes ts all → first_cause all ≡ Some c → Fault bytes c
