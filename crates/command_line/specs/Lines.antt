-- What lines of words ask for, written out: the first word is the program's name, and whatever words stand for files
-- and a position do not begin with `-`.
use Rattle.std.specs.Prelude.{◌≡◌, ◌∷◌, [], ℕ, List, None, Some, codes, false, string_bytes, true}
use Rattle.rbg_game.specs.Goals.{points_in}
use Rattle.rbg_game.specs.declared.goal.Goal.{Goal}
use Rattle.line_syntax.specs.Numbers.{WritesNumber}
use Rattle.command_line.specs.Options.{IsNoOption}
use Rattle.command_line.specs.Words.{AsksPages, Mean, Owned}
use Rattle.command_line.specs.declared.words.Words.TheVariants.{Actions, Audit, Certify, Check, Create, Game, Grow}
use Rattle.command_line.specs.declared.words.Words.TheVariants.{Load, Look, Migrate, Moves, Session}

-- what lines that make, grow or migrate a table ask for
pub record TablesAsk : Type 0 where
  pub create : (name : List ℕ) (file : Owned) (number : List ℕ) (pages : ℕ)
      → IsNoOption (string_bytes file) → AsksPages number pages
      → Mean (name ∷ codes "create" ∷ string_bytes file ∷ codes "--pages" ∷ number ∷ []) (Create file pages false)
  pub create_reserved : (name : List ℕ) (file : Owned) (number : List ℕ) (pages : ℕ)
      → IsNoOption (string_bytes file) → AsksPages number pages
      → Mean (name ∷ codes "create" ∷ string_bytes file ∷ codes "--pages" ∷ number ∷ codes "--reserve" ∷ [])
      (Create file pages true)
  pub migrate : (name : List ℕ) (file : Owned) → IsNoOption (string_bytes file)
      → Mean (name ∷ codes "migrate" ∷ string_bytes file ∷ []) (Migrate file)
  pub grow : (name : List ℕ) (file : Owned) (number : List ℕ) (pages : ℕ)
      → IsNoOption (string_bytes file) → AsksPages number pages
      → Mean (name ∷ codes "grow" ∷ string_bytes file ∷ codes "--pages" ∷ number ∷ []) (Grow file pages false)
  pub grow_reserved : (name : List ℕ) (file : Owned) (number : List ℕ) (pages : ℕ)
      → IsNoOption (string_bytes file) → AsksPages number pages
      → Mean (name ∷ codes "grow" ∷ string_bytes file ∷ codes "--pages" ∷ number ∷ codes "--reserve" ∷ [])
      (Grow file pages true)

-- what lines that load a game, or tell the loaded one, ask for
pub record GamesAsk : Type 0 where
  pub load : (name : List ℕ) (file game : Owned) → IsNoOption (string_bytes file) → IsNoOption (string_bytes game)
      → Mean (name ∷ codes "load" ∷ string_bytes file ∷ string_bytes game ∷ []) (Load file game None)
  pub load_goal : (name : List ℕ) (file game : Owned) (points : List ℕ) (goal : Goal)
      → IsNoOption (string_bytes file) → IsNoOption (string_bytes game) → WritesNumber points (points_in goal)
      → Mean (name ∷ codes "load" ∷ string_bytes file ∷ string_bytes game ∷ codes "--goal" ∷ points ∷ [])
      (Load file game (Some goal))
  pub game : (name : List ℕ) (file : Owned) → IsNoOption (string_bytes file)
      → Mean (name ∷ codes "game" ∷ string_bytes file ∷ []) (Game file)

-- what lines that begin a session, or one that only looks, ask for
pub record SittingsAsk : Type 0 where
  pub session : (name : List ℕ) (file : Owned) → IsNoOption (string_bytes file)
      → Mean (name ∷ codes "session" ∷ string_bytes file ∷ []) (Session file false)
  pub session_quiet : (name : List ℕ) (file : Owned) → IsNoOption (string_bytes file)
      → Mean (name ∷ codes "session" ∷ string_bytes file ∷ codes "--quiet" ∷ []) (Session file true)
  pub look : (name : List ℕ) (file : Owned) → IsNoOption (string_bytes file)
      → Mean (name ∷ codes "look" ∷ string_bytes file ∷ []) (Look file false)
  pub look_quiet : (name : List ℕ) (file : Owned) → IsNoOption (string_bytes file)
      → Mean (name ∷ codes "look" ∷ string_bytes file ∷ codes "--quiet" ∷ []) (Look file true)

-- what lines that list moves and actions of a game ask for
pub record MovesAsk : Type 0 where
  pub moves : (name : List ℕ) (game : Owned) → IsNoOption (string_bytes game)
      → Mean (name ∷ codes "moves" ∷ string_bytes game ∷ []) (Moves game None)
  pub moves_at : (name : List ℕ) (game position : Owned)
      → IsNoOption (string_bytes game) → IsNoOption (string_bytes position)
      → Mean (name ∷ codes "moves" ∷ string_bytes game ∷ codes "--at" ∷ string_bytes position ∷ [])
      (Moves game (Some position))
  pub moves_of_input : (name : List ℕ) (game hyphen : Owned)
      → IsNoOption (string_bytes game) → string_bytes hyphen ≡ codes "-"
      → Mean (name ∷ codes "moves" ∷ string_bytes game ∷ codes "--at" ∷ codes "-" ∷ []) (Moves game (Some hyphen))
  pub actions : (name : List ℕ) (game : Owned) → IsNoOption (string_bytes game)
      → Mean (name ∷ codes "actions" ∷ string_bytes game ∷ []) (Actions game)

-- what lines that audit a table, certify a value and check a certificate ask for
pub record ChecksAsk : Type 0 where
  pub audit : (name : List ℕ) (file : Owned) → IsNoOption (string_bytes file)
      → Mean (name ∷ codes "audit" ∷ string_bytes file ∷ []) (Audit file None)
  pub audit_game : (name : List ℕ) (file game : Owned) → IsNoOption (string_bytes file) → IsNoOption (string_bytes game)
      → Mean (name ∷ codes "audit" ∷ string_bytes file ∷ codes "--game" ∷ string_bytes game ∷ [])
      (Audit file (Some game))
  pub certify : (name : List ℕ) (file : Owned) → IsNoOption (string_bytes file)
      → Mean (name ∷ codes "certify" ∷ string_bytes file ∷ []) (Certify file 0)
  pub certify_number : (name : List ℕ) (file : Owned) (number : List ℕ) (position : ℕ)
      → IsNoOption (string_bytes file) → WritesNumber number position
      → Mean (name ∷ codes "certify" ∷ string_bytes file ∷ number ∷ []) (Certify file position)
  pub check : (name : List ℕ) (certificate : Owned) → IsNoOption (string_bytes certificate)
      → Mean (name ∷ codes "check" ∷ string_bytes certificate ∷ []) (Check certificate None)
  pub check_game : (name : List ℕ) (certificate game : Owned)
      → IsNoOption (string_bytes certificate) → IsNoOption (string_bytes game)
      → Mean (name ∷ codes "check" ∷ string_bytes certificate ∷ string_bytes game ∷ [])
      (Check certificate (Some game))
