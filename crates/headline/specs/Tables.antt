-- Tables in brief: what a table tells, when that is so by the rules of its game, and why a command may be refused.
use Rattle.std.specs.Prelude.{◌≡◌, ◌≢◌, ◌↔◌, ℕ, zero, suc, ◌≤◌, ◌<◌, ◌^◌, List, [], ◌∷◌, length, slice_get, Option, None, Some, IsSome}
use Rattle.rbg_text.specs.Token.{Text}
use Rattle.rbg_text.specs.Syntax.{Tokens, Section}
use Rattle.rbg_game.specs.Games.{Game}
use Rattle.rbg_game.specs.declared.position.Position.{Position}
use Rattle.rbg_game.specs.declared.roles.Player.{Player}
use Rattle.rbg_game.specs.declared.roles.Player.TheVariants.{First, Second}
use Rattle.rbg_game.specs.declared.roles.Role.TheVariants.{Keeper}
use Rattle.position_pack.specs.Texts.{text_of}
use Rattle.rbg_read.specs.Means.{Means}
use Rattle.rbg_read.specs.Reads.{Parses, Fault}
use Rattle.rbg_read.specs.declared.fault.GameFault.TheVariants as game_fault
use Rattle.legal_moves.specs.Moves.{IsSuccessor, start_of, score}
use Rattle.legal_moves.specs.Searches.{IsWide}
use Rattle.legal_moves.specs.Sources.{leader}
use Rattle.game_table.specs.Entries.{HasAtMostMoves, pages_taken}
use Rattle.retrograde.specs.Graph.{Graph, IsReachable}
use Rattle.retrograde.specs.Values.{WonIn, Drawn}
use Rattle.retrograde.specs.declared.records.Counts.{Counts}
use Rattle.retrograde.specs.View.{View, HasNumber, IsKnown, HasValue, IsFinished}
use Rattle.best_line.specs.declared.answers.Value.{Value}
use Rattle.best_line.specs.declared.answers.Value.TheVariants.{Open}
use Rattle.best_line.specs.declared.answers.Row.{Row}
use Rattle.best_line.specs.Rows.{AreRows}
use Rattle.best_line.specs.Values.{IsComplete, IsValue}
use Rattle.solver.specs.declared.fault.SolverFault.{SolverFault}
use Rattle.solver.specs.declared.fault.SolverFault.TheVariants.{Disk, TableFull, OutOfMemory, Game as BadGame, NoGame, GameAlready}
use Rattle.solver.specs.declared.fault.SolverFault.TheVariants.{KeeperChooses, TooWide, TooManyPositions}
use Rattle.solver.specs.declared.fault.SolverFault.TheVariants.{NoSuchPosition, NotSettled, BadPosition}
use Rattle.solver.specs.Machine.{Command, load, work}

-- the game that a text says, by the grammar and by what its sections mean; a text that names what it does not declare, or passes a limit, is
-- refused by `load`
pub record TextSays (text : Text) (game : Game) : Type 0 where
  pub tokens : Tokens
  pub sections : List Section
  pub parses : Parses text tokens sections
  pub means : Means sections game

-- the game as a graph of its positions, without a goal or with this one
abbrev pub play_of : Option ℕ → Game → Graph Position
play_of goal game = record {
  start = start_of game;
  mover = λ at. at.state.mover;
  ahead = λ at. leader goal (score First at.state) (score Second at.state);
  Successor = IsSuccessor game;
}

-- what a table tells: the text of its game, its goal, if it has one, and how far each known position has come
pub record BriefTable : Type 0 where
  pub text : Text
  pub goal : Option ℕ
  pub view : View Position

-- what it tells is so by the rules of the game, the only one that its text says: a known position has one number, and the start number 0;
-- play comes to each, and expanded are some of them, settled some of these; a settled one is won by the named player in exactly the named
-- number of moves; and where the table is finished, its positions are those that play can come to, and the unsettled are exactly the drawn
pub record IsTrueIn (game : Game) (table : BriefTable) : Type 0 where
  pub says : TextSays table.text game
  pub only : (other : Game) → TextSays table.text other → other ≡ game
  pub once : (i j : ℕ) (at : Position) → HasNumber table.view i at → HasNumber table.view j at → i ≡ j
  pub start : HasNumber table.view 0 (start_of game)
  pub reached : (at : Position) → IsKnown table.view at → IsReachable (play_of table.goal game) at
  pub expanded : table.view.expanded ≤ length table.view.known
  pub settled : (i : ℕ) → IsSome (table.view.value i) → i < table.view.expanded
  pub won : (at : Position) (w : Player) (n : ℕ) → HasValue table.view at w n → WonIn (play_of table.goal game) w n at
  pub all : IsFinished table.view → (at : Position) → IsKnown table.view at ↔ IsReachable (play_of table.goal game) at
  pub drawn : IsFinished table.view → (i : ℕ) (at : Position) → HasNumber table.view i at
      → (table.view.value i ≡ None) ↔ Drawn (play_of table.goal game) at

-- no game is loaded, or what the table tells is so
abbrev pub IsTrueOfItsGame : Option BriefTable → Type 0
IsTrueOfItsGame None = Unit {0}
IsTrueOfItsGame (Some table) = (game : Game) × IsTrueIn game table

-- a game is loaded, and this is the value of the position with this number: its winner and distance, or whether it is drawn or still open
abbrev pub TellsValue : ℕ → Value → Option BriefTable → Type 0
TellsValue number value None = ⊥
TellsValue number value (Some table) = IsValue table.view number value

-- and this is the text of that position
abbrev pub TellsText : ℕ → Text → Option BriefTable → Type 0
TellsText number text None = ⊥
TellsText number text (Some table) =
    (game : Game) × (at : Position) × TextSays table.text game × HasNumber table.view number at × (text ≡ text_of game at)

-- and it is the text of a position that has this value
abbrev pub TellsValueOf : Text → Value → Option BriefTable → Type 0
TellsValueOf text value table = (number : ℕ) × TellsText number text table × TellsValue number value table

-- and these are the rows from this number on: this many, or up to the last
abbrev pub TellsRows : ℕ → ℕ → List Row → Option BriefTable → Type 0
TellsRows from count rows None = ⊥
TellsRows from count rows (Some table) = AreRows table.view from count rows

-- and these are its counts: how many positions are known, and how many of them expanded; and nothing is left to do by
-- them exactly if it is finished, as a reply says with that word
abbrev pub TellsCounts : Counts → Option BriefTable → Type 0
TellsCounts counts None = ⊥
TellsCounts counts (Some table) =
    (counts.known ≡ length table.view.known) × (counts.expanded ≡ table.view.expanded) × (IsComplete counts ↔ IsFinished table.view)

-- a move leads from the position with the one number to that with the other
pub record IsMoveIn (game : Game) (view : View Position) (i j : ℕ) : Type 0 where
  pub from : Position
  pub to : Position
  pub from_number : HasNumber view i from
  pub to_number : HasNumber view j to
  pub leads : IsSuccessor game from to

-- w wins the first of these numbers in n moves; a move leads from each to the next, which w wins in one fewer; and it
-- wins the last in 0
abbrev pub IsLineIn : Game → View Position → Player → ℕ → List ℕ → Type 0
IsLineIn game view w zero (i ∷ []) = view.value i ≡ Some (w, 0)
IsLineIn game view w (suc n) (i ∷ j ∷ rest) = (view.value i ≡ Some (w, suc n)) × IsMoveIn game view i j × IsLineIn game view w n (j ∷ rest)
IsLineIn game view w _ _ = ⊥

-- and these numbers are a shortest win that begins with that position
abbrev pub TellsLine : ℕ → List ℕ → Option BriefTable → Type 0
TellsLine number numbers None = ⊥
TellsLine number numbers (Some table) =
    (game : Game) × (w : Player) × (n : ℕ) × TextSays table.text game × (slice_get numbers 0 ≡ Some number) × IsLineIn game table.view w n numbers

-- what a call tells of a position: its value; its text, or by its text the number; or a shortest win
pub data Told : Type 0 where
  the_value : (number : ℕ) (value : Value) → Told
  the_text : (number : ℕ) (text : Text) → Told
  the_line : (number : ℕ) (numbers : List ℕ) → Told

-- the table tells this
abbrev pub IsTold : Told → Option BriefTable → Type 0
IsTold (the_value number value) table = TellsValue number value table
IsTold (the_text number text) table = TellsText number text table
IsTold (the_line number numbers) table = TellsLine number numbers table

-- it is told for good: all but that a value is open, which work may settle
abbrev pub IsForGood : Told → Type 0
IsForGood (the_value number Open) = ⊥
IsForGood _ = Unit {0}

-- a game is loaded, and play comes to a position of it of which this is so
abbrev pub ComesTo : Option BriefTable → (Game → Position → Type 0) → Type 0
ComesTo None Such = ⊥
ComesTo (Some table) Such =
    (game : Game) × (at : Position) × TextSays table.text game × IsReachable (play_of table.goal game) at × Such game at

-- these positions all differ, and play comes to each
pub record AreComeTo (game : Game) (goal : Option ℕ) (positions : List Position) : Type 0 where
  pub differ : (i j : ℕ) (at : Position) → slice_get positions i ≡ Some at → slice_get positions j ≡ Some at → i ≡ j
  pub each : (i : ℕ) (at : Position) → slice_get positions i ≡ Some at → IsReachable (play_of goal game) at

-- a game is loaded, and play comes to more positions of it than this
abbrev pub ComesToMore : ℕ → Option BriefTable → Type 0
ComesToMore limit None = ⊥
ComesToMore limit (Some table) =
    (game : Game) × (positions : List Position) × TextSays table.text game × AreComeTo game table.goal positions × (limit < length positions)

-- the keeper has the turn, and moves to two positions
abbrev pub KeeperHasChoice : Game → Position → Type 0
KeeperHasChoice game at =
    (at.state.mover ≡ Keeper) × ((one : Position) × (other : Position) × IsSuccessor game at one × IsSuccessor game at other × (one ≢ other))

-- why `load` may be refused this text, by a table of this many pages on an honest disk; E1 and E8 are not said
abbrev pub RefusesText : Text → ℕ → Option BriefTable → SolverFault → Type 0
RefusesText text pages table Disk = Unit {0}
RefusesText text pages table OutOfMemory = Unit {0}
RefusesText text pages table TableFull = pages < 24
RefusesText text pages table (BadGame fault) = fault ≢ game_fault.OutOfMemory → Fault text fault
RefusesText text pages table GameAlready = IsSome table
RefusesText text pages table _ = ⊥

-- a game is loaded, and something is left to do in its table
abbrev pub IsLeftToDo : Option BriefTable → Type 0
IsLeftToDo None = ⊥
IsLeftToDo (Some table) = ¬ IsFinished table.view

-- a game is loaded, and no more pages are free than 49 * (3 * moves + 2) for each unit, where no more than so many moves lead from a position
-- that play can come to, or to one
abbrev pub IsShort : ℕ → ℕ → Option BriefTable → Type 0
IsShort units free None = ⊥
IsShort units free (Some table) =
    (game : Game) (moves : ℕ) → TextSays table.text game → HasAtMostMoves (play_of table.goal game) moves → free ≤ pages_taken moves units

-- for a command: of one that works; of another nothing is said
abbrev pub IsShortFor : Command → ℕ → Option BriefTable → Type 0
IsShortFor (load text goal) free table = Unit {0}
IsShortFor (work units) free table = IsShort units free table

-- why `work` may be refused by a table on an honest disk; how few pages are free at E7, the call says besides, and E1 and E8 are not said
abbrev pub RefusesWork : Option BriefTable → SolverFault → Type 0
RefusesWork table Disk = Unit {0}
RefusesWork table OutOfMemory = Unit {0}
RefusesWork table TableFull = IsLeftToDo table
RefusesWork table TooManyPositions = ComesToMore (2 ^ 24) table
RefusesWork table NoGame = table ≡ None
RefusesWork table (KeeperChooses number) = ComesTo table KeeperHasChoice
RefusesWork table TooWide = ComesTo table IsWide
RefusesWork table _ = ⊥

-- a game is loaded, and no known position of it has this number
abbrev pub HasNoNumber : ℕ → Option BriefTable → Type 0
HasNoNumber number None = ⊥
HasNoNumber number (Some table) = length table.view.known ≤ number

-- a game is loaded, and nobody is known to win the position with this number
abbrev pub IsUnsettledAt : ℕ → Option BriefTable → Type 0
IsUnsettledAt number None = ⊥
IsUnsettledAt number (Some table) = table.view.value number ≡ None

-- why a table on an honest disk may refuse to tell of the position with this number; E1 and E8 are not said
abbrev pub RefusesNumber : ℕ → Option BriefTable → SolverFault → Type 0
RefusesNumber number table Disk = Unit {0}
RefusesNumber number table OutOfMemory = Unit {0}
RefusesNumber number table NoGame = table ≡ None
RefusesNumber number table NoSuchPosition = HasNoNumber number table
RefusesNumber number table _ = ⊥

-- and its best line
abbrev pub RefusesLine : ℕ → Option BriefTable → SolverFault → Type 0
RefusesLine number table NotSettled = IsUnsettledAt number table
RefusesLine number table fault = RefusesNumber number table fault

-- and its moves
abbrev pub RefusesMoves : ℕ → Option BriefTable → SolverFault → Type 0
RefusesMoves number table TooWide = ComesTo table IsWide
RefusesMoves number table fault = RefusesNumber number table fault

-- and of the position with a text; which texts are those of positions, and of known ones, is not said
abbrev pub RefusesPosition : Option BriefTable → SolverFault → Type 0
RefusesPosition table Disk = Unit {0}
RefusesPosition table OutOfMemory = Unit {0}
RefusesPosition table NoGame = table ≡ None
RefusesPosition table NoSuchPosition = IsSome table
RefusesPosition table BadPosition = IsSome table
RefusesPosition table _ = ⊥

-- and whether the table is right
abbrev pub RefusesAudit : Option BriefTable → SolverFault → Type 0
RefusesAudit table Disk = Unit {0}
RefusesAudit table OutOfMemory = Unit {0}
RefusesAudit table NoGame = table ≡ None
RefusesAudit table TooWide = ComesTo table IsWide
RefusesAudit table _ = ⊥

-- what a call asks of a table: a command; the position with a number, its best line, its moves; the position with a
-- text; or whether it is right
pub data Request : Type 0 where
  to_do : (command : Command) → Request
  of_number : (number : ℕ) → Request
  of_line : (number : ℕ) → Request
  of_moves : (number : ℕ) → Request
  of_text : Request
  of_all : Request

-- why that may be refused, by a table of this many pages
abbrev pub MayRefuse : Request → ℕ → Option BriefTable → SolverFault → Type 0
MayRefuse (to_do (load text goal)) pages table fault = RefusesText text pages table fault
MayRefuse (to_do (work units)) pages table fault = RefusesWork table fault
MayRefuse (of_number number) pages table fault = RefusesNumber number table fault
MayRefuse (of_line number) pages table fault = RefusesLine number table fault
MayRefuse (of_moves number) pages table fault = RefusesMoves number table fault
MayRefuse of_text pages table fault = RefusesPosition table fault
MayRefuse of_all pages table fault = RefusesAudit table fault
