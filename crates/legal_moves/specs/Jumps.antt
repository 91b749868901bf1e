-- Where shifts alone lead in an expression.
use Rattle.std.specs.Prelude.{◌≡◌, ℕ, ◌+◌, ◌*◌, ◌≤◌, ◌<◌, true, List, Option, None, Some, length, slice_get}
use Rattle.rbg_game.specs.Rules.{Regex, Action, shift, on, off, assignment, comparison, switch, pattern, count, action_at}
use Rattle.rbg_game.specs.Games.{Game, neighbour}
use Rattle.legal_moves.specs.Glushkov.{IsNextAt, IsLast}
use Rattle.legal_moves.specs.Configurations.{expressions_of}
use Rattle.legal_moves.specs.declared.automaton.table.Table.{Table}
use Rattle.legal_moves.specs.declared.automaton.jumps.Jump.{Jump}
use Rattle.legal_moves.specs.declared.automaton.jumps.JumpRow.{JumpRow}
use Rattle.legal_moves.specs.declared.automaton.jumps.Jumps.{Jumps}

-- the label of a shift; none for another action
abbrev pub label_in : Option Action → Option ℕ
label_in None = None
label_in (Some (shift l)) = Some l
label_in (Some (on xs)) = None
label_in (Some (off x)) = None
label_in (Some (assignment v r)) = None
label_in (Some (comparison a op b)) = None
label_in (Some (switch r)) = None
label_in (Some (pattern positive e)) = None

-- the occurrence r is a shift that leads from the vertex u to w
abbrev pub IsShiftTo : Game → Regex → ℕ → ℕ → ℕ → Type 0
IsShiftTo game e r u w = (label : ℕ) × (label_in (action_at e 1 r) ≡ Some label) × (neighbour game u label ≡ Some w)

-- shifts one after another lead from the number p at the vertex v to a number and a vertex
pub data Shifts (game : Game) (e : Regex) (p v : ℕ) : ℕ → ℕ → Type 0 where
  still : Shifts game e p v p v
  further : (q u r w : ℕ) → Shifts game e p v q u → IsNextAt e q r → IsShiftTo game e r u w → Shifts game e p v r w

-- a number and a vertex that are listed
abbrev pub IsAmong : List Jump → ℕ → ℕ → Type 0
IsAmong js r u = (i : ℕ) × (j : Jump) × (slice_get js i ≡ Some j) × (j.number ≡ r) × (j.vertex ≡ u)

-- all that shifts lead to from p and v is among as many
abbrev pub AreMet : Game → Regex → ℕ → ℕ → ℕ → Type 0
AreMet game e p v n = (js : List Jump) × (length js ≤ n) × ((q u : ℕ) → Shifts game e p v q u → IsAmong js q u)

-- the row of p and v: the occurrences other than shifts that shifts lead to, each with its vertex, whether a word ends at a shift on the way,
-- and how many numbers and vertices are met
pub record IsRow (game : Game) (e : Regex) (p v : ℕ) (row : JumpRow) : Type 0 where
  pub only : (r u : ℕ) → IsAmong row.to.items r u → (q : ℕ) × Shifts game e p v q u × IsNextAt e q r
  pub all : (q u r : ℕ) → Shifts game e p v q u → IsNextAt e q r → label_in (action_at e 1 r) ≡ None → IsAmong row.to.items r u
  pub ends_only : row.ends ≡ true → (q u r w : ℕ) × Shifts game e p v q u × IsNextAt e q r × IsShiftTo game e r u w × IsLast e 1 r
  pub ends_all : (q u r w : ℕ) → Shifts game e p v q u → IsNextAt e q r → IsShiftTo game e r u w → IsLast e 1 r → row.ends ≡ true
  pub met_are : AreMet game e p v row.met

-- if there are rows, there is one for each number and vertex
pub record AreJumpRows (game : Game) (e : Regex) (jumps : Jumps) : Type 0 where
  pub whole : 0 < length jumps.rows.items → length jumps.rows.items ≡ (count e + 1) * length game.vertices
  pub each : (p v : ℕ) (row : JumpRow) → v < length game.vertices → slice_get jumps.rows.items (p * length game.vertices + v) ≡ Some row
      → IsRow game e p v row

-- the same, and if there are rows, no search of the expression is too wide
pub record AreNarrowRows (game : Game) (e : Regex) (table : Table) (jumps : Jumps) : Type 0 where
  pub rows_are : AreJumpRows game e jumps
  pub narrow : 0 < length jumps.rows.items → table.narrow ≡ true

-- the jumps of each table
pub record AreJumps (game : Game) (tables : List Table) (jumps : List Jumps) : Type 0 where
  pub as_many : length jumps ≡ length tables
  pub each : (i : ℕ) (table : Table) (e : Regex) (js : Jumps) → slice_get tables i ≡ Some table → slice_get (expressions_of game) i ≡ Some e
      → slice_get jumps i ≡ Some js → AreNarrowRows game e table js
