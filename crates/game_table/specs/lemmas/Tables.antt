-- When a table is one of a game, and what units of work on it come to.
use Rattle.std.specs.Prelude.{◌≡◌, ℕ, List, slice_get, Some}
use Rattle.rbg_game.specs.declared.position.Position.{Position}
use Rattle.position_pack.specs.Packings.{Form, IsPacked}

-- these are the bytes of a position that is packed so, with its fields in their ranges
abbrev pub IsPackedBytes : Form → List ℕ → Type 0
IsPackedBytes form x = (at : Position) × IsPacked form at x

-- each of these is
abbrev pub ArePacked : Form → List (List ℕ) → Type 0
ArePacked form positions = (i : ℕ) (x : List ℕ) → slice_get positions i ≡ Some x → IsPackedBytes form x
