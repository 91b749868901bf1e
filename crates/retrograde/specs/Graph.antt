-- A game of two players and a keeper, as a graph of positions.
use Rattle.std.specs.Prelude.{◌≡◌, Option}
use Rattle.rbg_game.specs.declared.roles.Player.{Player}
use Rattle.rbg_game.specs.declared.roles.Role.{Role}

-- where play starts, who has the turn, who is ahead, and where a move can lead
pub record Graph (P : Type 0) : Type 1 where
  pub start : P
  pub mover : P → Role
  pub ahead : P → Option Player
  pub Successor : P → P → Type 0

-- the turn is this player's
abbrev pub Moves : {P : Type 0} → Graph P → Player → P → Type 0
Moves graph w x = graph.mover x ≡ Role.Player w

-- there is a move
abbrev pub HasMove : {P : Type 0} → Graph P → P → Type 0
HasMove {P} graph x = (y : P) × graph.Successor x y

-- there is no move
abbrev pub IsEnded : {P : Type 0} → Graph P → P → Type 0
IsEnded {P} graph x = (y : P) → graph.Successor x y → ⊥

-- the positions that play can come to
pub data IsReachable {P : Type 0} (graph : Graph P) : P → Type 0 where
  at_start : IsReachable graph graph.start
  by_move : {x y : P} → IsReachable graph x → graph.Successor x y → IsReachable graph y
